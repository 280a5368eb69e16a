-- The lines of a text, from its front.
use Rattle.std.proofs.Common.{◌≡◌, ◌++◌, if◌then◌else◌, true, false, ◌<◌, ◌==◌, ℕ, List, [], ◌∷◌, length, ap, refl, arith}
use Rattle.std.proofs.lemmas.Bool.{ne_eqb}
use Rattle.std.specs.List.{onto_first}
use Rattle.lk_text.specs.Feeds.{HasNoFeed, pieces, line_of}

-- a line with its line feed is the first line, whatever stands behind it
pub pieces_at_feed : (line rest : List ℕ) → HasNoFeed line → pieces (line ++ 10 ∷ rest) ≡ (line ++ 10 ∷ []) ∷ pieces rest
pieces_at_feed [] rest p = refl
pieces_at_feed (b ∷ line) rest p = rw (ne_eqb b 10 p.0) (ap (onto_first b) (pieces_at_feed line rest p.1))

-- a text with no line feed is one line
pub pieces_last : (line : List ℕ) → HasNoFeed line → 0 < length line → pieces line ≡ line ∷ []
pieces_last [] p some = absurd (omega arith)
pieces_last (b ∷ []) p some = rw (ne_eqb b 10 p.0) refl
pieces_last (b ∷ c ∷ line) p some = rw (ne_eqb b 10 p.0) (ap (onto_first b) (pieces_last (c ∷ line) p.1 (omega arith)))

-- a line with its line feed, whatever stands behind it, without that
pub line_of_feed : (line rest : List ℕ) → HasNoFeed line → line_of (line ++ 10 ∷ rest) ≡ line
line_of_feed [] rest p = refl
line_of_feed (b ∷ line) rest p = rw (ne_eqb b 10 p.0) (ap (λ l. b ∷ l) (line_of_feed line rest p.1))

-- a line that has no line feed is itself
pub line_of_plain : (line : List ℕ) → HasNoFeed line → line_of line ≡ line
line_of_plain [] p = refl
line_of_plain (b ∷ line) p = rw (ne_eqb b 10 p.0) (ap (λ l. b ∷ l) (line_of_plain line p.1))

-- bytes with no line feed are a front of the line
pub line_of_front : (front rest : List ℕ) → HasNoFeed front → line_of (front ++ rest) ≡ front ++ line_of rest
line_of_front [] rest p = refl
line_of_front (b ∷ front) rest p = rw (ne_eqb b 10 p.0) (ap (λ l. b ∷ l) (line_of_front front rest p.1))

-- a byte put before the first line
onto_first_is : (b : ℕ) (lines : List (List ℕ)) → (p : List ℕ) × (ps : List (List ℕ)) × (onto_first b lines ≡ (b ∷ p) ∷ ps)
onto_first_is b [] = ([], [], refl)
onto_first_is b (line ∷ lines) = (line, lines, refl)

-- the first line begins with the first byte
pieces_some : (b : ℕ) (rest : List ℕ) → (p : List ℕ) × (ps : List (List ℕ)) × (pieces (b ∷ rest) ≡ (b ∷ p) ∷ ps)
pieces_some b rest = elim (b == 10) as (λ t. (p : List ℕ) × (ps : List (List ℕ)) × ((if t then (b ∷ []) ∷ pieces rest else onto_first b (pieces rest)) ≡ (b ∷ p) ∷ ps)) [
  | true ↦ ([], pieces rest, refl)
  | false ↦ onto_first_is b (pieces rest)
]

-- the first line begins with these bytes, of which the last alone may be a line feed
pub pieces_front : (front : List ℕ) (last : ℕ) (rest : List ℕ) → HasNoFeed front
    → (p : List ℕ) × (ps : List (List ℕ)) × (pieces (front ++ last ∷ rest) ≡ (front ++ last ∷ p) ∷ ps)
pieces_front [] last rest plain = pieces_some last rest
pieces_front (b ∷ front) last rest plain =
    let more = pieces_front front last rest plain.1 in
    (more.0, more.1, rw (ne_eqb b 10 plain.0) (ap (onto_first b) more.2))

-- the first line begins with these bytes, none of which is a line feed
pub pieces_begin : (front rest : List ℕ) → HasNoFeed front → 0 < length front → (p : List ℕ) × (ps : List (List ℕ)) × (pieces (front ++ rest) ≡ (front ++ p) ∷ ps)
pieces_begin [] rest plain some = absurd (omega arith)
pieces_begin (b ∷ []) rest plain some = pieces_some b rest
pieces_begin (b ∷ c ∷ front) rest plain some =
    let more = pieces_begin (c ∷ front) rest plain.1 (omega arith) in
    (more.0, more.1, rw (ne_eqb b 10 plain.0) (ap (onto_first b) more.2))
