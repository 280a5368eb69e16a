-- The lines of a text, from its front.
use Rattle.std.proofs.Common.{◌≡◌, ◌++◌, if◌then◌else◌, true, false, ◌<◌, ◌==◌, ℕ, List, [], ◌∷◌, length, sym, ap, ◌∙◌, refl, append_assoc, append-nil, arith}
use Rattle.std.proofs.lemmas.Bool.{ne_eqb}
use Rattle.std.proofs.lemmas.List.Concat.{flat_map-append}
use Rattle.std.specs.List.{onto_first}
use Rattle.lk_text.specs.Feeds.{HasNoFeed, pieces, line_of}
use Rattle.lk_forms.specs.Trace.{bytes_of, whole_lines, onto_some}
use Rattle.lk_stream.specs.Reads.{AllWhole}

pub pieces_at_feed : (line rest : List ℕ) → HasNoFeed line
    → pieces (line ++ 10 ∷ rest) ≡ (line ++ 10 ∷ []) ∷ pieces rest
pieces_at_feed [] rest p = refl
pieces_at_feed (b ∷ line) rest p =
    rw (ne_eqb b 10 p.0) (ap (onto_first b) (pieces_at_feed line rest p.1))

pub pieces_last : (line : List ℕ) → HasNoFeed line → 0 < length line → pieces line ≡ line ∷ []
pieces_last [] p some = absurd (omega arith)
pieces_last (b ∷ []) p some = rw (ne_eqb b 10 p.0) refl
pieces_last (b ∷ c ∷ line) p some =
    rw (ne_eqb b 10 p.0) (ap (onto_first b) (pieces_last (c ∷ line) p.1 (omega arith)))

pub line_of_feed : (line rest : List ℕ) → HasNoFeed line → line_of (line ++ 10 ∷ rest) ≡ line
line_of_feed [] rest p = refl
line_of_feed (b ∷ line) rest p = rw (ne_eqb b 10 p.0) (ap (λ l. b ∷ l) (line_of_feed line rest p.1))

pub line_of_plain : (line : List ℕ) → HasNoFeed line → line_of line ≡ line
line_of_plain [] p = refl
line_of_plain (b ∷ line) p = rw (ne_eqb b 10 p.0) (ap (λ l. b ∷ l) (line_of_plain line p.1))

pub line_of_front : (front rest : List ℕ) → HasNoFeed front
    → line_of (front ++ rest) ≡ front ++ line_of rest
line_of_front [] rest p = refl
line_of_front (b ∷ front) rest p =
    rw (ne_eqb b 10 p.0) (ap (λ l. b ∷ l) (line_of_front front rest p.1))

-- the first line begins with the first byte
pieces_first : (b : ℕ) (lines : List (List ℕ))
    → (p : List ℕ) × (ps : List (List ℕ)) × (onto_first b lines ≡ (b ∷ p) ∷ ps)
pieces_first b [] = ([], [], refl)
pieces_first b (line ∷ lines) = (line, lines, refl)

pieces_some : (b : ℕ) (rest : List ℕ)
    → (p : List ℕ) × (ps : List (List ℕ)) × (pieces (b ∷ rest) ≡ (b ∷ p) ∷ ps)
pieces_some b rest =
    elim (b == 10) as
    (λ t. (p : List ℕ) × (ps : List (List ℕ))
    × ((if t then (b ∷ []) ∷ pieces rest else onto_first b (pieces rest)) ≡ (b ∷ p) ∷ ps)) [
      | true ↦ ([], pieces rest, refl)
      | false ↦ pieces_first b (pieces rest)
    ]

-- the first line begins with these bytes, none of which but the last may be a line feed
pub pieces_front : (front : List ℕ) (last : ℕ) (rest : List ℕ) → HasNoFeed front
    → (p : List ℕ) × (ps : List (List ℕ))
    × (pieces (front ++ last ∷ rest) ≡ (front ++ last ∷ p) ∷ ps)
pieces_front [] last rest plain = pieces_some last rest
pieces_front (b ∷ front) last rest plain =
    let more = pieces_front front last rest plain.1 in
    (more.0, more.1, rw (ne_eqb b 10 plain.0) (ap (onto_first b) more.2))

pub bytes_of-push : (before : List (List ℕ)) (piece : List ℕ)
    → bytes_of (before ++ piece ∷ []) ≡ bytes_of before ++ piece
bytes_of-push before piece =
    flat_map-append _ before (piece ∷ []) ∙ ap (λ l. bytes_of before ++ l) (append-nil piece)

pub AllWhole-push : (before : List (List ℕ)) (line : List ℕ) → AllWhole before → HasNoFeed line
    → AllWhole (before ++ (line ++ 10 ∷ []) ∷ [])
AllWhole-push [] line w plain = ((line, refl, plain), tt)
AllWhole-push (piece ∷ before) line w plain = (w.0, AllWhole-push before line w.1 plain)

whole_at_feed : (line rest : List ℕ) → HasNoFeed line
    → whole_lines (line ++ 10 ∷ rest) ≡ (line ++ 10 ∷ []) ∷ whole_lines rest
whole_at_feed [] rest p = refl
whole_at_feed (b ∷ line) rest p =
    rw (ne_eqb b 10 p.0) (ap (onto_some b) (whole_at_feed line rest p.1))

no_whole : (part : List ℕ) → HasNoFeed part → whole_lines part ≡ []
no_whole [] p = refl
no_whole (b ∷ part) p = rw (ne_eqb b 10 p.0) (ap (onto_some b) (no_whole part p.1))

-- the whole lines of what was taken
pub whole_lines_of : (before : List (List ℕ)) (part : List ℕ) → AllWhole before → HasNoFeed part
    → whole_lines (bytes_of before ++ part) ≡ before
whole_lines_of [] part w plain = no_whole part plain
whole_lines_of (piece ∷ before) part w plain =
    let line = w.0.0 in
    let split : bytes_of (piece ∷ before) ++ part ≡ line ++ 10 ∷ (bytes_of before ++ part) =
    append_assoc piece (bytes_of before) part ∙ ap
    (λ l. l ++ (bytes_of before ++ part)) w.0.1 ∙ append_assoc line (10 ∷ [])
    (bytes_of before ++ part) in
    ap whole_lines split ∙ whole_at_feed line (bytes_of before ++ part) w.0.2 ∙ ap
    (λ l. l ∷ whole_lines (bytes_of before ++ part)) (sym w.0.1) ∙ ap (λ l. piece ∷ l)
    (whole_lines_of before part w.1 plain)

-- the first line begins with these bytes, none of which is a line feed
pub pieces_begin : (front rest : List ℕ) → HasNoFeed front → 0 < length front
    → (p : List ℕ) × (ps : List (List ℕ)) × (pieces (front ++ rest) ≡ (front ++ p) ∷ ps)
pieces_begin [] rest plain some = absurd (omega arith)
pieces_begin (b ∷ []) rest plain some = pieces_some b rest
pieces_begin (b ∷ c ∷ front) rest plain some =
    let more = pieces_begin (c ∷ front) rest plain.1 (omega arith) in
    (more.0, more.1, rw (ne_eqb b 10 plain.0) (ap (onto_first b) more.2))
