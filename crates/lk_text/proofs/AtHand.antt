-- When a whole line is at hand.
use Rattle.std.proofs.Common.{◌≡◌, ◌≢◌, ◌<◌, ◌+◌, ◌-◌, List, [], ◌∷◌, ℕ, zero, suc, Option, false, get_or, length, drop, ap, ◌∙◌, arith, inl, inr, eqb}
use Rattle.std.proofs.lemmas.List.{get_or-take, get_or-drop}
use Rattle.std.proofs.lemmas.List.Edits.{length-between}
use Rattle.std.proofs.lemmas.Bool.{cases_lt, le-ltb, ne_eqb}
use Rattle.lk_text.specs.Feeds.{HasNoFeed}
use Rattle.lk_text.specs.Reader.{pending, is_at_hand, EndsAt}
use Rattle.lk_text.specs.declared.reader.LineReader.{LineReader}

-- where no byte is a line feed, none is found at any place
not_feed_at : (xs : List ℕ) (k : ℕ) → HasNoFeed xs → get_or xs k 0 ≢ 10
not_feed_at [] zero p e = absurd (omega (arith, e))
not_feed_at [] (suc k) p e = absurd (omega (arith, e))
not_feed_at (x ∷ xs) zero p e = p.0 e
not_feed_at (x ∷ xs) (suc k) p e = not_feed_at xs k p.1 e

-- a reader with no pending line feed has to read
pub none_at_hand : (reader : LineReader) → HasNoFeed (pending reader) → is_at_hand reader ≡ false
none_at_hand reader plain = elim (cases_lt reader.at reader.whole) [
  | inl below ↦
      let place : ℕ = reader.whole - 1 - reader.at in
      let items : List ℕ = reader.block.items in
      absurd (not_feed_at (pending reader) place plain
      (get_or-take (reader.end - reader.at) (drop reader.at items) place 0 (omega (arith, reader.whole_within))
      ∙ get_or-drop reader.at items place 0 ∙ ap (λ n. get_or items n 0) (omega arith) ∙ reader.feed (omega arith)))
  | inr past ↦ le-ltb reader.at reader.whole past
]

-- how many bytes are pending
pub length-pending : (reader : LineReader) → length (pending reader) ≡ reader.end - reader.at
length-pending reader = length-between _ _ _ (omega (arith, reader.in_block, reader.room, reader.block.ok.0))

-- a line that leaves another at hand has a line feed
pub has_feed : (reader : LineReader) (left : Option (List ℕ)) (looked line all : ℕ) → EndsAt (pending reader) left looked line all
    → reader.at + all < reader.whole → eqb all line ≡ false
has_feed reader left looked line all found more = elim found.ends [
  | inl (size, here) ↦ ne_eqb all line (λ e. omega arith)
  | inr (same, last, over) ↦
      let size = length-pending reader in
      absurd (omega (arith, reader.whole_within, size))
]
