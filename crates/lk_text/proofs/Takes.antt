-- A line that ends in the pending bytes, or at the end of input, is the next line.
use Rattle.std.proofs.Common.{Bool, append-nil, ◌≡◌, ◌+◌, ◌-◌, slice_range, ◌≤◌, ◌<◌, ◌++◌, ◌⊎◌, ℕ, List, [], ◌∷◌, Option, None, Some, length, take, drop, sym, ap, ◌∙◌, arith, inl, inr, take-append-drop, append_assoc, eqb, subst}
use Rattle.std.proofs.lemmas.List.{length-take-le, drop_all, take-take}
use Rattle.std.proofs.lemmas.Bool.{eq-eqb, ne_eqb}
use Rattle.std.proofs.Math.Seq.{take-add}
use Rattle.std.specs.Io.KnownBytes.{Keeps, Consumes, IsAtEnd, prepend_known}
use Rattle.lk_text.proofs.FeedLemmas.{part_is}
use Rattle.lk_text.proofs.Pieces.{pieces_at_feed, pieces_last}
use Rattle.lk_text.specs.Feeds.{HasNoFeed, pieces}
use Rattle.lk_text.specs.Lines.{IsPiece, IsFirstLine, TakesLine}
use Rattle.lk_text.specs.Reader.{EndsAt}

-- a front of the pending bytes is a front of the unread ones
pub Consumes-front : (before left : Option (List ℕ)) (bytes front rest : List ℕ) → Keeps before (prepend_known bytes left) → bytes ≡ front ++ rest
    → Consumes before (prepend_known rest left) front
Consumes-front None left bytes front rest k e = tt
Consumes-front (Some xs) None bytes front rest k e = absurd k
Consumes-front (Some xs) (Some ys) bytes front rest k e = sym k ∙ ap (λ l. l ++ ys) e ∙ append_assoc front rest ys

-- nothing is unread where nothing is pending and the source is at its end
IsAtEnd-rest : (left : Option (List ℕ)) (rest : List ℕ) → rest ≡ [] → IsAtEnd left → IsAtEnd (prepend_known rest left)
IsAtEnd-rest None rest e h = tt
IsAtEnd-rest (Some xs) rest e h = ap (λ l. l ++ xs) e ∙ h

-- a line that is taken from the front is the first of the lines of a text
first_line : (before after : Option (List ℕ)) (line piece : List ℕ) (ended : Bool) → Consumes before after piece → IsPiece line piece after ended
    → HasNoFeed line → IsFirstLine before after piece
first_line None after line piece ended taken ends plain = tt
first_line (Some xs) None line piece ended taken ends plain = tt
first_line (Some xs) (Some ys) line piece ended taken (inl (same, _)) plain =
    ap pieces (taken ∙ ap (λ l. l ++ ys) same ∙ append_assoc line (10 ∷ []) ys) ∙ pieces_at_feed line ys plain ∙ ap (λ l. l ∷ pieces ys) (sym same)
first_line (Some xs) (Some ys) line piece ended taken (inr (same, some, over, _)) plain =
    ap pieces (taken ∙ ap (λ l. piece ++ l) over ∙ append-nil piece ∙ same) ∙ pieces_last line plain some
    ∙ sym (ap (λ l. l ∷ pieces ys) same ∙ ap (λ l. line ∷ pieces l) over)

-- the bytes up to the end of the line are its piece
piece_at : (bytes : List ℕ) (left : Option (List ℕ)) (line all : ℕ) → 0 < all
    → ((all ≡ line + 1) × (drop line bytes ≡ 10 ∷ drop (line + 1) bytes)) ⊎ ((all ≡ line) × (line ≡ length bytes) × IsAtEnd left)
    → IsPiece (take line bytes) (take all bytes) (prepend_known (drop all bytes) left) (eqb all line)
piece_at bytes left line all some (inl (size, here)) =
    inl (ap (λ n. take n bytes) size ∙ take-add line 1 bytes ∙ ap (λ l. take line bytes ++ take 1 l) here, ne_eqb all line (λ e. omega arith))
piece_at bytes left line all some (inr (size, whole, over)) =
    inr (ap (λ n. take n bytes) size, (let e = length-take-le line bytes (omega arith) in omega arith), IsAtEnd-rest left (drop all bytes) (drop_all all bytes (omega arith)) over, eq-eqb all line size)

-- the line that ends there is taken
pub takes_line : (before left : Option (List ℕ)) (bytes : List ℕ) (looked line all : ℕ) → EndsAt bytes left looked line all → 0 < all → line ≤ all
    → Keeps before (prepend_known bytes left) → TakesLine before (prepend_known (drop all bytes) left) looked (looked + all) (eqb all line) (take line bytes)
takes_line before left bytes looked line all ends some near k =
    let taken = Consumes-front before left bytes (take all bytes) (drop all bytes) k (sym (take-append-drop all bytes)) in
    let piece = piece_at bytes left line all some ends.ends in record {
      piece = take all bytes;
      taken = taken;
      first = first_line _ _ _ _ _ taken piece ends.plain;
      ends = piece;
      plain = ends.plain;
      short = (let e = length-take-le line bytes (let f = ends.fits in omega arith) in rw e ends.short);
      counted = ap (λ n. looked + n) (sym (length-take-le all bytes ends.fits));
      within = ends.within;
    }

-- a front of a part of a block, by places of the block
part_take : (xs : List ℕ) (at end n : ℕ) → n ≤ end - at → take n (slice_range xs at end) ≡ slice_range xs at (at + n)
part_take xs at end n fits =
    let m : n ≡ at + n - at = omega arith in
    take-take n (end - at) (drop at xs) fits ∙ ap (λ k. take k (drop at xs)) m

-- the same, by places of a block
pub takes_line_at : (before left : Option (List ℕ)) (block : List ℕ) (at end looked looked' line all : ℕ) → EndsAt (slice_range block at end) left looked' line all
    → 0 < all → line ≤ all → at + all ≤ end → looked' ≡ looked → Keeps before (prepend_known (slice_range block at end) left)
    → TakesLine before (prepend_known (slice_range block (at + all) end) left) looked (looked' + all) (eqb all line) (slice_range block at (at + line))
takes_line_at before left block at end looked looked' line all ends some near fits same k =
    rw (part_is block at all end, ← part_take block at end line (omega arith), ← same) (takes_line before left (slice_range block at end) looked' line all ends some near k)

-- the same, where it is known whether the input has ended
pub takes_ending : (before after : Option (List ℕ)) (looked looked' : ℕ) (tested ended : Bool) (line : List ℕ) → tested ≡ ended
    → TakesLine before after looked looked' tested line → TakesLine before after looked looked' ended line
takes_ending before after looked looked' tested ended line same takes =
    subst (λ b. TakesLine before after looked looked' b line) same takes
