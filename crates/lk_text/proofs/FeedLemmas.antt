-- Bytes with no line feed, found by index.
use Rattle.std.proofs.Common.{◌≡◌, ◌≢◌, ◌<◌, ◌+◌, ◌++◌, List, [], ◌∷◌, ℕ, zero, suc, Option, Some, None, length, take, drop, get_or, eq-eqb, sym, arith, slice_range, MatchOption, ap, ◌∙◌, ◌-◌, ◌≤◌, subst}
use Rattle.std.proofs.lemmas.List.{drop_more, take_all, length-take, length-drop, drop-drop, take-take, take-append-drop, get_or-take, get_or-drop}
use Rattle.std.proofs.lemmas.Slice.{between_is}
use Rattle.std.proofs.Math.Seq.{take-add}
use Rattle.std.proofs.lemmas.Bool.{eqb-true}
use Rattle.memchr.specs.Find.{IsFirstByte, is_byte}
use Rattle.lk_text.specs.Feeds.{HasNoFeed, FeedAt}

-- there is no line feed below a place if none of the bytes there is one
pub no_feed_below : (xs : List ℕ) (k : ℕ) → ((j : ℕ) → j < k → j < length xs → get_or xs j 0 ≢ 10) → HasNoFeed (take k xs)
no_feed_below [] zero h = tt
no_feed_below [] (suc k) h = tt
no_feed_below (x ∷ xs) zero h = tt
no_feed_below (x ∷ xs) (suc k) h =
    (h 0 (omega arith) (omega arith), no_feed_below xs k (λ j below fits. h (suc j) (omega arith) (omega arith)))

-- what a search for the first line feed says
abbrev FoundAt : List ℕ → Option ℕ → Type 0
FoundAt xs r = MatchOption r (HasNoFeed xs) (λ k. (k < length xs) × HasNoFeed (take k xs) × (drop k xs ≡ 10 ∷ drop (k + 1) xs))

-- a search that goes byte by byte finds the first line feed
pub found_first : (xs : List ℕ) (r : Option ℕ) → IsFirstByte (is_byte 10) xs r → FoundAt xs r
found_first xs None none =
    rw (take_all (length xs) xs (omega arith)) at (no_feed_below xs (length xs) (λ j below fits e. none j (omega arith) fits (eq-eqb _ _ e)))
found_first xs (Some k) found =
    let fits : k < length xs = found.0.high in
    let here : get_or xs k 0 ≡ 10 = eqb-true _ _ found.1 in (
      fits,
      no_feed_below xs k (λ j below fits e. found.0.before j (omega arith) below (eq-eqb _ _ e)),
      drop_more xs k 0 fits ∙ ap (λ b. b ∷ drop (k + 1) xs) here,
    )

pub HasNoFeed-append : (xs ys : List ℕ) → HasNoFeed xs → HasNoFeed ys → HasNoFeed (xs ++ ys)
HasNoFeed-append [] ys p q = q
HasNoFeed-append (x ∷ xs) ys p q = (p.0, HasNoFeed-append xs ys p.1 q)

pub HasNoFeed-take : (xs : List ℕ) (n : ℕ) → HasNoFeed xs → HasNoFeed (take n xs)
HasNoFeed-take [] zero p = tt
HasNoFeed-take [] (suc n) p = tt
HasNoFeed-take (x ∷ xs) zero p = tt
HasNoFeed-take (x ∷ xs) (suc n) p = (p.0, HasNoFeed-take xs n p.1)

-- a part of a block from a later place is the part with its first bytes dropped
pub part_is : (xs : List ℕ) (at clear end : ℕ) → slice_range xs (at + clear) end ≡ drop clear (slice_range xs at end)
part_is xs at clear end =
    between_is xs (at + clear) end ∙ sym (drop-drop clear at (take end xs)) ∙ ap (drop clear) (sym (between_is xs at end))

-- the same, in a part of a block of which some is known to have none
pub found_in_part : (xs : List ℕ) (at clear end k : ℕ) → HasNoFeed (take clear (slice_range xs at end))
    → IsFirstByte (is_byte 10) (slice_range xs (at + clear) end) (Some k) → FeedAt (slice_range xs at end) (clear + k)
found_in_part xs at clear end k plain found =
    let part = slice_range xs at end in
    let h = found_first (drop clear part) (Some k) (rw part_is at found) in record {
      within = omega (arith, simp length-drop at h.0);
      plain = rw take-add (HasNoFeed-append _ _ plain h.1);
      here = sym (drop-drop k clear part) ∙ h.2 ∙ ap (λ l. 10 ∷ l) (drop-drop (k + 1) clear part ∙ ap (λ n. drop n part) (omega arith));
    }

-- no line feed is in a part whose front has none, where none was found behind that front
pub none_in_part : (xs : List ℕ) (at clear end : ℕ) → HasNoFeed (take clear (slice_range xs at end))
    → IsFirstByte (is_byte 10) (slice_range xs (at + clear) end) None → HasNoFeed (slice_range xs at end)
none_in_part xs at clear end plain found =
    let part = slice_range xs at end in
    rw take-append-drop at (HasNoFeed-append _ _ plain (found_first (drop clear part) None (rw part_is at found)))

-- the byte at the place of a line feed
pub read_at_feed : (bytes : List ℕ) (line : ℕ) → drop line bytes ≡ 10 ∷ drop (line + 1) bytes → get_or bytes line 0 ≡ 10
read_at_feed bytes line here =
    ap (λ n. get_or bytes n 0) (omega arith) ∙ sym (get_or-drop line bytes 0 0) ∙ ap (λ l. get_or l 0 0) here

-- a line feed that is found among fewer bytes is the first of all
FeedAt-more : (xs : List ℕ) (n k : ℕ) → FeedAt (take n xs) k → FeedAt xs k
FeedAt-more xs n k found =
    let near : k < n = omega (arith, simp length-take at found.within) in
    let fits : k < length xs = omega (arith, simp length-take at found.within) in
    let feed : get_or xs k 0 ≡ 10 = sym (get_or-take n xs k 0 near) ∙ read_at_feed (take n xs) k found.here in record {
      within = fits;
      plain = subst HasNoFeed (take-take k n xs (omega arith)) found.plain;
      here = drop_more xs k 0 fits ∙ ap (λ b. b ∷ drop (k + 1) xs) feed;
    }

-- a search of a part that ends early finds the first line feed of the whole part
pub found_near : (xs : List ℕ) (at clear near end k : ℕ) → HasNoFeed (take clear (slice_range xs at end))
    → IsFirstByte (is_byte 10) (slice_range xs (at + clear) near) (Some k) → at + clear ≤ near → near ≤ end
    → FeedAt (slice_range xs at end) (clear + k)
found_near xs at clear near end k plain found ordered within =
    let rest : List ℕ = drop at xs in
    let front : take clear (slice_range xs at near) ≡ take clear (slice_range xs at end) =
    take-take clear (near - at) rest (omega arith) ∙ sym (take-take clear (end - at) rest (omega arith)) in
    let part : slice_range xs at near ≡ take (near - at) (slice_range xs at end) =
    sym (take-take (near - at) (end - at) rest (omega arith)) in
    FeedAt-more (slice_range xs at end) (near - at) (clear + k)
    (subst (λ l. FeedAt l (clear + k)) part (found_in_part xs at clear near k (subst HasNoFeed (sym front) plain) found))
