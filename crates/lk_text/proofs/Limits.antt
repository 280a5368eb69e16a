-- Where a line passes a limit.
use Rattle.std.proofs.Common.{◌≡◌, ◌≤◌, ◌<◌, ◌+◌, ◌-◌, ◌^◌, ◌++◌, List, [], ◌∷◌, ℕ, Option, Some, None, length, take, drop, get_or, sym, ap, ◌∙◌, subst, append_assoc, take-append-drop, arith, inl, inr}
use Rattle.std.proofs.lemmas.List.{length-take-le, take-take, drop_more}
use Rattle.std.proofs.lemmas.Bool.{cases_lt}
use Rattle.std.specs.Io.KnownBytes.{prepend_known, Keeps}
use Rattle.lk_text.specs.Feeds.{HasNoFeed}
use Rattle.lk_text.specs.Lines.{Begins, PassesLineLimit, PassesInputLimit}
use Rattle.lk_text.proofs.FeedLemmas.{HasNoFeed-take}

-- the unread bytes begin as the pending ones do
pub Begins-prepend : (bytes front rest : List ℕ) (left : Option (List ℕ)) → bytes ≡ front ++ rest → Begins (prepend_known bytes left) front
Begins-prepend bytes front rest None e = tt
Begins-prepend bytes front rest (Some xs) e = (rest ++ xs, ap (λ l. l ++ xs) e ∙ append_assoc front rest xs)

-- how the unread bytes begin does not change as more are read
pub Begins-kept : (old new : Option (List ℕ)) (front : List ℕ) → Keeps old new → Begins new front → Begins old front
Begins-kept None new front k b = tt
Begins-kept (Some xs) None front k b = absurd k
Begins-kept (Some xs) (Some ys) front k b = (b.0, sym k ∙ b.1)

-- more than 4,096 bytes were found with no line feed, within the limit of the input
pub long_passes : (bytes : List ℕ) (looked line : ℕ) → HasNoFeed (take line bytes) → line ≤ length bytes → 4096 < line → looked + 4096 ≤ 2 ^ 30
    → (left : Option (List ℕ)) → PassesLineLimit (prepend_known bytes left) looked
long_passes bytes looked line plain fits long within left = record {
  front = take 4097 bytes;
  stands = Begins-prepend bytes (take 4097 bytes) (drop 4097 bytes) left (sym (take-append-drop 4097 bytes));
  plain = subst HasNoFeed (take-take 4097 line bytes (omega arith)) (HasNoFeed-take (take line bytes) 4097 plain);
  long = length-take-le 4097 bytes (omega arith);
  within = within;
}

-- so many bytes may still be looked at, and the byte behind them has to be
pub much_passes : (bytes : List ℕ) (looked line all : ℕ) → HasNoFeed (take line bytes) → all ≤ length bytes → all ≤ line + 1
    → (all ≡ line + 1 → get_or bytes line 0 ≡ 10) → looked ≤ 2 ^ 30 → 2 ^ 30 < looked + all → (4096 < line → 2 ^ 30 < looked + 4096)
    → (left : Option (List ℕ)) → PassesInputLimit (prepend_known bytes left) looked
much_passes bytes looked line all plain fits near feed low over first left =
    let n : ℕ = 2 ^ 30 - looked in
    let below : n < all = omega arith in
    let size : length (take n bytes) ≡ n = length-take-le n bytes (omega arith) in
    let short : n ≤ 4096 = elim (cases_lt 4096 line) [ inl long ↦ (let early = first long in omega arith) | inr not_long ↦ omega arith ] in
    let at_both : n ≡ 4096 → get_or bytes n 0 ≡ 10 = λ e.
    let not_long : line ≤ 4096 = elim (cases_lt 4096 line) [ inl long ↦ (let early = first long in omega arith) | inr not_long ↦ not_long ] in
    let same : n ≡ line = omega arith in
    ap (λ k. get_or bytes k 0) same ∙ feed (omega arith) in
    record {
      front = take n bytes;
      last = get_or bytes n 0;
      stands = Begins-prepend bytes _ (drop (n + 1) bytes) left
          (sym (append_assoc (take n bytes) (get_or bytes n 0 ∷ []) (drop (n + 1) bytes) ∙ ap (λ l. take n bytes ++ l) (sym (drop_more bytes n 0 (omega arith))) ∙ take-append-drop n bytes));
      plain = subst HasNoFeed (take-take n line bytes (omega arith)) (HasNoFeed-take (take line bytes) n plain);
      all = ap (λ k. looked + k) size ∙ omega arith;
      short = rw size short;
      at_both = rw size at_both;
    }
