-- One item more of a list that is gone over from its front.
use Rattle.std.proofs.Common.{◌≡◌, ◌<◌, ◌+◌, ◌≤◌, ℕ, zero, suc, List, [], ◌∷◌, ◌++◌, Bool, true, false, Some, None, map, take, drop, replicate, length, get_or, refl, sym, ap, subst, ◌∙◌, inl, inr, arith}
use Rattle.std.specs.Prelude.{slice_set, nat_lt}
use Rattle.std.specs.List.{slice_get}
use Rattle.std.proofs.lemmas.Bool.{cases_Bool, le-ltb, lt-ltb, ltb-false}
use Rattle.std.proofs.lemmas.List.{length-map, map-append}
use Rattle.std.specs.Option.{option_or}
use Rattle.std.proofs.lemmas.Option.{none-some, same_Some}
use Rattle.lk_names.specs.History.{LockHistory}
use Rattle.lk_names.specs.Lawful.{Rules, movable}
use Rattle.lk_abs.specs.Breaches.{first_over, moved_over, over_threshold}
use Rattle.lk_names.specs.declared.events.What.TheVariants.{Pass}
use Rattle.lk_names.specs.declared.names.Waiter.{Waiter}
use Rattle.lk_names.specs.declared.names.LockName.{LockName}

pub suc_is : (n : ℕ) → suc n ≡ n + 1
suc_is n = omega arith

module _ {X : Type 0} where
  pub drop-nil : (n : ℕ) → drop {A = X} n [] ≡ []
  drop-nil zero = refl
  drop-nil (suc n) = refl

  pub drop-step : (n : ℕ) (xs : List X) (x : X) (ys : List X) → drop n xs ≡ x ∷ ys → drop (suc n) xs ≡ ys
  drop-step zero xs x ys e = ap (drop 1) e
  drop-step (suc n) [] x ys e = cc
  drop-step (suc n) (z ∷ xs) x ys e = drop-step n xs x ys e

  pub take-step : (n : ℕ) (xs : List X) (x : X) (ys : List X) → drop n xs ≡ x ∷ ys → take (suc n) xs ≡ take n xs ++ x ∷ []
  take-step zero xs x ys e = ap (take 1) e
  take-step (suc n) [] x ys e = cc
  take-step (suc n) (z ∷ xs) x ys e = ap (λ zs. z ∷ zs) (take-step n xs x ys e)

  pub drop-rest : (n : ℕ) (xs : List X) → drop n (drop 1 xs) ≡ drop (suc n) xs
  drop-rest n [] = drop-nil n
  drop-rest n (x ∷ xs) = refl

  pub drop-end : (n : ℕ) (xs : List X) → length xs ≤ n → drop n xs ≡ []
  drop-end zero [] e = refl
  drop-end (suc n) [] e = refl
  drop-end zero (x ∷ xs) e = absurd (omega arith)
  drop-end (suc n) (x ∷ xs) e = drop-end n xs (omega arith)

pub replicate-step : (n : ℕ) → replicate {A = ℕ} (suc n) 0 ≡ replicate {A = ℕ} n 0 ++ 0 ∷ []
replicate-step zero = refl
replicate-step (suc n) = ap (λ ns. 0 ∷ ns) (replicate-step n)

-- ---- waiters that may be moved aside

module _ (far : Waiter → Bool) where
  pub movable-last : (i : ℕ) (us : List Waiter) → i + 1 ≡ length us → movable far (drop i us) ≡ 0
  movable-last zero [] e = refl
  movable-last zero (u ∷ []) e = refl
  movable-last zero (u ∷ v ∷ us) e = absurd (omega arith)
  movable-last (suc i) [] e = refl
  movable-last (suc i) (u ∷ us) e = movable-last i us (omega arith)

  pub movable-near : (i : ℕ) (us : List Waiter) (d : Waiter) → i < length us → far (get_or us i d) ≡ false → movable far (drop i us) ≡ 0
  movable-near zero [] d less e = refl
  movable-near zero (u ∷ []) d less e = refl
  movable-near zero (u ∷ v ∷ us) d less e = rw e refl
  movable-near (suc i) [] d less e = refl
  movable-near (suc i) (u ∷ us) d less e = movable-near i us d (omega arith) e

-- ---- waiters that are passed by too often

module _ (l : LockName) (t : ℕ) where
  pub over-end : (us : List Waiter) (ns : List ℕ) → ns ≡ [] → first_over l t us (map (λ n. suc n) ns) ≡ None
  over-end us ns e = ap (λ ms. first_over l t us (map (λ n. suc n) ms)) e ∙ over-nil us
    where
      over-nil : (us : List Waiter) → first_over l t us [] ≡ None
      over-nil [] = refl
      over-nil (u ∷ us) = refl

  pub over-step : (i : ℕ) (us : List Waiter) (ns : List ℕ) → i < length us → i < length ns → get_or ns i 0 < t → first_over l t (drop i us) (map (λ n. suc n) (drop i ns)) ≡ first_over l t (drop (suc i) us) (map (λ n. suc n) (drop (suc i) ns))
  over-step i [] ns less more few = absurd (omega arith)
  over-step i (u ∷ us) [] less more few = absurd (omega arith)
  over-step zero (u ∷ us) (n ∷ ns) less more few = rw (le-ltb t (suc n) (omega arith)) refl
  over-step (suc i) (u ∷ us) (n ∷ ns) less more few = over-step i us ns (omega arith) (omega arith) few

-- ---- counts that rise by one

count-step : (old : List ℕ) (i x : ℕ) → slice_get (map (λ n. suc n) (take i old) ++ drop i old) i ≡ Some x → slice_set (map (λ n. suc n) (take i old) ++ drop i old) i (x + 1) ≡ map (λ n. suc n) (take (suc i) old) ++ drop (suc i) old
count-step [] zero x e = absurd (none-some x e)
count-step [] (suc i) x e = absurd (none-some x e)
count-step (o ∷ old) zero x e = ap (λ n. n ∷ old) (sym (suc_is x) ∙ ap suc (sym (same_Some o x e)))
count-step (o ∷ old) (suc i) x e = ap (λ ns. suc o ∷ ns) (count-step old i x e)

pub counted-step : (old items : List ℕ) (i x : ℕ) → items ≡ map (λ n. suc n) (take i old) ++ drop i old → slice_get items i ≡ Some x → slice_set items i (x + 1) ≡ map (λ n. suc n) (take (i + 1) old) ++ drop (i + 1) old
counted-step old items i x is at =
    subst (λ (k : ℕ). slice_set items i (x + 1) ≡ map (λ n. suc n) (take k old) ++ drop k old) (suc_is i)
    (ap (λ ns. slice_set ns i (x + 1)) is ∙ count-step old i x (ap (λ ns. slice_get ns i) (sym is) ∙ at))

-- ---- a handover in one look

module _ (l : LockName) (t : ℕ) where
  over-append : (us vs : List Waiter) (ns ms : List ℕ) → length us ≡ length ns → first_over l t (us ++ vs) (ns ++ ms) ≡ option_or (first_over l t us ns) (first_over l t vs ms)
  over-append [] vs [] ms fit = refl
  over-append [] vs (n ∷ ns) ms fit = absurd (omega arith)
  over-append (u ∷ us) vs [] ms fit = absurd (omega arith)
  over-append (u ∷ us) vs (n ∷ ns) ms fit =
      elim (cases_Bool (nat_lt t n)) [ inl over ↦ rw over refl | inr few ↦ rw few (over-append us vs ns ms (omega arith)) ]

  over-ones : (us : List Waiter) (k : ℕ) → 1 ≤ t → first_over l t us (map (λ n. suc n) (replicate k 0)) ≡ None
  over-ones [] k large = refl
  over-ones (u ∷ us) zero large = refl
  over-ones (u ∷ us) (suc k) large = rw (le-ltb t 1 large) (over-ones us k large)

  over-moved : (main : List Waiter) (k : ℕ) → first_over l t (take k (drop 1 main)) (map (λ n. suc n) (replicate k 0)) ≡ moved_over l t (slice_get main 1) k
  over-moved [] zero = refl
  over-moved [] (suc k) = refl
  over-moved (u ∷ []) zero = refl
  over-moved (u ∷ []) (suc k) = refl
  over-moved (u ∷ v ∷ us) zero = refl
  over-moved (u ∷ v ∷ us) (suc k) =
      elim (cases_Bool (nat_lt t 1)) [
        | inl over ↦ rw (over, le_ltb_pos k) refl
        | inr few ↦ rw (few, le_ltb_pos k) (over-ones (take k us) k (ltb-false t 1 few))
      ]
    where
      le_ltb_pos : (k : ℕ) → nat_lt 0 (suc k) ≡ true
      le_ltb_pos k = lt-ltb 0 (suc k) (omega arith)

  pub over-passed : (h : LockHistory) (w to : Waiter) (k : ℕ) (rules : Rules) → rules.threshold ≡ t → length h.second ≡ length h.passes → option_or (first_over l t h.second (map (λ n. suc n) h.passes)) (moved_over l t (slice_get h.main 1) k) ≡ over_threshold rules h w (Pass l to k)
  over-passed h w to k rules is fit =
      rw is
      (ap (option_or (first_over l t h.second (map (λ n. suc n) h.passes))) (sym (over-moved h.main k))
      ∙ sym (over-append h.second (take k (drop 1 h.main)) (map (λ n. suc n) h.passes) (map (λ n. suc n) (replicate k 0)) (fit ∙ sym (length-map h.passes (λ n. suc n))))
      ∙ ap (first_over l t (h.second ++ take k (drop 1 h.main))) (sym (map-append (λ n. suc n) h.passes (replicate k 0))))
