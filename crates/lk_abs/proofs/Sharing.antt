-- Who may hold a lock together, as holders come and go.
use Rattle.std.proofs.Common.{◌≡◌, ◌≤◌, ◌+◌, ℕ, List, [], ◌∷◌, ◌++◌, true, false, cond, refl, ap, ◌∙◌, inl, inr, arith, length-append}
use Rattle.std.specs.List.{list_any, count_by}
use Rattle.std.proofs.lemmas.Bool.{cases_Bool, or_parts, or_from}
use Rattle.std.proofs.lemmas.List.{nil_from_length}
use Rattle.std.proofs.lemmas.List.Sums.{sum_by-append, sum_by-cons}
use Rattle.lk_names.specs.History.{is_hold, without}
use Rattle.lk_names.specs.declared.holder.Manner.{Manner}
use Rattle.lk_names.specs.declared.holder.Holder.{Holder}
use Rattle.lk_names.specs.Lawful.{IsShared, writes}
use Rattle.lk_names.specs.declared.names.Waiter.{Waiter}

-- one writer more, or one reader more, in front or at the end
module _ (x : Holder) (xs : List Holder) where
  count-cons : (n : ℕ) → cond (writes x) 1 0 ≡ n → count_by writes (x ∷ xs) ≡ n + count_by writes xs
  count-cons n e = sum_by-cons (λ y. cond (writes y) 1 0) x xs ∙ ap (λ k. k + count_by writes xs) e

  count-push : (n : ℕ) → cond (writes x) 1 0 ≡ n → count_by writes (xs ++ x ∷ []) ≡ count_by writes xs + n
  count-push n e = sum_by-append (λ y. cond (writes y) 1 0) xs (x ∷ []) ∙ ap (λ k. count_by writes xs + (0 + k)) e ∙ omega arith

  one : writes x ≡ true → cond {A = ℕ} (writes x) 1 0 ≡ 1
  one e = rw e refl

  none : writes x ≡ false → cond {A = ℕ} (writes x) 1 0 ≡ 0
  none e = rw e refl

pub none_writes : (xs : List Holder) → list_any writes xs ≡ false → count_by writes xs ≡ 0
none_writes [] e = refl
none_writes (x ∷ xs) e = count-cons x xs 0 (none x xs (or_parts _ _ e).0) ∙ ap (λ n. 0 + n) (none_writes xs (or_parts _ _ e).1)

pub writes_none : (xs : List Holder) → count_by writes xs ≡ 0 → list_any writes xs ≡ false
writes_none [] e = refl
writes_none (x ∷ xs) e =
    elim (cases_Bool (writes x)) [
      | inl writer ↦ absurd (omega (arith, count-cons x xs 1 (one x xs writer)))
      | inr reader ↦ or_from _ _ reader (writes_none xs (omega (arith, count-cons x xs 0 (none x xs reader))))
    ]

-- a writer comes to a free lock only
pub free_from_shared : (xs : List Holder) (x : Holder) → writes x ≡ true → IsShared (xs ++ x ∷ []) → xs ≡ []
free_from_shared xs x writer (inl nobody) = absurd (omega (arith, count-push x xs 1 (one x xs writer)))
free_from_shared xs x writer (inr alone) = nil_from_length xs (omega (arith, length-append xs (x ∷ [])))

pub shared_from_free : (xs : List Holder) (x : Holder) → xs ≡ [] → IsShared (xs ++ x ∷ [])
shared_from_free xs x e = inr (rw e refl)

-- a reader comes to a lock without a writer only
pub readers_from_shared : (xs : List Holder) (x : Holder) → IsShared (xs ++ x ∷ []) → list_any writes xs ≡ false
readers_from_shared xs x (inl nobody) = writes_none xs (omega (arith, count-push x xs _ refl))
readers_from_shared xs x (inr alone) =
    let empty : xs ≡ [] = nil_from_length xs (omega (arith, length-append xs (x ∷ []))) in
    ap (list_any writes) empty

pub shared_from_readers : (xs : List Holder) (x : Holder) → writes x ≡ false → list_any writes xs ≡ false → IsShared (xs ++ x ∷ [])
shared_from_readers xs x reader e =
    let before : count_by writes xs ≡ 0 = none_writes xs e in
    inl (omega (arith, count-push x xs 0 (none x xs reader)))

count-without : (w : Waiter) (m : Manner) (xs : List Holder) → count_by writes (without w m xs) ≤ count_by writes xs
count-without w m [] = omega arith
count-without w m (x ∷ xs) =
    elim (cases_Bool (is_hold w m x)) [
      | inl met ↦ rw met (omega (arith, count-cons x xs _ refl))
      | inr unmet ↦ rw unmet (omega (arith, count-cons x xs _ refl, count-cons x (without w m xs) _ refl, count-without w m xs))
    ]

-- who leaves, leaves the lock shared
pub shared-without : (w : Waiter) (m : Manner) (xs : List Holder) → IsShared xs → IsShared (without w m xs)
shared-without w m xs (inl nobody) = inl (omega (arith, count-without w m xs))
shared-without w m [] (inr alone) = inl refl
shared-without w m (x ∷ []) (inr alone) =
    elim (cases_Bool (is_hold w m x)) [ inl met ↦ rw met (inl refl) | inr unmet ↦ rw unmet (inr refl) ]
shared-without w m (x ∷ y ∷ xs) (inr alone) = absurd (omega arith)
