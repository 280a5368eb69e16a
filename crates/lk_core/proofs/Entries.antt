-- The entries of the hash after a lock was entered, or taken out.
use Rattle.std.proofs.Common.{◌≡◌, ◌≢◌, Option, Some, None, Bool, true, false, List, [], ◌∷◌, inl}
use Rattle.std.proofs.Common.{inr, arith, ap, refl, sym, ◌∙◌, if◌then◌else◌, nat_lt}
use Rattle.lk_core.proofs.Names.{NodeName, same_lock, LockName, with_entry, without_entry}
use Rattle.lk_core.proofs.Names.{lock_cases, if-false, if-true, same_lock-else, same_lock-self}
use Rattle.lk_core.proofs.Names.{IsEnteredOnce}
use Rattle.lk_rows.specs.Machine.{entry_in, lock_number}
use Rattle.lk_law.proofs.common.Sames.{same_lock-true}

-- a lock with its node
abbrev pub Entry : Type 0
Entry = LockName × NodeName

-- and else they are two
two_locks : (a b : LockName) → same_lock a b ≡ false → a ≢ b
two_locks a b t e = let z = ap (λ (k : LockName). same_lock k b) e ∙ same_lock-self b in
    absurd (grind (arith, z, t))

-- a lock that was taken out is not entered
pub taken_out : (l : LockName) (es : List Entry) → entry_in l (without_entry l es) ≡ None
taken_out l [] = refl
taken_out l (e ∷ es) = step (same_lock e.0 l) refl (taken_out l es)
  where
    step : (b : Bool) → same_lock e.0 l ≡ b → entry_in l (without_entry l es) ≡ None
        → entry_in l (if b then without_entry l es else e ∷ without_entry l es) ≡ None
    step true t r = r
    step false t r = if-false (same_lock e.0 l) (Some e.1) (entry_in l (without_entry l es)) t ∙ r

-- and the others stay
pub others_stay : (k l : LockName) (es : List Entry) → k ≢ l
    → entry_in k (without_entry l es) ≡ entry_in k es
others_stay k l [] ne = refl
others_stay k l (e ∷ es) ne = step (same_lock e.0 l) refl (others_stay k l es ne)
  where
    step : (b : Bool) → same_lock e.0 l ≡ b → entry_in k (without_entry l es) ≡ entry_in k es
        → entry_in k (if b then without_entry l es else e ∷ without_entry l es)
        ≡ (if same_lock e.0 k then Some e.1 else entry_in k es)
    step true t r = r
        ∙ sym (if-false (same_lock e.0 k) (Some e.1) (entry_in k es)
        (same_lock-else e.0 k (λ q. ne (sym q ∙ same_lock-true e.0 l t))))
    step false t r = ap (λ (o : Option NodeName). if same_lock e.0 k then Some e.1 else o) r

-- a lock that is entered has its node
with_same : (l : LockName) (n : NodeName) (es : List Entry) → entry_in l es ≡ None
    → entry_in l (with_entry l n es) ≡ Some n
with_same l n [] absent = if-true (same_lock l l) (Some n) None (same_lock-self l)
with_same l n (e ∷ es) absent = step (nat_lt (lock_number l) (lock_number e.0)) (with_same l n es)
  where
    later : (b : Bool) → (entry_in l es ≡ None → entry_in l (with_entry l n es) ≡ Some n)
        → (if b then Some e.1 else entry_in l es) ≡ None
        → (if b then Some e.1 else entry_in l (with_entry l n es)) ≡ Some n
    later true rest h = cc
    later false rest h = rest h

    step : (b : Bool) → (entry_in l es ≡ None → entry_in l (with_entry l n es) ≡ Some n)
        → entry_in l (if b then (l, n) ∷ e ∷ es else e ∷ with_entry l n es) ≡ Some n
    step true rest = if-true (same_lock l l) (Some n) (entry_in l (e ∷ es)) (same_lock-self l)
    step false rest = later (same_lock e.0 l) rest absent

-- and the others have theirs
with_other : (k l : LockName) (n : NodeName) (es : List Entry) → k ≢ l
    → entry_in k (with_entry l n es) ≡ entry_in k es
with_other k l n [] ne = if-false (same_lock l k) (Some n) None (same_lock-else l k (λ q. ne (sym q)))
with_other k l n (e ∷ es) ne = step (nat_lt (lock_number l) (lock_number e.0)) (with_other k l n es ne)
  where
    step : (b : Bool) → entry_in k (with_entry l n es) ≡ entry_in k es
        → entry_in k (if b then (l, n) ∷ e ∷ es else e ∷ with_entry l n es)
        ≡ entry_in k (e ∷ es)
    step true rest = if-false (same_lock l k) (Some n) (entry_in k (e ∷ es)) (same_lock-else l k (λ q. ne (sym q)))
    step false rest = ap (λ (o : Option NodeName). if same_lock e.0 k then Some e.1 else o) rest

-- what is read after a lock was entered
pub entered_now : (k l : LockName) (n : NodeName) (es : List Entry)
    → entry_in k (with_entry l n (without_entry l es))
    ≡ (if same_lock k l then Some n else entry_in k es)
entered_now k l n es =
    elim (lock_cases k l) [
      | inl e ↦
          ap (λ (j : LockName). entry_in j (with_entry l n (without_entry l es))) e
          ∙ with_same l n (without_entry l es) (taken_out l es)
          ∙ sym (if-true (same_lock k l) (Some n) (entry_in k es)
          (ap (λ (j : LockName). same_lock j l) e ∙ same_lock-self l))
      | inr ne ↦
          with_other k l n (without_entry l es) ne ∙ others_stay k l es ne
          ∙ sym (if-false (same_lock k l) (Some n) (entry_in k es) (same_lock-else k l ne))
    ]

-- what is read after a lock was taken out
pub removed_now : (k l : LockName) (es : List Entry)
    → entry_in k (without_entry l es) ≡ (if same_lock k l then None else entry_in k es)
removed_now k l es =
    elim (lock_cases k l) [
      | inl e ↦ ap (λ (j : LockName). entry_in j (without_entry l es)) e ∙ taken_out l es
          ∙ sym (if-true (same_lock k l) None (entry_in k es)
          (ap (λ (j : LockName). same_lock j l) e ∙ same_lock-self l))
      | inr ne ↦ others_stay k l es ne
          ∙ sym (if-false (same_lock k l) None (entry_in k es) (same_lock-else k l ne))
    ]

-- each lock is entered once still
pub once_without : (l : LockName) (es : List Entry) → IsEnteredOnce es
    → IsEnteredOnce (without_entry l es)
once_without l [] once = tt
once_without l (e ∷ es) once = step (same_lock e.0 l) refl (once_without l es once.1)
  where
    step : (b : Bool) → same_lock e.0 l ≡ b → IsEnteredOnce (without_entry l es)
        → IsEnteredOnce (if b then without_entry l es else e ∷ without_entry l es)
    step true t r = r
    step false t r = (others_stay e.0 l es (two_locks e.0 l t) ∙ once.0, r)

once_entered : (l : LockName) (n : NodeName) (es : List Entry) → entry_in l es ≡ None
    → IsEnteredOnce es → IsEnteredOnce (with_entry l n es)
once_entered l n [] absent once = (refl, tt)
once_entered l n (e ∷ es) absent once = step (nat_lt (lock_number l) (lock_number e.0)) (once_entered l n es)
  where
    other : (b : Bool) → same_lock e.0 l ≡ b → (if b then Some e.1 else entry_in l es) ≡ None
        → (same_lock e.0 l ≡ false) × (entry_in l es ≡ None)
    other true t h = cc
    other false t h = (t, h)

    step : (b : Bool)
        → (entry_in l es ≡ None → IsEnteredOnce es → IsEnteredOnce (with_entry l n es))
        → IsEnteredOnce (if b then (l, n) ∷ e ∷ es else e ∷ with_entry l n es)
    step true rest = (absent, once)
    step false rest =
        let apart = other (same_lock e.0 l) refl absent in
        (with_other e.0 l n es (two_locks e.0 l apart.0) ∙ once.0, rest apart.1 once.1)

pub once_with : (l : LockName) (n : NodeName) (es : List Entry) → IsEnteredOnce es
    → IsEnteredOnce (with_entry l n (without_entry l es))
once_with l n es once = once_entered l n (without_entry l es) (taken_out l es) (once_without l es once)
