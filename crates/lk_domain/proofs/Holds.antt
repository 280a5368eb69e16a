-- The newest hold is that of a lock, and the lock is freed.
use Rattle.std.proofs.Common.{◌≡◌, ℕ, List, [], ◌∷◌, Bool, true, false, Some, eqb, eq-eqb, refl}
use Rattle.std.proofs.Common.{sym, ap, ◌∙◌, inl, inr, ◌&&◌, ◌||◌}
use Rattle.lk_domain.proofs.Names.{cases_Bool, same_lock, Manner, if-false, if-true, same_lock-self}
use Rattle.lk_domain.proofs.Names.{Hold, free_of, hold_in, holds_in, lock_name, moved_to, way_in}
use Rattle.lk_domain.proofs.Names.{marked_out, out_in}

-- the newest hold is that of the lock

abbrev pub mine : (l n : ℕ) (m : Manner) (b : Bool) → Hold
mine l n m b = record { ctx = 0; lock = lock_name l; manner = m; nth = n; out = b }

pub found : (l n : ℕ) (m : Manner) (b : Bool) (hs : List Hold)
    → hold_in (record { ctx = 0; lock = lock_name l; manner = m; nth = n; out = b } ∷ hs) l ≡ Some (m, b)
found l n m b hs = if-true (same_lock (lock_name l) (lock_name l)) (Some (m, b)) (hold_in hs l) (same_lock-self (lock_name l))

pub held : (l n : ℕ) (m : Manner) (b : Bool) (hs : List Hold)
    → holds_in (record { ctx = 0; lock = lock_name l; manner = m; nth = n; out = b } ∷ hs) l ≡ true
held l n m b hs = if-true (same_lock (lock_name l) (lock_name l)) true (holds_in hs l) (same_lock-self (lock_name l))

pub way : (l n : ℕ) (m : Manner) (b : Bool) (hs : List Hold)
    → way_in (record { ctx = 0; lock = lock_name l; manner = m; nth = n; out = b } ∷ hs) l ≡ Some m
way l n m b hs = if-true (same_lock (lock_name l) (lock_name l)) (Some m) (way_in hs l) (same_lock-self (lock_name l))

pub marked : (l n : ℕ) (m : Manner) (a b : Bool) (hs : List Hold)
    → marked_out l b (record { ctx = 0; lock = lock_name l; manner = m; nth = n; out = a } ∷ hs)
    ≡ record { ctx = 0; lock = lock_name l; manner = m; nth = n; out = b } ∷ hs
marked l n m a b hs =
    if-true (same_lock (lock_name l) (lock_name l)) (mine l n m b ∷ hs) (mine l n m a ∷ marked_out l b hs) (same_lock-self (lock_name l))

-- no value is out with a hold that is not there

or_off : (a b : Bool) → a ≡ false → b ≡ false → (a || b) ≡ false
or_off a b e f = ap (λ x. x || b) e ∙ f

and_off : (a b : Bool) → a ≡ false → (a && b) ≡ false
and_off a b e = ap (λ x. x && b) e

last_off : (a : Bool) → (a && false) ≡ false
last_off true = refl
last_off false = refl

pub out_none : (l : ℕ) (hs : List Hold) → holds_in hs l ≡ false → out_in hs l ≡ false
out_none l [] none = refl
out_none l (h ∷ hs) none = elim (cases_Bool (same_lock h.lock (lock_name l))) [
  | inl e ↦ absurd (let z : true ≡ false = sym (if-true (same_lock h.lock (lock_name l)) true (holds_in hs l) e) ∙ none in let y : ⊥ = cc z in y)
  | inr e ↦
      or_off (same_lock h.lock (lock_name l) && h.out) (out_in hs l)
      (and_off (same_lock h.lock (lock_name l)) h.out e)
      (out_none l hs (sym (if-false (same_lock h.lock (lock_name l)) true (holds_in hs l) e) ∙ none))
]

pub out_home : (l n : ℕ) (m : Manner) (hs : List Hold) → holds_in hs l ≡ false
    → out_in (record { ctx = 0; lock = lock_name l; manner = m; nth = n; out = false } ∷ hs) l ≡ false
out_home l n m hs none =
    or_off (same_lock (lock_name l) (lock_name l) && false) (out_in hs l)
    (last_off (same_lock (lock_name l) (lock_name l))) (out_none l hs none)

-- where the lock is freed, what else was held is held

untouched : (k l : ℕ) (hs : List Hold) → holds_in hs l ≡ false
    → free_of k (lock_name l) (moved_to k (lock_name l) hs) ≡ hs
untouched k l [] none = refl
untouched k l (h ∷ hs) none = elim (cases_Bool (same_lock h.lock (lock_name l))) [
  | inl e ↦ absurd (let z : true ≡ false = sym (if-true (same_lock h.lock (lock_name l)) true (holds_in hs l) e) ∙ none in let y : ⊥ = cc z in y)
  | inr e ↦
      ap (λ (m : Hold). free_of k (lock_name l) (m ∷ moved_to k (lock_name l) hs))
      (if-false (same_lock h.lock (lock_name l)) (record h { ctx = k }) h e)
      ∙ (if-false ((eqb h.ctx k) && same_lock h.lock (lock_name l)) (free_of k (lock_name l) (moved_to k (lock_name l) hs))
      (h ∷ free_of k (lock_name l) (moved_to k (lock_name l) hs)) (ap (λ b. (eqb h.ctx k) && b) e ∙ off (eqb h.ctx k))
      ∙ ap (λ (xs : List Hold). h ∷ xs)
      (untouched k l hs (sym (if-false (same_lock h.lock (lock_name l)) true (holds_in hs l) e) ∙ none)))
]
  where
    off : (b : Bool) → (b && false) ≡ false
    off true = refl
    off false = refl

pub dropped : (k l n : ℕ) (m : Manner) (hs : List Hold) → holds_in hs l ≡ false
    → free_of k (lock_name l) (moved_to k (lock_name l) (record { ctx = 0; lock = lock_name l; manner = m; nth = n; out = false } ∷ hs)) ≡ hs
dropped k l n m hs none =
    ap (λ (x : Hold). free_of k (lock_name l) (x ∷ moved_to k (lock_name l) hs))
    (if-true (same_lock (lock_name l) (lock_name l)) (record (mine l n m false) { ctx = k }) (mine l n m false) (same_lock-self (lock_name l)))
    ∙ (if-true ((eqb k k) && same_lock (lock_name l) (lock_name l)) (free_of k (lock_name l) (moved_to k (lock_name l) hs))
    (record (mine l n m false) { ctx = k } ∷ free_of k (lock_name l) (moved_to k (lock_name l) hs))
    (λ i. eq-eqb k k refl i && same_lock-self (lock_name l) i)
    ∙ untouched k l hs none)
