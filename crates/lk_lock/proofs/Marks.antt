-- A look that begins, and a lock that is freed where the family halts.
use Rattle.std.proofs.Common.{◌≡◌, ℕ, List, [], ◌∷◌, Bool, true, false, refl, sym, ap, ◌∙◌, inl}
use Rattle.std.proofs.Common.{inr, if◌then◌else◌}
use Rattle.std.proofs.lemmas.Bool.{cases_Bool}
use Rattle.lk_lock.proofs.Names.{Manner, Hold, Mark, holds_in, lock_name}
use Rattle.lk_names.specs.{Names.same_lock, declared.names.LockName.LockName}
use Rattle.lk_law.proofs.{common.Puts.{if-true, if-false}, common.Sames.same_lock-self}
use Rattle.lk_domain.proofs.Holds.{mine}
use Rattle.lk_domain.specs.{Calls.Takes, Ledgers.{Ledger, turned, opened, is_first}}
use Rattle.lk_pvdomain.specs.PvCalls.{without}

-- a look that begins leaves the journal where it is
pub turned_out : (g : Ledger) (n : LockName) (m : Manner) (t : List Mark)
    → (turned g n (Takes m) t).out ≡ g.out
turned_out g n m t = pick (is_first n)
  where
    pick : (b : Bool) → (if b then opened g m t else g).out ≡ g.out
    pick true = refl
    pick false = refl

-- the same where the family halts

kept_without : (l : ℕ) (hs : List Hold) → holds_in hs l ≡ false → without (lock_name l) hs ≡ hs
kept_without l [] none = refl
kept_without l (h ∷ hs) none = elim (cases_Bool (same_lock h.lock (lock_name l))) [
  | inl e ↦ absurd (let z : true ≡ false = sym (if-true (same_lock h.lock (lock_name l)) true (holds_in hs l) e) ∙ none in let y : ⊥ = cc z in y)
  | inr e ↦
      if-false (same_lock h.lock (lock_name l)) (without (lock_name l) hs) (h ∷ without (lock_name l) hs) e
      ∙ ap (λ (xs : List Hold). h ∷ xs)
      (kept_without l hs (sym (if-false (same_lock h.lock (lock_name l)) true (holds_in hs l) e) ∙ none))
]

pub left_without : (l n : ℕ) (m : Manner) (hs : List Hold) → holds_in hs l ≡ false
    → without (lock_name l) (mine l n m false ∷ hs) ≡ hs
left_without l n m hs none =
    if-true (same_lock (lock_name l) (lock_name l)) (without (lock_name l) hs)
    (mine l n m false ∷ without (lock_name l) hs) (same_lock-self (lock_name l))
    ∙ kept_without l hs none
