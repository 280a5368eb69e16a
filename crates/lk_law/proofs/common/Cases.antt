-- Names are the same or not; and each waiter has a node of its own.
use Rattle.std.proofs.Common.{◌≡◌, ◌≢◌, ◌⊎◌, inl, inr, arith, ap, true, Bool}
use Rattle.lk_law.proofs.Names.{cases_Bool, cases_eq, NodeName, LockName, Waiter, Phase, has_node}

-- two waiters are the same, or not
pub waiter_cases : (u w : Waiter) → (u ≡ w) ⊎ (u ≢ w)
waiter_cases u w =
    elim (cases_eq u.cpu w.cpu) [
      | inl c ↦ elim
          (cases_eq u.ctx w.ctx) [
            | inl x ↦ inl (λ i. record { cpu = c i; ctx = x i })
            | inr n ↦ inr (λ e. n (ap (λ (v : Waiter). v.ctx) e))
          ]
      | inr n ↦ inr (λ e. n (ap (λ (v : Waiter). v.cpu) e))
    ]

pub node_cases : (u w : NodeName) → (u ≡ w) ⊎ (u ≢ w)
node_cases u w =
    elim (cases_eq u.cpu w.cpu) [
      | inl c ↦ elim
          (cases_eq u.index w.index) [
            | inl x ↦ inl (λ i. record { cpu = c i; index = x i })
            | inr n ↦ inr (λ e. n (ap (λ (v : NodeName). v.index) e))
          ]
      | inr n ↦ inr (λ e. n (ap (λ (v : NodeName). v.cpu) e))
    ]

bool_cases : (a b : Bool) → (a ≡ b) ⊎ (a ≢ b)
bool_cases a b = grind (arith, cases_Bool a, cases_Bool b)

pub lock_cases : (u w : LockName) → (u ≡ w) ⊎ (u ≢ w)
lock_cases u w =
    elim (cases_eq u.index w.index) [
      | inl c ↦ elim
          (bool_cases u.wait w.wait) [
            | inl x ↦ inl (λ i. record { index = c i; wait = x i })
            | inr n ↦ inr (λ e. n (ap (λ (v : LockName). v.wait) e))
          ]
      | inr n ↦ inr (λ e. n (ap (λ (v : LockName). v.index) e))
    ]

-- no two waiters have one node
abbrev pub Apart : (Waiter → Phase) → (Waiter → NodeName) → Type 0
Apart phase own = (u v : Waiter)
    → has_node (phase u) ≡ true
    → has_node (phase v) ≡ true
    → own u ≡ own v
    → u ≡ v
