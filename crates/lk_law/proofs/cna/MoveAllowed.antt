use Rattle.std.proofs.Common.{◌≡◌, ℕ, Option, Some, Bool, List, [], ◌∷◌, length, inl, inr, arith}
use Rattle.std.proofs.Common.{ap, refl, ◌≤◌, slice_get}
use Rattle.lk_law.proofs.Names.{NodeName, get_cases, Waiter, Node, CnaAgrees, Phase, Stage}

module _ {tail : Option NodeName} {phase : Waiter → Phase} {own : Waiter
    → NodeName} {node : NodeName → Node}
    {local : Waiter → Waiter → Bool} {threshold : ℕ} {stage : Waiter → Stage} {kept : Waiter
    → Option NodeName}
    {main second : List Waiter} {passes : List ℕ}
    (ok : CnaAgrees tail phase own node local threshold stage kept main second passes) where
  -- no waiter of the second queue saw more handovers than the threshold
  pub cna_bounded : (i n : ℕ) → slice_get passes i ≡ Some n → n ≤ threshold
  cna_bounded i n h =
      elim (get_cases main 0) [
        | inl none ↦ absurd (let e = ok.empty none in none-there e h)
        | inr p ↦ let o = ok.lead p.0 p.1 in let a = o.bounded i n h in let b = o.run in omega arith
      ]
    where
      none-there : second ≡ [] → slice_get passes i ≡ Some n → ⊥
      none-there e h = none-in passes i h (empty-passes e)
        where
          none-in : (ps : List ℕ) (i : ℕ) → slice_get ps i ≡ Some n → ps ≡ [] → ⊥
          none-in ps i h e = cc (ap (λ qs. slice_get qs i) e, h)

          empty-passes : second ≡ [] → passes ≡ []
          empty-passes e = go passes second ok.lengths e
            where
              go : (ps : List ℕ) (ws : List Waiter) → length ps ≡ length ws → ws ≡ [] → ps ≡ []
              go [] ws e h = refl
              go (p ∷ ps) ws e h = let f = ap length h in absurd (omega arith)
