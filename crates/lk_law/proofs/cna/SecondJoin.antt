use Rattle.std.proofs.Common.{◌≡◌, ℕ, suc, Some, None, List, ◌++◌, inl, inr, arith, ap, sym, ◌∙◌}
use Rattle.std.proofs.Common.{slice_get}
use Rattle.lk_law.proofs.Names.{NodeName, Waiter, Unset, Node, SecondAgrees, Phase, Waits}
use Rattle.lk_law.proofs.cna.Joined.{get-join, get-join_two, get-join_last}

-- The waiters of part, which begins with z, come to stand behind the second queue.
pub record IsAppended (phase phase' : Waiter → Phase) (own own' : Waiter → NodeName)
    (node node' : NodeName → Node) (second part : List Waiter) (z : Waiter) : Type 0 where
  pub first : slice_get part 0 ≡ Some z
  pub old : (i : ℕ) (u : Waiter)
      → slice_get second i ≡ Some u
      → (phase' u ≡ phase u) × (own' u ≡ own u) × (node' (own' u) ≡ node (own u))
  pub waits : (i : ℕ) (u : Waiter)
      → slice_get part i ≡ Some u
      → (phase' u ≡ Waits) × ((node' (own' u)).flag ≡ Unset)
  pub once : (i j : ℕ) (u : Waiter)
      → slice_get part i ≡ Some u
      → slice_get part j ≡ Some u
      → i ≡ j
  pub links : (i : ℕ) (u v : Waiter)
      → slice_get part i ≡ Some u
      → slice_get part (suc i) ≡ Some v
      → (node' (own' u)).next ≡ Some (own' v)
  pub ends : (i : ℕ) (u : Waiter)
      → slice_get part i ≡ Some u
      → slice_get part (suc i) ≡ None
      → (node' (own' u)).next ≡ None
  pub apart : (i j : ℕ) (u : Waiter)
      → slice_get second i ≡ Some u
      → slice_get part j ≡ Some u
      → ⊥

module _ {phase phase' : Waiter → Phase} {own own' : Waiter → NodeName}
    {node node' : NodeName → Node} {second part : List Waiter} {z : Waiter}
    (ok : SecondAgrees phase own node second (Some (own' z)))
    (step : IsAppended phase phase' own own' node node' second part z) where
  join-waits : (i : ℕ) (u : Waiter) → slice_get (second ++ part) i ≡ Some u
      → (phase' u ≡ Waits) × ((node' (own' u)).flag ≡ Unset)
  join-waits i u h =
      elim (get-join second part i u h) [
        | inl e ↦ let o = step.old i u e in let q = ok.waits i u e in
            (o.0 ∙ q.0, ap (λ (n : Node). n.flag) o.2 ∙ q.1)
        | inr p ↦ step.waits p.0 u p.2
      ]

  join-once : (i j : ℕ) (u : Waiter) → slice_get (second ++ part) i ≡ Some u
      → slice_get (second ++ part) j ≡ Some u → i ≡ j
  join-once i j u h k =
      elim (get-join second part i u h) [
        | inl e ↦ elim (get-join second part j u k) [
          | inl f ↦ ok.once i j u e f
          | inr q ↦ absurd (step.apart i q.0 u e q.2)
        ]
        | inr p ↦ elim
            (get-join second part j u k) [
              | inl f ↦ absurd (step.apart j p.0 u f p.2)
              | inr q ↦ let g = step.once p.0 q.0 u p.2 q.2 in let a = p.1 in let b = q.1 in
                  omega arith
            ]
      ]

  join-linked : (i : ℕ) (u v : Waiter) → slice_get (second ++ part) i ≡ Some u
      → slice_get (second ++ part) (suc i) ≡ Some v → (node' (own' u)).next ≡ Some (own' v)
  join-linked i u v h k =
      elim (get-join_two second part i u v h k) [
        | inl a ↦ let o = step.old i u a.0 in let r = step.old (suc i) v a.1 in
            ap (λ (n : Node). n.next) o.2 ∙ ok.linked i u v a.0 a.1 ∙ ap (λ n. Some n) (sym r.1)
        | inr b ↦ elim b [
          | inl c ↦ let o = step.old i u c.0 in let same : z ≡ v = grind (arith, step.first, c.2) in
              ap (λ (n : Node). n.next) o.2 ∙ ok.last i u c.0 c.1 ∙ ap (λ x. Some (own' x)) same
          | inr d ↦ step.links d.0 u v d.2 d.3
        ]
      ]

  join-last : (i : ℕ) (u : Waiter) → slice_get (second ++ part) i ≡ Some u
      → slice_get (second ++ part) (suc i) ≡ None → (node' (own' u)).next ≡ None
  join-last i u h k =
      elim (get-join_last second part i u h k) [
        | inl a ↦ absurd (grind (arith, step.first, a.2))
        | inr d ↦ step.ends d.0 u d.2 d.3
      ]

  pub second_join : SecondAgrees phase' own' node' (second ++ part) None
  second_join =
      record { waits = join-waits; once = join-once; linked = join-linked; last = join-last }
