use Rattle.std.proofs.Common.{◌≡◌, ◌≢◌, ℕ, zero, suc, Option, Some, None, true, false, List, []}
use Rattle.std.proofs.Common.{◌∷◌, ◌⊎◌, inl, inr, arith, ap, refl, slice_get, ◌∙◌, sym}
use Rattle.lk_law.proofs.Names.{cases_Bool, NodeName, same_waiter, Waiter, Node, first_node, is_in}
use Rattle.lk_law.proofs.Names.{part, shown, Phase, queues, same_node}
use Rattle.lk_law.proofs.{common.Cases.node_cases, common.Puts.{same_node-self, same_node-true}}
use Rattle.lk_law.proofs.common.Sames.{same_waiter-self, same_waiter-true}
use Rattle.lk_law.specs.Phase.Phase.{Aside}

pub is_in-get : (ws : List Waiter) (i : ℕ) (u : Waiter) → slice_get ws i ≡ Some u
    → is_in ws u ≡ true
is_in-get [] i u h = cc
is_in-get (w ∷ ws) zero u h =
    let e : w ≡ u = grind arith in let s = same_waiter-self u in rw e (grind (arith, s))
is_in-get (w ∷ ws) (suc i) u h =
    let r = is_in-get ws i u h in grind (arith, r, cases_Bool (same_waiter w u))

pub is_in-at : (ws : List Waiter) (u : Waiter) → is_in ws u ≡ true
    → (i : ℕ) × (slice_get ws i ≡ Some u)
is_in-at [] u h = cc
is_in-at (w ∷ ws) u h =
    elim (cases_Bool (same_waiter w u)) [
      | inl t ↦ (0, ap (λ v. Some v) (same_waiter-true w u t))
      | inr f ↦ let r : is_in ws u ≡ true = grind (arith, f) in let p = is_in-at ws u r in
          (suc p.0, p.1)
    ]

-- a waiter is in the second queue, or has its phase
pub part_cases : (second : List Waiter) (phase : Waiter → Phase) (u : Waiter)
    → ((i : ℕ) × (slice_get second i ≡ Some u) × (part second phase u ≡ Aside))
    ⊎ ((part second phase u ≡ phase u) × (is_in second u ≡ false))
part_cases second phase u =
    elim (cases_Bool (is_in second u)) [
      | inl t ↦ let p = is_in-at second u t in inl (p.0, p.1, grind (arith, t))
      | inr f ↦ inr (grind (arith, f), f)
    ]

pub part_in : (second : List Waiter) (phase : Waiter → Phase) (i : ℕ) (u : Waiter)
    → slice_get second i ≡ Some u → part second phase u ≡ Aside
part_in second phase i u h = let t = is_in-get second i u h in grind (arith, t)

-- a waiter of the main queue is not in the second
pub part_out : (second : List Waiter) (phase : Waiter → Phase) (u : Waiter)
    → queues (part second phase u) ≡ true
    → (part second phase u ≡ phase u) × (is_in second u ≡ false)
part_out second phase u h =
    elim (part_cases second phase u) [
      | inl p ↦ absurd (grind (arith, p.2))
      | inr q ↦ q
    ]

pub not_in : (ws : List Waiter) (u : Waiter) → is_in ws u ≡ false → (i : ℕ)
    → slice_get ws i ≡ Some u → ⊥
not_in ws u f i h = let t = is_in-get ws i u h in grind arith

pub outside_part : (second : List Waiter) (phase : Waiter → Phase) (u : Waiter)
    → ((i : ℕ) → slice_get second i ≡ Some u → ⊥) → part second phase u ≡ phase u
outside_part second phase u h =
    elim (part_cases second phase u) [ inl p ↦ absurd (h p.0 p.1) | inr q ↦ q.0 ]

-- what is shown of a node
pub shown_at : (b y : NodeName) (node : NodeName → Node) (n : NodeName) → n ≡ b
    → shown (Some (b, y)) node n ≡ record (node n) { next = Some y }
shown_at b y node n e = let s : same_node n b ≡ true = rw e (same_node-self b) in grind (arith, s)

pub shown_else : (b y : NodeName) (node : NodeName → Node) (n : NodeName) → n ≢ b
    → shown (Some (b, y)) node n ≡ node n
shown_else b y node n ne =
    elim (cases_Bool (same_node n b)) [
      | inl t ↦ absurd (ne (same_node-true n b t))
      | inr f ↦ grind (arith, f)
    ]

pub shown_flag : (c : Option (NodeName × NodeName)) (node : NodeName → Node) (n : NodeName)
    → (shown c node n).flag ≡ (node n).flag
shown_flag None node n = refl
shown_flag (Some p) node n =
    elim (node_cases n p.0) [
      | inl e ↦ ap (λ (x : Node). x.flag) (shown_at p.0 p.1 node n e)
      | inr ne ↦ ap (λ (x : Node). x.flag) (shown_else p.0 p.1 node n ne)
    ]

pub shown_same : (c : Option (NodeName × NodeName)) (node node' : NodeName → Node) (n : NodeName)
    → node' n ≡ node n → shown c node' n ≡ shown c node n
shown_same None node node' n e = e
shown_same (Some p) node node' n e =
    elim (node_cases n p.0) [
      | inl q ↦ shown_at p.0 p.1 node' n q ∙ ap (λ (z : Node). record z { next = Some p.1 }) e
          ∙ sym (shown_at p.0 p.1 node n q)
      | inr ne ↦ shown_else p.0 p.1 node' n ne ∙ e ∙ sym (shown_else p.0 p.1 node n ne)
    ]

-- a list without a first is empty
pub nobody-first : (own : Waiter → NodeName) (ws : List Waiter) → first_node own ws ≡ None → ws ≡ []
nobody-first own [] h = refl
nobody-first own (z ∷ ws) h = cc h
