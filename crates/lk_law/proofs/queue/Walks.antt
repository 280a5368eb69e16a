-- The main queue is the walk.
use Rattle.std.proofs.Common.{◌≡◌, ℕ, zero, suc, Option, Some, None, true, List, [], ◌∷◌, length}
use Rattle.std.proofs.Common.{inl, inr, arith, ap, slice_get, refl, sym, ◌∙◌, ◌≤◌, map}
use Rattle.lk_law.proofs.Names.{NodeName, get-none_up, get_cases, Waiter, Flag, Node, first_node}
use Rattle.lk_law.proofs.Names.{front_cut, part, Phase, has_node, leads, queues, Links, Waits}
use Rattle.lk_law.proofs.Names.{QueueAgrees}
use Rattle.lk_law.proofs.{cna.Parts.{part_cases, shown_flag}, common.Cases.Apart}
use Rattle.lk_law.proofs.{common.Families.lists_front, common.Frame.queue_node, queue.Laws.apart_on}
use Rattle.lk_law.proofs.queue.Lead.{follows_cases, lead_first}
use Rattle.lk_law.specs.Walk.{walk, IsBehind, MainIsTheWalk, MainIsTheShownWalk, SecondIsTheWalk}

abbrev own_of : (Waiter → NodeName) → Option Waiter → Option NodeName
own_of own None = None
own_of own (Some u) = Some (own u)

-- a list in which behind each stands the next of it is the walk
walk_is : (behind : NodeName → Option NodeName) (own : Waiter → NodeName) (us : List Waiter) (c : ℕ)
    → length us ≤ c
    → ((i : ℕ) (u : Waiter) → slice_get us i ≡ Some u
    → behind (own u) ≡ own_of own (slice_get us (suc i)))
    → walk behind c (own_of own (slice_get us 0)) ≡ map own us
walk_is behind own [] zero h each = refl
walk_is behind own [] (suc c) h each = refl
walk_is behind own (u ∷ us) zero h each = absurd (grind arith)
walk_is behind own (u ∷ us) (suc c) h each =
    let r = walk_is behind own us c (grind arith) (λ i v e. each (suc i) v e) in
    let s : behind (own u) ≡ own_of own (slice_get us 0) = each 0 u refl in
    ap (λ (o : Option NodeName). own u ∷ walk behind c o) s
    ∙ ap (λ (ns : List NodeName). own u ∷ ns) r

module _ {tail : Option NodeName} {phase : Waiter → Phase} {own : Waiter
    → NodeName} {node : NodeName → Node} {main : List Waiter}
    {behind : NodeName → Option NodeName}
    (ok : QueueAgrees tail phase own node main) (is : IsBehind phase own node behind)
    (apart : Apart phase own) where
  -- nobody will link to the last
  nobody : (i : ℕ) (u v : Waiter) → slice_get main i ≡ Some u → slice_get main (suc i) ≡ None
      → phase v ≡ Links (own u) → ⊥
  nobody i u v h e l = let at = ok.members.place v (ap queues l) in go at.0 at.1
    where
      go : (j : ℕ) → slice_get main j ≡ Some v → ⊥
      go zero a = grind (arith, ok.ends.first v a, l)
      go (suc j) a = elim (get_cases main j) [
        | inl none ↦ grind (arith, get-none_up main j none, a)
        | inr p ↦
            let n = (ok.links.linking j p.0 v (own u) p.1 a l).0 in
            let same : u ≡ p.0 =
            apart u p.0 (queue_node (phase u) (ok.members.inside i u h))
            (queue_node (phase p.0) (ok.members.inside j p.0 p.1)) n in
            let ij : i ≡ j = ok.members.once i j u h (p.1 ∙ ap Some (sym same)) in
            grind (arith, ap (λ (k : ℕ). slice_get main (suc k)) ij, a, e)
      ]

  -- behind the node of each waiter stands that of the next
  stands_behind : (i : ℕ) (u : Waiter) → slice_get main i ≡ Some u
      → behind (own u) ≡ own_of own (slice_get main (suc i))
  stands_behind i u h =
      elim (get_cases main (suc i)) [
        | inl e ↦ is.none (own u) (ok.links.last i u h e) (λ v l. nobody i u v h e l)
            ∙ sym (ap (own_of own) e)
        | inr v ↦ elim (follows_cases (phase v.0) (ok.ends.behind i v.0 v.1).0) [
          | inl l ↦ let k = ok.links.linking i u v.0 l.0 h v.1 l.1 in
              is.linking (own u) v.0 k.1 (l.1 ∙ ap Links k.0) ∙ sym (ap (own_of own) v.1)
          | inr w ↦ is.linked (own u) (own v.0) (ok.links.linked i u v.0 h v.1 w)
              ∙ sym (ap (own_of own) v.1)
        ]
      ]

  walk_main : (c : ℕ) → length main ≤ c
      → walk behind c (own_of own (slice_get main 0)) ≡ map own main
  walk_main c h = walk_is behind own main c h stands_behind

  pub walk_led : (u : Waiter) → slice_get main 0 ≡ Some u → (c : ℕ) → length main ≤ c
      → walk behind c (Some (own u)) ≡ map own main
  walk_led u at c h = ap (λ o. walk behind c (own_of own o)) (sym at) ∙ walk_main c h

pub main_is_the_walk : MainIsTheWalk
main_is_the_walk s hs l ok flat =
    let q = ((ok.locks l).lists.flat flat).queue in
    record {
      led = λ behind is u lead c h. walk_led q is (apart_on ok.nodes l) u (lead_first q u lead) c h;
      unled = λ none. empty (hs l).main (λ u at. none u (q.ends.first u at));
    }
  where
    empty : (us : List Waiter) → ((u : Waiter) → slice_get us 0 ≡ Some u → ⊥) → us ≡ []
    empty [] no_first = refl
    empty (u ∷ us) no_first = absurd (no_first u refl)

-- a phase that is shown with a node has one
shown_noded : (second : List Waiter) (phase : Waiter → Phase)
    → ((i : ℕ) (u : Waiter) → slice_get second i ≡ Some u → phase u ≡ Waits) → (u : Waiter)
    → has_node (part second phase u) ≡ true → has_node (phase u) ≡ true
shown_noded second phase waits u h =
    elim (part_cases second phase u) [
      | inl q ↦ ap has_node (waits q.0 u q.1)
      | inr q ↦ ap has_node (sym q.0) ∙ h
    ]

-- who stands first leads
front_leads : (second : List Waiter) (phase : Waiter → Phase) (u : Waiter) (f : Flag)
    → leads (part second phase u) f ≡ true → leads (phase u) f ≡ true
front_leads second phase u f h =
    elim (part_cases second phase u) [
      | inl q ↦ absurd
          (let a = ap (λ (r : Phase). leads r f) (sym q.2) ∙ h in cc a)
      | inr q ↦ ap (λ (r : Phase). leads r f) (sym q.0) ∙ h
    ]

pub main_is_the_shown_walk : MainIsTheShownWalk
main_is_the_shown_walk s hs l ok aside =
    let o = (ok.locks l).lists.cna aside in
    let noded = shown_noded (hs l).second (s.phase l) (λ i u h. (o.second_ok.waits i u h).0) in
    record {
      led = λ behind is u lead c h.
          walk_led o.queue is (λ a b p q e. apart_on ok.nodes l a b (noded a p) (noded b q) e) u
          (lists_front (ok.locks l).lists u lead) c h;
      unled = λ none.
          go (hs l).main (λ u at.
          none u (front_leads (hs l).second (s.phase l) u ((s.node (s.own u)).flag)
          (rw
          (sym (shown_flag (front_cut s.own (s.stage l) (slice_get (hs l).main 0)) s.node
          (s.own u))) (o.queue.ends.first u at))));
    }
  where
    go : (us : List Waiter) → ((u : Waiter) → slice_get us 0 ≡ Some u → ⊥) → us ≡ []
    go [] none = refl
    go (u ∷ us) none = absurd (none u refl)

-- a list in which each names the one behind it is the walk of as many steps
walk_along : (next : NodeName → Option NodeName) (own : Waiter → NodeName) (us : List Waiter)
    → ((i : ℕ) (u v : Waiter) → slice_get us i ≡ Some u → slice_get us (suc i) ≡ Some v
    → next (own u) ≡ Some (own v))
    → walk next (length us) (first_node own us) ≡ map own us
walk_along next own [] each = refl
walk_along next own (u ∷ []) each = refl
walk_along next own (u ∷ v ∷ us) each =
    let rest = walk_along next own (v ∷ us) (λ i a b p q. each (suc i) a b p q) in
    let step : next (own u) ≡ Some (own v) = each 0 u v refl refl in
    ap (λ (o : Option NodeName). own u ∷ walk next (length (v ∷ us)) o) step
    ∙ ap (λ (ns : List NodeName). own u ∷ ns) rest

pub second_is_the_walk : SecondIsTheWalk
second_is_the_walk s hs l ok aside =
    let o = (ok.locks l).lists.cna aside in
    record {
      walked =
          walk_along (λ n. (s.node n).next) s.own (hs l).second
          (λ i u v p q. o.second_ok.linked i u v p q);
      ended = o.second_ok.last;
      known = λ u lead some. (o.lead u (lists_front (ok.locks l).lists u lead)).names (inr some);
    }
