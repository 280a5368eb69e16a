use Rattle.std.proofs.Common.{◌≡◌, ◌≢◌, ℕ, zero, suc, Option, Some, true, false, List, [], None}
use Rattle.std.proofs.Common.{◌∷◌, ◌++◌, ◌⊎◌, inl, inr, arith, ap, refl, sym, ◌∙◌, subst, ◌<◌, ◌≤◌}
use Rattle.std.proofs.Common.{◌+◌, slice_get, drop, take}
use Rattle.lk_law.proofs.Names.{NodeName, get-drop_one, Waiter, rest_node, Node, flag_for, is_in}
use Rattle.lk_law.proofs.Names.{part, shown, Phase, has_node, leads, queues, Prepared, Waits}
use Rattle.lk_law.proofs.Names.{QueueAgrees, Stage}
use Rattle.lk_law.proofs.cna.Joined.{get-take, get-take_in, get_below, get-join, get-join_left}
use Rattle.lk_law.proofs.cna.Parts.{part_cases, part_in, part_out, not_in, is_in-get, outside_part}
use Rattle.lk_law.proofs.{cna.Parts.{shown_else, shown_flag}, cna.Steps.{HandsOver, IsHandedTo}}
use Rattle.lk_law.proofs.common.Cases.{waiter_cases, node_cases}
use Rattle.lk_law.proofs.queue.Move.{queue_move, GoesAside}
use Rattle.lk_law.specs.Phase.Phase.{Aside}

pub get-skip : (k : ℕ) (main : List Waiter) (i : ℕ) (u : Waiter)
    → slice_get (take k (drop 1 main)) i ≡ Some u → (i < k) × (slice_get main (suc i) ≡ Some u)
get-skip k main i u h =
    let r = get-take k (drop 1 main) i u h in (r.0, sym (get-drop_one main i) ∙ r.1)

pub skip-in : (k : ℕ) (main : List Waiter) (i : ℕ) (u : Waiter) → i < k
    → slice_get main (suc i) ≡ Some u → slice_get (take k (drop 1 main)) i ≡ Some u
skip-in k main i u lt h = get-take_in k (drop 1 main) i lt ∙ get-drop_one main i ∙ h

-- the flag that the front stores makes its waiter lead
pub flag_leads : (named : Option NodeName) → leads Waits (flag_for named) ≡ true
flag_leads None = refl
flag_leads (Some n) = refl

-- the head hands the lead on: k waiters go to second
module _ {tail : Option NodeName} {phase phase' : Waiter → Phase} {own own' : Waiter → NodeName}
    {node node' : NodeName → Node} {stage stage' : Waiter → Stage}
    {kept : Waiter → Option NodeName} {main : List Waiter} {w v : Waiter} {k : ℕ}
    {y b : NodeName} {x : Node} (second : List Waiter)
    (queue : QueueAgrees tail (part second phase) own (shown (Some (b, y)) node) main)
    (step : HandsOver phase phase' own own' node node' stage stage' kept main w y x)
    (to : IsHandedTo phase own main k v y)
    (at_b : (u : Waiter) → slice_get main k ≡ Some u → own u ≡ b) where
  -- what is stored for v keeps its link, and makes it lead
  c8-next : x.next ≡ (node y).next
  c8-next = ap (λ (n : Node). n.next) step.store

  c8-leads : leads Waits x.flag ≡ true
  c8-leads = rw step.store (flag_leads (kept w))

  -- a waiter of the main queue, and what it is there
  pub c8-main : (i : ℕ) (u : Waiter) → slice_get main i ≡ Some u
      → (part second phase u ≡ phase u) × (is_in second u ≡ false) × (queues (phase u) ≡ true)
      × (has_node (phase u) ≡ true)
  c8-main i u h = let q = queue.members.inside i u h in let p = part_out second phase u q in
      let z : queues (phase u) ≡ true = grind (arith, q, p.0) in (p.0, p.1, z, noded (phase u) z)
    where
      noded : (r : Phase) → queues r ≡ true → has_node r ≡ true
      noded r p = grind arith

  pub c8-not_w : (i : ℕ) (u : Waiter) → slice_get main (suc i) ≡ Some u → u ≢ w
  c8-not_w i u h e = let at : slice_get main (suc i) ≡ Some w = h ∙ ap (λ z. Some z) e in
      grind (arith, queue.members.once (suc i) 0 w at step.front)

  -- the one that has b
  pub c8-b : (z : Waiter) × (slice_get main k ≡ Some z) × (own z ≡ b)
  c8-b = let p = get_below main k (suc k) v to.place (omega arith) in (p.0, p.1, at_b p.0 p.1)

  pub c8-not_b : (u : Waiter) → has_node (phase u) ≡ true → u ≢ c8-b.0 → own u ≢ b
  c8-not_b u h ne e = ne (step.apart u c8-b.0 h (c8-main k c8-b.0 c8-b.1).3 (e ∙ sym c8-b.2))

  c8-not_y : (u : Waiter) → has_node (phase u) ≡ true → u ≢ v → own u ≢ y
  c8-not_y u h ne e = ne (step.apart u v h (c8-main (suc k) v to.place).3 (e ∙ sym to.owned))

  -- the node of another than v
  pub c8-same : (u : Waiter) → has_node (phase u) ≡ true → u ≢ w → u ≢ v
      → node' (own' u) ≡ node (own u)
  c8-same u h ne nv = rw (step.owns u ne) (step.writes.others (own u) (c8-not_y u h nv))

  -- a moved one
  c8-moved : (j : ℕ) (u : Waiter) → j < k → slice_get main (suc j) ≡ Some u
      → part (second ++ take k (drop 1 main)) phase' u ≡ Aside
  c8-moved j u lt h =
      let p = skip-in k main j u lt h in
      let i = is_in-get (take k (drop 1 main)) j u p in
      let r = join-right second (take k (drop 1 main)) j u p in
      part_in (second ++ take k (drop 1 main)) phase' r.0 u r.1
    where
      join-right : (xs ys : List Waiter) (j : ℕ) (u : Waiter) → slice_get ys j ≡ Some u
          → (i : ℕ) × (slice_get (xs ++ ys) i ≡ Some u)
      join-right [] ys j u h = (j, h)
      join-right (x ∷ xs) ys j u h = let r = join-right xs ys j u h in (suc r.0, r.1)

  -- one behind those that are moved
  c8-behind : (i : ℕ) (u : Waiter) → slice_get main (k + 1 + i) ≡ Some u
      → (u ≢ w) × (part (second ++ take k (drop 1 main)) phase' u ≡ phase' u)
  c8-behind i u h =
      let e : k + 1 + i ≡ suc (k + i) = omega arith in
      let h' : slice_get main (suc (k + i)) ≡ Some u = rw e at h in
      let ne = c8-not_w (k + i) u h' in
      let m = c8-main (suc (k + i)) u h' in (
        ne,
        outside_part (second ++ take k (drop 1 main)) phase' u
            (λ j g. elim (get-join second (take k (drop 1 main)) j u g) [
              | inl a ↦ not_in second u m.1 j a
              | inr p ↦ let s = get-skip k main p.0 u p.2 in
                  let o = queue.members.once (suc p.0) (suc (k + i)) u s.1 h' in let lt = s.0 in
                  omega arith
            ]),
      )

  c8-else : (u : Waiter) → u ≢ w
      → (part (second ++ take k (drop 1 main)) phase' u ≡ Aside)
      ⊎ ((part (second ++ take k (drop 1 main)) phase' u ≡ phase u)
      × (part second phase u ≡ phase u))
  c8-else u ne =
      elim (part_cases (second ++ take k (drop 1 main)) phase' u) [
        | inl p ↦ inl p.2
        | inr q ↦ inr (
          q.0 ∙ step.moves.others u ne,
          outside_part second phase u
              (λ i h. not_in (second ++ take k (drop 1 main)) u q.1 i
              (get-join_left second (take k (drop 1 main)) i u h)),
        )
      ]

  c8-w : queues (part (second ++ take k (drop 1 main)) phase' w) ≡ false
  c8-w = elim (part_cases (second ++ take k (drop 1 main)) phase' w) [
    | inl p ↦ grind (arith, p.2)
    | inr q ↦ grind (arith, q.0, step.moves.now)
  ]

  c8-gone : (i : ℕ) (u : Waiter) → i ≤ k → slice_get main i ≡ Some u
      → queues (part (second ++ take k (drop 1 main)) phase' u) ≡ false
  c8-gone zero u le h = let e : u ≡ w = grind (arith, h, step.front) in rw e c8-w
  c8-gone (suc j) u le h = let m = c8-moved j u (omega arith) h in rw m refl

  c8-stays : (i : ℕ) (u : Waiter) → slice_get main (k + 1 + i) ≡ Some u
      → (part (second ++ take k (drop 1 main)) phase' u ≡ part second phase u) × (own' u ≡ own u)
      × ((node' (own' u)).next ≡ (shown (Some (b, y)) node (own u)).next)
  c8-stays i u h =
      let e : k + 1 + i ≡ suc (k + i) = omega arith in
      let h' : slice_get main (suc (k + i)) ≡ Some u = rw e at h in
      let z = c8-behind i u h in
      let m = c8-main (suc (k + i)) u h' in
      let nb : u ≢ c8-b.0 =
      (λ q. let at : slice_get main (suc (k + i)) ≡ Some c8-b.0 = h' ∙ ap (λ z. Some z) q in
      let o = queue.members.once (suc (k + i)) k c8-b.0 at c8-b.1 in omega arith) in
      let s = shown_else b y node (own u) (c8-not_b u m.3 nb) in (
        z.1 ∙ step.moves.others u z.0 ∙ sym m.0,
        step.owns u z.0,
        rw (step.owns u z.0, s) (elim (node_cases (own u) y) [
          | inl q ↦ rw q (ap (λ (n : Node). n.next) step.writes.now ∙ c8-next)
          | inr n ↦ ap (λ (n : Node). n.next) (step.writes.others (own u) n)
        ]),
      )

  c8-flag : (i : ℕ) (u : Waiter) → slice_get main (k + 1 + suc i) ≡ Some u
      → (node' (own' u)).flag ≡ (shown (Some (b, y)) node (own u)).flag
  c8-flag i u h =
      let e : k + 1 + suc i ≡ suc (k + suc i) = omega arith in
      let h' : slice_get main (suc (k + suc i)) ≡ Some u = rw e at h in
      let ne = c8-not_w (k + suc i) u h' in
      let m = c8-main (suc (k + suc i)) u h' in
      let nv : u ≢ v =
      (λ q. let at : slice_get main (suc (k + suc i)) ≡ Some v = h' ∙ ap (λ z. Some z) q in
      let o = queue.members.once (suc (k + suc i)) (suc k) v at to.place in omega arith) in
      ap (λ (n : Node). n.flag) (c8-same u m.3 ne nv) ∙ sym (shown_flag (Some (b, y)) node (own u))

  c8-others : (u : Waiter) → queues (part (second ++ take k (drop 1 main)) phase' u) ≡ true
      → queues (part second phase u) ≡ true
  c8-others u h =
      elim (waiter_cases u w) [
        | inl e ↦ absurd
            (let z : queues (part (second ++ take k (drop 1 main)) phase' w) ≡ true =
            subst (λ (z : Waiter). queues (part (second ++ take k (drop 1 main)) phase' z) ≡ true) e
            h in cc (z, c8-w))
        | inr ne ↦ elim (c8-else u ne) [
          | inl a ↦ absurd (let z : queues Aside ≡ true =
              subst (λ (r : Phase). queues r ≡ true) a h in cc z)
          | inr p ↦ subst (λ (r : Phase). queues r ≡ true) (p.0 ∙ sym p.1) h
        ]
      ]

  c8-new : (u : Waiter) → part (second ++ take k (drop 1 main)) phase' u ≡ Prepared
      → node' (own' u) ≡ rest_node
  c8-new u h =
      elim (waiter_cases u w) [
        | inl e ↦ absurd (elim (part_cases (second ++ take k (drop 1 main)) phase' w) [
          | inl p ↦
              cc (
                p.2,
                subst (λ (z : Waiter).
                    part (second ++ take k (drop 1 main)) phase' z ≡ Prepared) e h,
              )
          | inr q ↦
              cc (
                q.0,
                step.moves.now,
                subst (λ (z : Waiter). part (second ++ take k (drop 1 main)) phase' z ≡ Prepared) e
                    h,
              )
        ])
        | inr ne ↦ elim (c8-else u ne) [
          | inl a ↦ absurd (cc (a, h))
          | inr p ↦
              let f : phase u ≡ Prepared = sym p.0 ∙ h in
              let n : has_node (phase u) ≡ true = rw f refl in
              let old = queue.links.fresh u (p.1 ∙ f) in
              let nb : u ≢ c8-b.0 = (λ e. let m = c8-main k c8-b.0 c8-b.1 in let g = ap phase e in
              grind (arith, m.2, f, g)) in
              let nv : u ≢ v = (λ e. let g = ap phase e in cc (g, f, to.waits)) in
              c8-same u n ne nv ∙ sym (shown_else b y node (own u) (c8-not_b u n nb)) ∙ old
        ]
      ]

  pub c8_queue : QueueAgrees tail (part (second ++ take k (drop 1 main)) phase') own' node'
      (drop (suc k) main)
  c8_queue =
      let e : k + 1 ≡ suc k = omega arith in
      let ne = c8-not_w k v to.place in
      let m = c8-main (suc k) v to.place in
      let f : node' (own v) ≡ x = rw to.owned step.writes.now in
      let aside : GoesAside (part second phase) (part (second ++ take k (drop 1 main)) phase') own
      own' (shown (Some (b, y)) node) node' main k v =
      record {
        place = rw e to.place;
        waits = m.0 ∙ to.waits;
        told = rw f c8-leads;
        gone = c8-gone;
        stays = c8-stays;
        flags = c8-flag;
        others = c8-others;
        fresh = c8-new;
      } in
      queue_move queue aside
