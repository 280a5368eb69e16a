-- Which nodes links name: each link of a used node names a used one; and so is the first of those that
-- a front will link behind the second queue.
use Rattle.std.proofs.Common.{◌≡◌, ◌≢◌, ◌⊎◌, ℕ, suc, Option, Some, None, Bool, true, false, List}
use Rattle.std.proofs.Common.{inl, inr, ap, refl, sym, ◌∙◌, subst, arith, slice_get, is_some}
use Rattle.lk_law.proofs.Names.{cases_Bool, NodeName, get_cases, LockHistory, LockName, Waiter}
use Rattle.lk_law.proofs.Names.{node_of, Frame, Node, Pc, C2, C3, C4, C9, Why, halts, CnaAgrees}
use Rattle.lk_law.proofs.Names.{FlatAgrees, front_cut, front_tip, moves_aside, part, shown}
use Rattle.lk_law.proofs.Names.{may_halt, IsOwnNode, Phase, has_node, queues, Prepared}
use Rattle.lk_law.proofs.Names.{phase_at, phase_if, phase_of, phase_on, snapshot}
use Rattle.lk_law.proofs.Names.{Uses, Snapshot, IsSoundSpinWorld}
use Rattle.lk_law.proofs.Names.{Stage, cut_of, parted, passed_over, picks, tip_of, Counts, Cuts}
use Rattle.lk_law.proofs.Names.{Flushes, Flushing, Hangs, Meets, Picked, Picks, Promotes, Promoting}
use Rattle.lk_law.proofs.Names.{Rests, Skips, Ties, Tips, World}
use Rattle.lk_law.proofs.{cna.Knows.{lists, at_front, stage_here}, cna.Look.next_at}
use Rattle.lk_law.proofs.{cna.Parts.{part_cases, part_out, shown_else}, common.Cases.node_cases}
use Rattle.lk_law.proofs.{common.Families.{Last, lists_rest}, common.Puts.not-true}
use Rattle.lk_law.proofs.common.Users.{user_of, own_node, used_noded, used_own}
use Rattle.lk_law.proofs.common.Worlds.{phase_on-here}
use Rattle.lk_law.specs.{Nodes.{LinkedIsUsed, PassedIsUsed, will_link}, Stage.before_of}
use Rattle.lk_rows.specs.declared.parts.Why.TheVariants as why

-- the link that the queue has in place of that in a node: of the last of those that are cut off, or
-- of a front that has chosen the next
cut_cases : (me : NodeName) (g : Stage) → (cut_of me g ≡ None)
    ⊎ ((b : NodeName) × (y : NodeName) × (cut_of me g ≡ Some (b, y)) × (parted g ≡ Some b))
    ⊎ ((y : NodeName) × (cut_of me g ≡ Some (me, y)) × (picks g ≡ true))
cut_cases me Rests = inl refl
cut_cases me (Skips a b k) = inl refl
cut_cases me (Meets a b k y) = inl refl
cut_cases me (Tips a b k y t) = inl refl
cut_cases me (Ties a b k y) = inl refl
cut_cases me (Cuts a b k y) = inr (inl (b, y, refl, refl))
cut_cases me (Hangs a b k y) = inr (inl (b, y, refl, refl))
cut_cases me (Counts a b k y) = inr (inl (b, y, refl, refl))
cut_cases me (Picks y) = inr (inr (y, refl, refl))
cut_cases me (Picked y) = inr (inr (y, refl, refl))
cut_cases me (Flushes a) = inl refl
cut_cases me (Flushing a t) = inl refl
cut_cases me Promotes = inl refl
cut_cases me (Promoting t) = inl refl

-- what stands behind the second queue is the first of those that were passed over
tip_passed : (g : Stage) (n : NodeName) → tip_of g ≡ Some n
    → (b : NodeName) × (k : ℕ) × (passed_over g ≡ Some (n, b, k))
tip_passed (Ties a b k y) n e = let q : a ≡ n = cc e in (b, k, λ i. Some (q i, b, k))
tip_passed (Cuts a b k y) n e = let q : a ≡ n = cc e in (b, k, λ i. Some (q i, b, k))
tip_passed (Hangs a b k y) n e = let q : a ≡ n = cc e in (b, k, λ i. Some (q i, b, k))
tip_passed (Counts a b k y) n e = let q : a ≡ n = cc e in (b, k, λ i. Some (q i, b, k))
tip_passed _ n e = cc e

none_some : {n : NodeName} → None ≡ Some n → ⊥
none_some e = cc e

-- in the one queue of a lock
flat_link : {tail : Option NodeName} {phase : Waiter → Phase} {own : Waiter → NodeName}
    {node : NodeName → Node} {main second : List Waiter} {passes : List ℕ}
    → FlatAgrees tail phase own node main second passes → (u : Waiter) (n : NodeName)
    → queues (phase u) ≡ true → (node (own u)).next ≡ Some n → Last phase own n
flat_link ok u n q linked =
    let at = ok.queue.members.place u q in
    let v = next_at ok.queue at.0 u n at.1 linked in
    record { by = v.0; noded = ap has_node v.2; owned = v.3 }

-- in both of them
module _ {tail : Option NodeName} {phase : Waiter → Phase} {own : Waiter → NodeName}
    {node : NodeName → Node} {local : Waiter → Waiter → Bool} {threshold : ℕ}
    {stage : Waiter → Stage} {kept : Waiter → Option NodeName} {main second : List Waiter}
    {passes : List ℕ} where
  module _ (ok : CnaAgrees tail phase own node local threshold stage kept main second passes) where
    -- the first of those that were passed over
    passed_first : (w : Waiter) → slice_get main 0 ≡ Some w → (a b : NodeName) (k : ℕ)
        → passed_over (stage w) ≡ Some (a, b, k) → Last phase own a
    passed_first w at_w a b k e =
        let lead = ok.lead w at_w in
        let some = lead.some a b k e in
        let is = some.1 in
        let u = lead.far a b k 0 e (omega arith) in
        record { by = u.0; noded = ap has_node u.2; owned = lead.near a b k u.0 e u.1 }

    -- the first of the rest of the queue
    rest_first : (w : Waiter) → slice_get main 0 ≡ Some w → (a : NodeName) → before_of (stage w) ≡ Some a
        → Last phase own a
    rest_first w at_w a e =
        let v = (ok.lead w at_w).before a e in record { by = v.0; noded = ap has_node v.2; owned = v.3 }

    -- who stands aside
    second_link : (i : ℕ) (u : Waiter) (n : NodeName) → slice_get second i ≡ Some u
        → (node (own u)).next ≡ Some n → Last phase own n
    second_link i u n at linked =
        elim (get_cases second (suc i)) [
          | inl none ↦ elim (get_cases main 0) [
            | inl empty ↦
                absurd (none_some (ap (front_tip stage) (sym empty) ∙ (sym (ok.second_ok.last i u at none) ∙ linked)))
            | inr w ↦
                let tip : tip_of (stage w.0) ≡ Some n =
                ap (front_tip stage) (sym w.1) ∙ (sym (ok.second_ok.last i u at none) ∙ linked) in
                let p = tip_passed (stage w.0) n tip in
                passed_first w.0 w.1 n p.0 p.1 p.2
          ]
          | inr v ↦
              let is : Some (own v.0) ≡ Some n = sym (ok.second_ok.linked i u v.0 at v.1) ∙ linked in
              record { by = v.0; noded = ap has_node (ok.second_ok.waits (suc i) v.0 v.1).0; owned = (let q : own v.0 ≡ n = cc is in q) }
        ]

    -- who stands in the main queue
    module _ (u : Waiter) (n : NodeName) (linked : (node (own u)).next ≡ Some n) where
      -- of any but a front that has chosen the next, the queue has the link that the node has
      shows : ((w : Waiter) → slice_get main 0 ≡ Some w → picks (stage w) ≡ true → own u ≢ own w)
          → (shown (front_cut own stage (slice_get main 0)) node (own u)).next ≡ Some n
      shows other =
          elim (get_cases main 0) [
            | inl empty ↦ ap (λ (o : Option Waiter). (shown (front_cut own stage o) node (own u)).next) empty ∙ linked
            | inr w ↦
                ap (λ (o : Option Waiter). (shown (front_cut own stage o) node (own u)).next) w.1
                ∙ by w.0 w.1 (cut_cases (own w.0) (stage w.0))
          ]
        where
          by : (w : Waiter) → slice_get main 0 ≡ Some w
              → ((cut_of (own w) (stage w) ≡ None)
              ⊎ ((b : NodeName) × (y : NodeName) × (cut_of (own w) (stage w) ≡ Some (b, y)) × (parted (stage w) ≡ Some b))
              ⊎ ((y : NodeName) × (cut_of (own w) (stage w) ≡ Some (own w, y)) × (picks (stage w) ≡ true)))
              → (shown (cut_of (own w) (stage w)) node (own u)).next ≡ Some n
          by w at (inl e) = ap (λ (c : Option (NodeName × NodeName)). (shown c node (own u)).next) e ∙ linked
          by w at (inr (inl t)) =
              elim (node_cases (own u) t.0) [
                | inl same ↦ absurd (none_some (
                    sym ((ok.lead w at).cut t.0 t.3) ∙ (ap (λ (a : NodeName). (node a).next) (sym same) ∙ linked)))
                | inr ne ↦ ap (λ (c : Option (NodeName × NodeName)). (shown c node (own u)).next) t.2
                    ∙ (ap (λ (x : Node). x.next) (shown_else t.0 t.1 node (own u) ne) ∙ linked)
              ]
          by w at (inr (inr t)) =
              ap (λ (c : Option (NodeName × NodeName)). (shown c node (own u)).next) t.1
              ∙ (ap (λ (x : Node). x.next) (shown_else (own w) t.0 node (own u) (other w at t.2)) ∙ linked)

      in_queue : queues (part second phase u) ≡ true
          → ((w : Waiter) → slice_get main 0 ≡ Some w → picks (stage w) ≡ true → own u ≢ own w) → Last phase own n
      in_queue q other =
          let at = ok.queue.members.place u q in
          let v = next_at ok.queue at.0 u n at.1 (shows other) in
          let in_main = part_out second phase v.0 (ok.queue.members.inside (suc at.0) v.0 v.1) in
          record { by = v.0; noded = ap has_node (sym in_main.0 ∙ v.2); owned = v.3 }

      of_main : queues (part second phase u) ≡ true → Last phase own n
      of_main q =
          elim (get_cases main 0) [
            | inl empty ↦ in_queue q (λ w at. absurd (nobody (sym empty ∙ at)))
            | inr w ↦ elim (cases_Bool (picks (stage w.0))) [
              | inl on ↦ elim (node_cases (own u) (own w.0)) [
                | inl same ↦
                    let v = (ok.lead w.0 w.1).own_link n on (ap (λ (a : NodeName). (node a).next) (sym same) ∙ linked) in
                    record { by = v.1; noded = ap has_node v.3; owned = v.4 }
                | inr ne ↦ in_queue q (λ x at h. subst (λ (y : Waiter). own u ≢ own y) (one (sym w.1 ∙ at)) ne)
              ]
              | inr off ↦ in_queue q
                  (λ x at h. absurd (let z : false ≡ true = sym off ∙ (ap (λ (y : Waiter). picks (stage y)) (one (sym w.1 ∙ at)) ∙ h) in cc z))
            ]
          ]
        where
          nobody : {w : Waiter} → None ≡ Some w → ⊥
          nobody e = cc e

          one : {w x : Waiter} → Some w ≡ Some x → w ≡ x
          one e = cc e

      cna_link : queues (phase u) ≡ true → Last phase own n
      cna_link q =
          elim (part_cases second phase u) [
            | inl p ↦ second_link p.0 u n p.1 linked
            | inr p ↦ of_main (ap queues p.0 ∙ q)
          ]

-- a waiter with a node stands in a queue, or nobody can reach its node
queued_or_prepared : (c : Pc) (b : Bool) (x y : NodeName) → may_halt c ≡ false
    → has_node (phase_at c b x y) ≡ true
    → (phase_at c b x y ≡ Prepared) ⊎ (queues (phase_at c b x y) ≡ true)
queued_or_prepared c b x y awake noded =
    elim (cases_Bool (queues (phase_at c b x y))) [
      | inl e ↦ inr e
      | inr e ↦ inl (grind (arith, awake, noded, e))
    ]

module _ {m : World} {hs : LockName → LockHistory} (ok : IsSoundSpinWorld m hs) where
  of_lists : (l : LockName) (n : NodeName) → Last ((snapshot m).phase l) (snapshot m).own n
      → (w : Waiter) × Uses m w n × IsOwnNode w n
  of_lists l n last = (
    last.by,
    subst (Uses m last.by) last.owned (user_of ok l last.by last.noded),
    subst (IsOwnNode last.by) last.owned (own_node ok l last.by last.noded),
  )

  module _ (awake : halts m.mode ≡ false) (u : Waiter) (a n : NodeName) (uses : Uses m u a)
      (linked : (m.node a).next ≡ Some n) where
    abbrev f : Frame
    f = uses.0

    abbrev l : LockName
    l = f.lock

    abbrev s : Snapshot
    s = snapshot m

    own : s.own u ≡ a
    own = used_own ok u a uses

    noded : has_node (s.phase l u) ≡ true
    noded = used_noded ok u a uses

    next : (m.node (s.own u)).next ≡ Some n
    next = ap (λ (k : NodeName). (m.node k).next) own ∙ linked

    here : s.phase l u ≡ phase_of f
    here = ap (phase_on l) uses.1 ∙ phase_on-here l f refl

    placed : (o : Option Pc) → f.place ≡ o → has_node (phase_if o (is_some f.me) (node_of f.prev) (node_of f.y)) ≡ true
        → (phase_if o (is_some f.me) (node_of f.prev) (node_of f.y) ≡ Prepared)
        ⊎ (queues (phase_if o (is_some f.me) (node_of f.prev) (node_of f.y)) ≡ true)
    placed None e h = cc h
    placed (Some c) e h =
        queued_or_prepared c (is_some f.me) (node_of f.prev) (node_of f.y)
        (not-true (may_halt c)
        (λ on. let z = (ok.registers u f uses.1).choice.halting c e on in grind (arith, awake, z))) h

    stands : (s.phase l u ≡ Prepared) ⊎ (queues (s.phase l u) ≡ true)
    stands =
        elim (placed f.place refl (ap has_node (sym here) ∙ noded)) [
          | inl e ↦ inl (here ∙ e)
          | inr e ↦ inr (ap queues here ∙ e)
        ]

    link_used : (w : Waiter) × Uses m w n × IsOwnNode w n
    link_used =
        elim stands [
          | inl p ↦ absurd (none_some (
              ap (λ (x : Node). x.next) (sym (lists_rest (ok.agrees.locks l).lists u p)) ∙ next))
          | inr q ↦ of_lists l n (elim (cases_Bool (moves_aside m.mode)) [
            | inl e ↦ cna_link ((ok.agrees.locks l).lists.cna e) u n next q
            | inr e ↦ flat_link ((ok.agrees.locks l).lists.flat e) u n q next
          ])
        ]

pub linked_is_used : LinkedIsUsed
linked_is_used m hs u a n ok awake uses linked = link_used ok awake u a n uses linked

pub passed_is_used : PassedIsUsed
passed_is_used m hs w f C2 ok live place on =
    of_lists ok f.lock (node_of f.a)
    (passed_first (lists ok live place refl) w (at_front ok live place refl) (node_of f.a) (node_of f.b) f.k
    (ap passed_over (stage_here ok live place refl)))
passed_is_used m hs w f C3 ok live place on =
    of_lists ok f.lock (node_of f.a) (by f.why refl on)
  where
    by : (y : Why) → f.why ≡ y → will_link C3 y ≡ true → Last ((snapshot m).phase f.lock) (snapshot m).own (node_of f.a)
    by why.Append e h =
        passed_first (lists ok live place refl) w (at_front ok live place refl) (node_of f.a) (node_of f.b) f.k
        (ap passed_over (stage_here ok live place refl ∙ ap (Rattle.lk_law.specs.Places.stage_why f) e))
    by why.Flush e h =
        rest_first (lists ok live place refl) w (at_front ok live place refl) (node_of f.a)
        (ap before_of (stage_here ok live place refl ∙ ap (Rattle.lk_law.specs.Places.stage_why f) e))
    by why.Promotion e h = cc h
passed_is_used m hs w f C4 ok live place on =
    of_lists ok f.lock (node_of f.a)
    (passed_first (lists ok live place refl) w (at_front ok live place refl) (node_of f.a) (node_of f.b) f.k
    (ap passed_over (stage_here ok live place refl)))
passed_is_used m hs w f C9 ok live place on =
    of_lists ok f.lock (node_of f.a)
    (rest_first (lists ok live place refl) w (at_front ok live place refl) (node_of f.a)
    (ap before_of (stage_here ok live place refl)))
passed_is_used m hs w f _ ok live place on = cc on
