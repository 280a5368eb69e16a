-- The events of the choice are allowed on the histories before them; and no waiter that stands
-- aside is passed by too often.
use Rattle.std.proofs.Common.{◌≡◌, ◌<◌, ◌≤◌, ℕ, zero, suc, Some, Bool, true, List, [], ◌∷◌, arith}
use Rattle.std.proofs.Common.{ap, refl, sym, ◌∙◌, subst, slice_get, not}
use Rattle.lk_law.proofs.Names.{NodeName, LockHistory, Rules, is_local, Flush, Pass, Promote, Spins}
use Rattle.lk_law.proofs.Names.{LockName, Mode, Cna, Native, Pv, Virt, Waiter, SnapshotAgrees}
use Rattle.lk_law.proofs.Names.{MayFollow, moves_aside, has_node, Holds, Waits, Snapshot, Counts}
use Rattle.lk_law.proofs.Names.{Picked}
use Rattle.lk_names.specs.Lawful.{is_far, movable, lawful_moves}
use Rattle.lk_law.proofs.{cna.Front.front_lead, cna.Joined.get_below, cna.Laws.{here, front}}
use Rattle.lk_law.proofs.{common.Allowed.{on_lock, shared_by, first_is}, common.Before.nodes_apart}
use Rattle.lk_law.proofs.common.Holders.{holds_alone}

-- so many waiters may be moved, where each of them is far and has another behind it
movable_least : (far : Waiter → Bool) (ws : List Waiter) (k : ℕ)
    → ((i : ℕ) → i < k
    → (u : Waiter) × (v : Waiter) × (slice_get ws i ≡ Some u) × (far u ≡ true)
    × (slice_get ws (suc i) ≡ Some v))
    → k ≤ movable far ws
movable_least far ws zero each = omega arith
movable_least far [] (suc k) each = absurd (let e = each 0 (omega arith) in grind (arith, e.2))
movable_least far (u ∷ []) (suc k) each =
    absurd (let e = each 0 (omega arith) in grind (arith, e.4))
movable_least far (u ∷ v ∷ ws) (suc k) each =
    let e = each 0 (omega arith) in
    let first : u ≡ e.0 = grind (arith, e.2) in
    let is : far u ≡ true = ap far first ∙ e.3 in
    let r : k ≤ movable far (v ∷ ws) =
    movable_least far (v ∷ ws) k (λ i lt. each (suc i) (omega (arith, lt))) in
    rw is (omega (arith, r))

-- how many a handover may move in the family that moves waiters aside
cna_moves : (rules : Rules) (w : Waiter) (ws : List Waiter) → rules.mode ≡ Cna
    → lawful_moves rules (w ∷ ws) ≡ movable (is_far rules w) ws
cna_moves rules w ws e = go rules.mode e
  where
    go : (mode : Mode) → mode ≡ Cna
        → lawful_moves (record rules { mode = mode }) (w ∷ ws) ≡ movable (is_far rules w) ws
    go Cna e = refl
    go Virt e = cc e
    go Native e = cc e
    go Pv e = cc e

pub aside_cna : (mode : Mode) → moves_aside mode ≡ true → mode ≡ Cna
aside_cna Cna e = refl
aside_cna Virt e = cc e
aside_cna Native e = cc e
aside_cna Pv e = cc e

cons_of : (ws : List Waiter) (w : Waiter) → slice_get ws 0 ≡ Some w
    → (us : List Waiter) × (ws ≡ w ∷ us)
cons_of [] w h = cc h
cons_of (u ∷ us) w h = let e : u ≡ w = grind (arith, h) in (us, ap (λ (v : Waiter). v ∷ us) e)

module _ (rules : Rules) {s : Snapshot} {hs : LockName → LockHistory} (ok : SnapshotAgrees s hs)
    (w : Waiter) (l : LockName) (was : s.phase l w ≡ Holds) where
  -- the second queue returns
  pub allow_flush : MayFollow rules hs (record { by = w; what = Flush l })
  allow_flush =
      let o = ok.locks l in
      on_lock rules hs (record { by = w; what = Flush l }) l refl
      (record {
        owned = tt;
        ordered = (
          first_is ok w l (grind (arith, was)),
          (Spins, holds_alone (hs l) w o.holder o.holders (o.hold.has w (grind (arith, was)))),
        );
        shared = shared_by o.holder o.holders;
      })

  pub allow_promote : MayFollow rules hs (record { by = w; what = Promote l })
  allow_promote =
      let o = ok.locks l in
      on_lock rules hs (record { by = w; what = Promote l }) l refl
      (record {
        owned = tt;
        ordered = (
          first_is ok w l (grind (arith, was)),
          (Spins, holds_alone (hs l) w o.holder o.holders (o.hold.has w (grind (arith, was)))),
        );
        shared = shared_by o.holder o.holders;
      })

  allow_moves : (to : Waiter) (k : ℕ) → k ≤ lawful_moves rules (hs l).main
      → slice_get (hs l).main (suc k) ≡ Some to
      → MayFollow rules hs (record { by = w; what = Pass l to k })
  allow_moves to k few next =
      let o = ok.locks l in
      on_lock rules hs (record { by = w; what = Pass l to k }) l refl
      (record {
        owned = tt;
        ordered = (
          first_is ok w l (grind (arith, was)),
          (Spins, holds_alone (hs l) w o.holder o.holders (o.hold.has w (grind (arith, was)))),
          few,
          next,
        );
        shared = shared_by o.holder o.holders;
      })

  module _ (aside : moves_aside s.mode ≡ true) (to : Waiter) (m : LockName)
      (noded : has_node (s.phase m to) ≡ true) (y : NodeName) (named : s.own to ≡ y) where
    -- the waiter whose node the front chose is the one that stands there
    next_at : (k : ℕ) (v : Waiter) → slice_get (hs l).main (suc k) ≡ Some v → s.phase l v ≡ Waits
        → s.own v ≡ y → slice_get (hs l).main (suc k) ≡ Some to
    next_at k v at waits own = let same : to ≡ v =
        nodes_apart ok.nodes m l to v noded (ap has_node waits) (named ∙ sym own) in
        at ∙ ap Some (sym same)

    -- the lead goes to the waiter right behind the front
    pub allow_hand : s.stage l w ≡ Picked y
        → MayFollow rules hs (record { by = w; what = Pass l to 0 })
    allow_hand is =
        let v = (front_lead (here ok aside) (front ok was) was is).next 0 y refl in
        allow_moves to 0 (omega arith) (next_at 0 v.0 v.1 v.2 v.3)

    -- The lead goes behind those that were passed over, none of which is local to the front.
    pub allow_move : (a b : NodeName) (k : ℕ) → rules.mode ≡ s.mode
        → ((u v : Waiter) → s.local u v ≡ is_local rules.format rules.sockets u.cpu v)
        → s.stage l w ≡ Counts a b k y → MayFollow rules hs (record { by = w; what = Pass l to k })
    allow_move a b k mode local is =
        let at = front ok was in
        let o = front_lead (here ok aside) at was is in
        let v = o.next k y refl in
        let c = cons_of (hs l).main w at in
        let least : k ≤ movable (is_far rules w) c.0 =
        movable_least (is_far rules w) c.0 k (λ i lt.
        let f = o.far a b k i refl lt in
        let z = get_below (hs l).main (suc (suc i)) (suc k) v.0 v.1 (omega (arith, lt)) in (
          f.0,
          z.0,
          ap (λ (us : List Waiter). slice_get us (suc i)) (sym c.1) ∙ f.1,
          ap not (sym (local w f.0) ∙ f.3),
          ap (λ (us : List Waiter). slice_get us (suc (suc i))) (sym c.1)
              ∙ z.1,
        )) in
        allow_moves to k
        (rw c.1 (subst (λ (n : ℕ). k ≤ n)
        (sym (cna_moves rules w c.0 (mode ∙ aside_cna s.mode aside))) least))
        (next_at k v.0 v.1 v.2 v.3)
