-- Each event that a row tells is allowed on the histories before it.
use Rattle.std.proofs.Common.{◌≡◌, Option, Some, None, true, false, List, arith, ap, refl, sym, ◌∙◌}
use Rattle.std.proofs.Common.{subst, slice_get}
use Rattle.lk_law.proofs.Names.{Free, NodeName, LockHistory, lock_of, taken, with_holder, IsFront}
use Rattle.lk_law.proofs.Names.{IsOutside, IsShared, Rules, TakesInOrder, Event, How, Head, Arrive}
use Rattle.lk_law.proofs.Names.{Miss, Pass, Release, Take, Holder, Spins, LockName, Waiter}
use Rattle.lk_law.proofs.Names.{SnapshotAgrees, sole, MayFollow, moves_aside, has_node, leads}
use Rattle.lk_law.proofs.Names.{queues, Claims, Hands, Prepared, Releases, Stakes, Snapshot}
use Rattle.lk_names.specs.{Lawful.Holds, declared.events.How.TheVariants.{Pending, Sole}}
use Rattle.lk_law.proofs.common.Before.{nodes_apart}
use Rattle.lk_law.proofs.common.Families.{lists_main, lists_second, lists_front}
use Rattle.lk_law.proofs.common.Holders.{outside_is, holds_is, holds_alone, shared_sole}
use Rattle.lk_law.proofs.common.Told.{sole_taken, sole_freed}
use Rattle.lk_law.specs.Allowed.{MayFollowOn}

-- the event is on one lock, whose history allows it
pub on_lock : (rules : Rules) (hs : LockName → LockHistory) (e : Event) (l : LockName)
    → lock_of e.what ≡ Some l → MayFollowOn rules (hs l) e → MayFollow rules hs e
on_lock rules hs e l p a m q =
    let P : LockName → Type 0 = λ k. MayFollowOn rules (hs k) e in subst P (grind (arith, p, q)) a

pub shared_by : {holders : List Holder} (holder : Option Waiter) → holders ≡ sole holder
    → IsShared holders
shared_by holder e = subst IsShared (sym e) (shared_sole holder)

module _ {s : Snapshot} {hs : LockName → LockHistory} (ok : SnapshotAgrees s hs) (w : Waiter)
    (l : LockName) where
  -- who is in no phase of the queue stands outside of it
  pub outside : queues (s.phase l w) ≡ false → IsOutside (hs l) w
  outside out = let o = ok.locks l in
      outside_is (hs l) w (λ i p. grind (arith, lists_main o.lists i w p))
      (λ i p. grind (arith, lists_second o.lists i w p))

  pub first_is : leads (s.phase l w) ((s.node (s.own w)).flag) ≡ true → IsFront (hs l) w
  first_is lead = lists_front (ok.locks l).lists w lead

  unheld : (s.word l).locked ≡ Free → ¬ Holds (hs l) w
  unheld free c = let o = ok.locks l in let n = o.hold.free free in
      let m = holds_is (hs l) w o.holder o.holders c in grind arith

module _ (rules : Rules) {s : Snapshot} {hs : LockName → LockHistory} (ok : SnapshotAgrees s hs)
    (w : Waiter) (l : LockName) where
  -- a take of the free lock
  pub take_on : (how : How) → (s.word l).locked ≡ Free
      → (taken (hs l) w how).holders ≡ (with_holder (hs l) w Spins).holders
      → TakesInOrder (hs l) w how → MayFollow rules hs (record { by = w; what = Take l how })
  take_on how free plain order =
      let o = ok.locks l in
      on_lock rules hs (record { by = w; what = Take l how }) l refl
      (record {
        owned = unheld ok w l free;
        ordered = order;
        shared = shared_by (Some w)
            (plain ∙ sole_taken (hs l) w o.holder o.holders (o.hold.free free));
      })

  -- A take by a waiter that stands in no queue.
  pub allow_take : (how : How) → queues (s.phase l w) ≡ false → (s.word l).locked ≡ Free
      → taken (hs l) w how ≡ with_holder (hs l) w Spins
      → (IsOutside (hs l) w → TakesInOrder (hs l) w how)
      → MayFollow rules hs (record { by = w; what = Take l how })
  allow_take how out free plain order =
      take_on how free (ap (λ (h : LockHistory). h.holders) plain) (order (outside ok w l out))

  pub allow_claim : s.phase l w ≡ Claims
      → MayFollow rules hs (record { by = w; what = Take l Pending })
  allow_claim was =
      allow_take Pending (grind (arith, was)) ((ok.locks l).pend.free w (grind (arith, was))) refl
      (λ p. p)

  pub allow_head : s.phase l w ≡ Stakes → MayFollow rules hs (record { by = w; what = Take l Head })
  allow_head was =
      take_on Head ((ok.locks l).pend.free w (grind (arith, was))) refl
      (first_is ok w l (grind (arith, was)))

  pub allow_sole : s.phase l w ≡ Stakes → MayFollow rules hs (record { by = w; what = Take l Sole })
  allow_sole was =
      take_on Sole ((ok.locks l).pend.free w (grind (arith, was))) refl
      (first_is ok w l (grind (arith, was)))

  pub allow_miss : MayFollow rules hs (record { by = w; what = Miss l })
  allow_miss =
      on_lock rules hs (record { by = w; what = Miss l }) l refl
      (record {
        owned = tt;
        ordered = tt;
        shared = shared_by (ok.locks l).holder (ok.locks l).holders;
      })

  pub allow_release : s.phase l w ≡ Releases
      → MayFollow rules hs (record { by = w; what = Release l None })
  allow_release was =
      let o = ok.locks l in
      let mine : o.holder ≡ Some w = o.hold.has w (grind (arith, was, o.hold.releases w was)) in
      on_lock rules hs (record { by = w; what = Release l None }) l refl
      (record {
        owned = holds_alone (hs l) w o.holder o.holders mine;
        ordered = outside ok w l (grind (arith, was));
        shared = shared_by None (sole_freed (hs l) w o.holder o.holders mine);
      })

  pub allow_arrive : s.phase l w ≡ Prepared
      → MayFollow rules hs (record { by = w; what = Arrive l })
  allow_arrive was =
      let o = ok.locks l in
      let h = o.hold.without w (grind (arith, was)) in
      let no : ¬ Holds (hs l) w = (λ c. let m = holds_is (hs l) w o.holder o.holders c in
      grind (arith, o.hold.had w m, was, h)) in
      on_lock rules hs (record { by = w; what = Arrive l }) l refl
      (record {
        owned = tt;
        ordered = (outside ok w l (grind (arith, was)), no);
        shared = shared_by o.holder o.holders;
      })

  -- a handover to the second, past nobody
  pub allow_pass : (n : NodeName) (to : Waiter) → s.phase l w ≡ Hands n
      → slice_get (hs l).main 1 ≡ Some to
      → MayFollow rules hs (record { by = w; what = Pass l to 0 })
  allow_pass n to was next =
      let o = ok.locks l in
      on_lock rules hs (record { by = w; what = Pass l to 0 }) l refl
      (record {
        owned = tt;
        ordered = (
          first_is ok w l (grind (arith, was)),
          (Spins, holds_alone (hs l) w o.holder o.holders (o.hold.has w (grind (arith, was)))),
          grind arith,
          next,
        );
        shared = shared_by o.holder o.holders;
      })

-- The waiter whose node the front knows as the next is the second of the queue.
pub next_is : {s : Snapshot} {hs : LockName → LockHistory} → SnapshotAgrees s hs
    → (w : Waiter) (l : LockName) (n : NodeName) → moves_aside s.mode ≡ false
    → s.phase l w ≡ Hands n → (k : LockName) (to : Waiter) → has_node (s.phase k to) ≡ true
    → s.own to ≡ n → slice_get (hs l).main 1 ≡ Some to
next_is {s = s} ok w l n plain was k to p e =
    let v = ((ok.locks l).lists.flat plain).queue.links.hand w n was in
    let same : to ≡ v.0 = nodes_apart ok.nodes k l to v.0 p (grind (arith, v.2)) (e ∙ sym v.3) in
    v.1 ∙ ap Some (sym same)
