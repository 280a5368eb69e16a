-- The events of the paravirtual lock are allowed on the histories before them. A steal is a take
-- past the queue, and E15 hands on as the other families do.
use Rattle.std.proofs.Common.{◌≡◌, ℕ, Option, Some, None, true, false, arith, refl}
use Rattle.lk_law.proofs.Names.{Free, LockHistory, Rules, Head, Leave, Release, Take, Spins}
use Rattle.lk_law.proofs.Names.{LockName, Waiter, SnapshotAgrees, MayFollow, leads, queues, Holds}
use Rattle.lk_law.proofs.Names.{Releases, Snapshot}
use Rattle.lk_names.specs.declared.events.How.TheVariants.{Steal}
use Rattle.lk_law.proofs.common.Allowed.{on_lock, shared_by, first_is, outside, take_on, allow_take}
use Rattle.lk_law.proofs.{common.Holders.holds_alone, common.Told.sole_freed}

module _ (rules : Rules) {s : Snapshot} {hs : LockName → LockHistory} (ok : SnapshotAgrees s hs)
    (w : Waiter) (l : LockName) where
  -- E4 and E7: the front takes the free lock.
  pub allow_grab : leads (s.phase l w) ((s.node (s.own w)).flag) ≡ true → (s.word l).locked ≡ Free
      → MayFollow rules hs (record { by = w; what = Take l Head })
  allow_grab lead free = take_on rules ok w l Head free refl (first_is ok w l lead)

  -- H2
  pub allow_steal : queues (s.phase l w) ≡ false → (s.word l).locked ≡ Free
      → MayFollow rules hs (record { by = w; what = Take l Steal })
  allow_steal out free = allow_take rules ok w l Steal out free refl (λ p. p)

  -- E13
  pub allow_leave : s.phase l w ≡ Holds → MayFollow rules hs (record { by = w; what = Leave l })
  allow_leave was =
      let o = ok.locks l in
      on_lock rules hs (record { by = w; what = Leave l }) l refl
      (record {
        owned = tt;
        ordered = (
          first_is ok w l (grind (arith, was)),
          (Spins, holds_alone (hs l) w o.holder o.holders (o.hold.has w (grind (arith, was)))),
        );
        shared = shared_by o.holder o.holders;
      })

  -- U2 and U4
  pub allow_drop : (owing : Option ℕ) → s.phase l w ≡ Releases
      → MayFollow rules hs (record { by = w; what = Release l owing })
  allow_drop owing was =
      let o = ok.locks l in
      let mine : o.holder ≡ Some w = o.hold.has w (grind (arith, was, o.hold.releases w was)) in
      on_lock rules hs (record { by = w; what = Release l owing }) l refl
      (record {
        owned = holds_alone (hs l) w o.holder o.holders mine;
        ordered = outside ok w l (grind (arith, was));
        shared = shared_by None (sole_freed (hs l) w o.holder o.holders mine);
      })
