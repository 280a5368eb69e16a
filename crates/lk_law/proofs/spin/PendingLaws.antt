-- The laws of the pending bit: it is set, cleared again, watched, and the lock is taken by it.
use Rattle.std.proofs.Common.{◌≡◌, ◌≢◌, Some, None, Bool, true, false, inl, inr, arith, refl}
use Rattle.lk_law.proofs.Names.{Locked, Free, Held, LockHistory, told, Event, Take, LockName}
use Rattle.lk_law.proofs.Names.{Waiter, SnapshotAgrees, Stays, Step, halts, Phase, claims, has_lock}
use Rattle.lk_law.proofs.Names.{has_node, pends, queues, stakes, watches, Claims, Idle, Seeks}
use Rattle.lk_law.proofs.Names.{PendingAgrees, Snapshot}
use Rattle.lk_names.specs.declared.events.How.TheVariants.{Pending}
use Rattle.lk_law.proofs.{common.Families.lists_none, common.Frame.{agrees_after, no_posts}}
use Rattle.lk_law.proofs.common.Told.{told_lock, told_others, sole_taken}
use Rattle.lk_law.proofs.spin.Hold.{hold_keep, hold_take}
use Rattle.lk_law.proofs.spin.Laws.{SameNodes, lists_outside, noded_keep, claim_cases}
use Rattle.lk_law.proofs.spin.Pend.{pend_keep, pend_set, pend_clear}
use Rattle.lk_law.specs.Phase.Phase.{Undoes, Watches}

-- what a phase that has set the pending bit is not
pends_unnoded : (r : Phase) → pends r ≡ true → queues r ≡ false → has_node r ≡ false
pends_unnoded r p q = grind arith

pends_unstaked : (r : Phase) → pends r ≡ true → stakes r ≡ false
pends_unstaked r p = grind arith

pends_lacks : (r : Phase) → pends r ≡ true → has_lock r false ≡ false
pends_lacks r p = grind arith

stakes_queue : (r : Phase) → stakes r ≡ true → queues r ≡ true
stakes_queue r p = grind arith

-- where a waiter takes the lock by the pending bit, no other may take it in its next step
claims_alone : {locked : Locked} {pending : Bool} {phase : Waiter → Phase}
    → PendingAgrees locked pending phase → (w : Waiter) → phase w ≡ Claims → (u : Waiter) → u ≢ w
    → claims (phase u) ≡ true → ⊥
claims_alone {phase = phase} p w was u ne c =
    elim (claim_cases (phase u) c) [
      | inl a ↦ ne (p.one u w a.1 (grind (arith, was)))
      | inr b ↦ p.apart w u (grind (arith, was)) b.0
    ]

module _ {s s' : Snapshot} {hs : LockName → LockHistory} {w : Waiter} {l : LockName}
    (ok : SnapshotAgrees s hs) (awake : halts s.mode ≡ false) where
  -- The pending bit is set, where it was clear: to undo that, where there is a tail; else to wait
  -- for the holder, or to take the free lock.
  pub law_pend : {r' : Phase}
      → Step s s' w l Seeks r'
      (record { locked = (s.word l).locked; pending = true; tail = (s.word l).tail }) false
      false
      → Stays s s' w → SameNodes s s' → (s.word l).pending ≡ false → pends r' ≡ true
      → queues r' ≡ false → (watches r' ≡ true → (s.word l).tail ≡ None)
      → (claims r' ≡ true → (s.word l).locked ≡ Free) → SnapshotAgrees s' hs
  law_pend {r' = r'} step stays nodes clear sets out empty low =
      let o = ok.locks l in
      agrees_after step ok hs (noded_keep ok step (pends_unnoded r' sets out) (inl stays))
      (λ k u ne p. nodes (s.own u)) (λ k ne. refl)
      (record {
        holder = o.holder;
        holders = o.holders;
        hold =
            rw step.word (hold_keep o.hold step.acts step.holds (pends_lacks r' sets) (λ p. refl)
            (λ p. absurd (grind arith)));
        pend = rw step.word (pend_set o.pend step.acts clear sets low (pends_unstaked r' sets)
            (λ p v q. lists_none o.lists (empty p) v (stakes_queue (s.phase l v) q)));
        posts = no_posts step awake;
        lists = rw step.word
            (lists_outside ok step refl out (λ p. absurd (grind arith)) (λ p. absurd (grind arith))
            (λ u ne p. nodes (s.own u)));
      })

  -- The pending bit is cleared again.
  pub law_unpend : Step s s' w l Undoes Seeks
      (record { locked = (s.word l).locked; pending = false; tail = (s.word l).tail }) false false
      → Stays s s' w → SameNodes s s' → SnapshotAgrees s' hs
  law_unpend step stays nodes =
      let o = ok.locks l in
      agrees_after step ok hs (noded_keep ok step refl (inl stays)) (λ k u ne p. nodes (s.own u))
      (λ k ne. refl)
      (record {
        holder = o.holder;
        holders = o.holders;
        hold =
            rw step.word (hold_keep o.hold step.acts step.holds refl (λ p. refl)
            (λ p. absurd (grind arith)));
        pend =
            rw step.word (pend_clear o.pend step.acts (s.word l).locked refl refl refl refl
            (λ u n p. o.pend.free u p));
        posts = no_posts step awake;
        lists = rw step.word
            (lists_outside ok step refl refl (λ p. absurd (grind arith)) (λ p. absurd (grind arith))
            (λ u ne p. nodes (s.own u)));
      })

  -- Who waits with the pending bit sees the lock free.
  pub law_watch : Step s s' w l Watches Claims (s.word l) false false → Stays s s' w
      → SameNodes s s' → (s.word l).locked ≡ Free → SnapshotAgrees s' hs
  law_watch step stays nodes low =
      let o = ok.locks l in
      agrees_after step ok hs (noded_keep ok step refl (inl stays)) (λ k u ne p. nodes (s.own u))
      (λ k ne. refl)
      (record {
        holder = o.holder;
        holders = o.holders;
        hold =
            rw step.word (hold_keep o.hold step.acts step.holds refl (λ p. refl)
            (λ p. absurd (grind arith)));
        pend = rw step.word
            (pend_keep o.pend step.acts (s.word l).locked refl (λ p. low) refl
            (λ p. absurd (grind arith)) (λ u n p. low));
        posts = no_posts step awake;
        lists = rw step.word
            (lists_outside ok step refl refl (λ p. absurd (grind arith)) (λ p. absurd (grind arith))
            (λ u ne p. nodes (s.own u)));
      })

  -- The lock is taken by the pending bit, which is cleared in the same step.
  pub law_claim : Step s s' w l Claims Idle
      (record { locked = Held; pending = false; tail = (s.word l).tail }) false true
      → Stays s s' w → SameNodes s s'
      → SnapshotAgrees s' (λ k. told k (hs k) (record { by = w; what = Take l Pending }))
  law_claim step stays nodes =
      let o = ok.locks l in
      let e : Event = record { by = w; what = Take l Pending } in
      let free = o.pend.free w (grind (arith, step.acts.was)) in
      agrees_after step ok (λ k. told k (hs k) e) (noded_keep ok step refl (inl stays))
      (λ k u ne p. nodes (s.own u)) (told_others hs e refl)
      (told_lock (hs l) e refl (record {
        holder = Some w;
        holders = sole_taken (hs l) w o.holder o.holders (o.hold.free free);
        hold =
            rw step.word (hold_take o.hold step.acts step.holds free refl
            (λ p. absurd (grind arith)) (λ p. absurd (grind arith)));
        pend = rw step.word
            (pend_clear o.pend step.acts Held refl refl refl refl
            (λ u n p. absurd (claims_alone o.pend w step.acts.was u n p)));
        posts = no_posts step awake;
        lists = rw step.word
            (lists_outside ok step refl refl (λ p. absurd (grind arith)) (λ p. absurd (grind arith))
            (λ u ne p. nodes (s.own u)));
      }))
