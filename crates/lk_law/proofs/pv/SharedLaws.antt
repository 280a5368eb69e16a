-- The laws of the rows that the paravirtual lock shares with the other families.
use Rattle.std.proofs.Common.{◌≡◌, ◌<◌, Some, None, Bool, true, false, ◌⊎◌, inl, inr, arith, ap}
use Rattle.std.proofs.Common.{refl}
use Rattle.lk_law.proofs.Names.{Fields, Free, Held, NodeName, get_cases, last_cases, LockHistory}
use Rattle.lk_law.proofs.Names.{taken, told, with_holder, How, Arrive, Take, Spins, LockName}
use Rattle.lk_law.proofs.Names.{Waiter, rest_node, Node, EntersSlowPath, LeavesSlowPath}
use Rattle.lk_law.proofs.Names.{SnapshotAgrees, Stays, Step, halts, Phase, pends, queues, Idle}
use Rattle.lk_law.proofs.Names.{Leads, Links, Prepared, Seeks, Waits, agrees, Joins, Off, Rises}
use Rattle.lk_law.proofs.Names.{Rewrites, Snapshot}
use Rattle.lk_law.proofs.pv.Laws.{para_queue}
use Rattle.lk_law.proofs.pv.Outside.{Posted, para_outside, para_joins, para_comes, para_links}
use Rattle.lk_law.proofs.queue.EntryLaws.{next_node, enter_used, law_enter_as, law_enter_bare_as}
use Rattle.lk_law.proofs.queue.Laws.{law_arrive_as, law_link_as}
use Rattle.lk_law.proofs.spin.Laws.{SameNodes, IsTurn, law_turn_as, law_take_as}
use Rattle.lk_law.specs.Pv.Post.{Spins as Turns}

module _ {s s' : Snapshot} {hs : LockName → LockHistory} {w : Waiter} {l : LockName}
    (ok : SnapshotAgrees s hs) (on : halts s.mode ≡ true) where
  -- a row that changes nothing but the phase, outside of the queue
  pub law_turn_pv : {r r' : Phase} {h : Bool} → Step s s' w l r r' (s.word l) h h → Stays s s' w
      → SameNodes s s' → IsTurn r r' h → Posted s s' w l Off Off → agrees Off r' ≡ true
      → SnapshotAgrees s' hs
  law_turn_pv step stays nodes turn posted suit =
      law_turn_as ok step stays nodes turn
      (λ e. para_outside ok on step posted (hs l) refl suit turn.was_out (inl refl)
      (λ u ne n. nodes (s.own u)))

  -- the free word is taken, by a row that is not one of the queue's
  pub law_take_pv : {r : Phase} (how : How)
      → Step s s' w l r Idle (record { locked = Held; pending = false; tail = None }) false true
      → Stays s s' w ⊎ LeavesSlowPath s s' w → SameNodes s s' → queues r ≡ false → pends r ≡ false
      → s.word l ≡ record { locked = Free; pending = false; tail = None }
      → taken (hs l) w how ≡ with_holder (hs l) w Spins → Posted s s' w l Off Off
      → SnapshotAgrees s' (λ k. told k (hs k) (record { by = w; what = Take l how }))
  law_take_pv how step way nodes out clear free plain posted =
      law_take_as ok how step way nodes out clear free plain
      (λ e. para_outside ok on step posted (with_holder (hs l) w Spins) refl refl out
      (inr (ap (λ (f : Fields). f.locked) free, refl)) (λ u ne n. nodes (s.own u)))

  -- the waiter enters the slow path, with a node or without
  pub law_enter_pv : Step s s' w l Seeks Prepared (s.word l) false false → EntersSlowPath s s' w
      → s.queued w.cpu < 4 → s'.own w ≡ next_node s w
      → Rewrites s.node s'.node (next_node s w) rest_node → Posted s s' w l Off Off
      → SnapshotAgrees s' hs
  law_enter_pv step enters room gets writes posted =
      law_enter_as ok step enters room gets writes
      (λ e. para_outside ok on step posted (hs l) refl refl refl (inl refl)
      (λ u ne n. enter_used ok.nodes enters writes l u n))

  pub law_enter_bare_pv : Step s s' w l Seeks Seeks (s.word l) false false → EntersSlowPath s s' w
      → SameNodes s s' → Posted s s' w l Off Off → SnapshotAgrees s' hs
  law_enter_bare_pv step enters nodes posted =
      law_enter_bare_as ok step enters nodes
      (λ e. para_outside ok on step posted (hs l) refl refl refl (inl refl)
      (λ u ne n. nodes (s.own u)))

  -- the tail is exchanged, behind a node or first
  pub law_arrive_behind_pv : {p : NodeName}
      → Step s s' w l Prepared (Links p)
      (record {
        locked = (s.word l).locked;
        pending = (s.word l).pending;
        tail = Some (s.own w);
      }) false false
      → Stays s s' w → SameNodes s s' → s'.kept w ≡ None → (s.word l).tail ≡ Some p
      → Posted s s' w l Off Joins
      → SnapshotAgrees s' (λ k. told k (hs k) (record { by = w; what = Arrive l }))
  law_arrive_behind_pv {p = p} step stays nodes none met posted =
      law_arrive_as ok step stays nodes none (inr (p, met, refl))
      (λ e. elim (get_cases (hs l).main 0) [
        | inl empty ↦ absurd (let t = (para_queue ok on l).ends.no_tail empty in
            grind (arith, t, met))
        | inr z ↦ para_joins ok on step stays nodes posted refl z.0 z.1
      ])

  pub law_arrive_first_pv : Step s s' w l Prepared Leads
      (record { locked = (s.word l).locked; pending = (s.word l).pending; tail = Some (s.own w) })
      false false
      → Stays s s' w → SameNodes s s' → s'.kept w ≡ None → (s.word l).tail ≡ None
      → Posted s s' w l Off Rises
      → SnapshotAgrees s' (λ k. told k (hs k) (record { by = w; what = Arrive l }))
  law_arrive_first_pv step stays nodes none met posted =
      law_arrive_as ok step stays nodes none (inl (met, refl))
      (λ e. elim (last_cases (hs l).main) [
        | inl empty ↦ para_comes ok on step stays nodes posted refl empty
        | inr z ↦ absurd (let t = (para_queue ok on l).ends.tail_is z.0 z.1 z.2 z.3 in
            grind (arith, t, met))
      ])

  -- the node that was met gets the own node as its next
  pub law_link_pv : {p : NodeName} {y : Node} → Step s s' w l (Links p) Waits (s.word l) false false
      → Stays s s' w → Rewrites s.node s'.node p y → y ≡ record (s.node p) { next = Some (s.own w) }
      → Posted s s' w l Joins Turns → SnapshotAgrees s' hs
  law_link_pv step stays writes store posted =
      law_link_as ok step stays writes store
      (λ e. para_links ok on step stays writes store posted refl)
