-- The counts change nothing else.
use Rattle.std.proofs.Common.{◌≡◌, ℕ, Option, Some, None, Bool, true, false, List, [], ◌∷◌, ap}
use Rattle.std.proofs.Common.{refl, sym, ◌∙◌, ◌+◌, if◌then◌else◌, ◌==◌, ◌||◌, not, slice_get}
use Rattle.lk_reach.proofs.Names.{Act, next, Machine, top_frame, Answer, Frame, Pc, Op, bare}
use Rattle.lk_word.specs.{declared.rw_word.RwFields.RwFields, declared.spin_word.Fields.Fields}
use Rattle.lk_word.specs.declared.spin_word.NodeName.{NodeName}
use Rattle.lk_names.specs.declared.names.LockName.{LockName}
use Rattle.lk_rows.specs.Acts.{idle, woken, kicked_awake, step_halted, step, is_shut, handler_frame}
use Rattle.lk_rows.specs.Acts.{awake, interrupted, nudged}
use Rattle.lk_rows.specs.Machine.{cpu_at, lock_at, word_at, rw_at, node_at, frame_at, depth_at}
use Rattle.lk_rows.specs.Machine.{queued_at, preempted_at, halted_at, kicked_at, handlers_at}
use Rattle.lk_rows.specs.Machine.{entry_at, set_cpu, set_lock, set_counts, set_word, set_rw}
use Rattle.lk_rows.specs.Machine.{set_node, set_top, set_queued, set_preempted, set_halted}
use Rattle.lk_rows.specs.Machine.{set_kicked, set_entry, pop, push, rest_counts}
use Rattle.lk_rows.specs.Moves.{settled, settled_at, program_of, done, granted, missed, leave}
use Rattle.lk_rows.specs.Moves.{context_of, waiter_of, skipped}
use Rattle.lk_rows.specs.Row.{Counter, Effect, Lead, Goes, Enters, Granted, Freed, Missed, Leaves}
use Rattle.lk_rows.specs.Row.{Yields, Done, TakesWait, Tell, Nothing, Says, Passes, moved}
use Rattle.lk_rows.specs.Row.{with_rest, event_of, applied, counted, entered}
use Rattle.lk_rows.specs.TopRow.{Target, SpinWord, QueueWord, Queued, FlagOf, NextOf, ChoiceWord}
use Rattle.lk_rows.specs.TopRow.{ChoiceFlag, ChoiceNext, SecondTailOf, RunsOf, PvWord, PvFlag}
use Rattle.lk_rows.specs.TopRow.{PvNext, StateOf, HashEntry, Halted, KickOf, RwWord, target}
use Rattle.lk_rows.specs.TopRow.{sight_at, stored_word, stored_rw, stored_flag, stored_next}
use Rattle.lk_rows.specs.TopRow.{stored_second, stored_runs, stored_state, stored_entry}
use Rattle.lk_rows.specs.TopRow.{stored_halted, stored_kicked, stored_queued, row_on, row_at, row}
use Rattle.lk_rows.specs.{declared.parts.Counts.Counts, declared.parts.Flag.Flag}
use Rattle.lk_rows.specs.declared.parts.State.{State}
use Rattle.lk_rows.specs.rows.Cna.{search_row, second_row, runs_row, handover_row, promotion_row}
use Rattle.lk_rows.specs.rows.Pv.{pv_row, pv_flag_row, pv_next_row, state_row, hash_row, halt_row}
use Rattle.lk_rows.specs.{rows.Pv.kick_row, rows.Queue.{queue_row, entry_row, flag_row, next_row}}
use Rattle.lk_rows.specs.{rows.Rw.rw_row, rows.Spin.spin_row}
use Rattle.lk_reach.specs.Reach.{CountsAreIdle}
use Rattle.lk_names.specs.declared.events.Act.TheVariants as act

-- the machine with these counts
abbrev with_counts : Counts → Machine → Machine
with_counts x m = record m { counts = x }

-- two answers are the same, but for counts
record Alike (a b : Answer) : Type 0 where
  pub state : bare a.0 ≡ bare b.0
  pub event : a.1 ≡ b.1

-- one of two answers
either : (t : Bool) (a b c d : Answer) → Alike a c → Alike b d
    → Alike (if t then a else b) (if t then c else d)
either true a b c d x y = x
either false a b c d x y = y

module _ (x : Counts) where
  -- one of two machines
  one : (t : Bool) (m n : Machine)
      → (if t then with_counts x m else with_counts x n) ≡ with_counts x (if t then m else n)
  one true m n = refl
  one false m n = refl

  settled_at-counts : (m : Machine) (p : ℕ) (f : Frame) (o : Option Op)
      → settled_at (with_counts x m) p f o ≡ with_counts x (settled_at m p f o)
  unfolding set_top pop set_cpu cpu_at depth_at
  settled_at-counts m p f None = one (f.ctx == 0) (set_top m p (record f { place = None })) (pop m p)
  settled_at-counts m p f (Some o) = refl

  settled-counts : (m : Machine) (p : ℕ) (f : Frame)
      → settled (with_counts x m) p f ≡ with_counts x (settled m p f)
  settled-counts m p f = settled_at-counts m p f (slice_get (program_of m p f) f.«at»)

  done-counts : (m : Machine) (p : ℕ) → done (with_counts x m) p ≡ with_counts x (done m p)
  unfolding frame_at depth_at cpu_at
  done-counts m p = settled-counts m p (record (top_frame m p) { «at» = (top_frame m p).«at» + 1 })

  missed-counts : (m : Machine) (p : ℕ) → missed (with_counts x m) p ≡ with_counts x (missed m p)
  unfolding frame_at depth_at cpu_at
  missed-counts m p =
      settled-counts m p (record (top_frame m p) {
        «at» = (top_frame m p).«at» + skipped m p (top_frame m p);
      })

  granted-counts : (m : Machine) (p : ℕ) → granted (with_counts x m) p ≡ with_counts x (granted m p)
  unfolding frame_at depth_at cpu_at set_top set_cpu
  granted-counts m p = by (top_frame m p).lock.wait
    where
      by : (b : Bool)
          → (if b then set_top (with_counts x m) p
          (record (top_frame m p) { place = (top_frame m p).then })
          else done (with_counts x m) p)
          ≡ with_counts x
          (if b then set_top m p (record (top_frame m p) { place = (top_frame m p).then })
          else done m p)
      by true = refl
      by false = done-counts m p

  leave-counts : (m : Machine) (p : ℕ) → leave (with_counts x m) p ≡ with_counts x (leave m p)
  unfolding frame_at depth_at cpu_at set_top set_cpu set_queued queued_at
  leave-counts m p = refl

  with_rest-counts : (m : Machine) (o : Option NodeName)
      → with_rest (with_counts x m) o ≡ with_counts x (with_rest m o)
  unfolding set_node set_cpu cpu_at
  with_rest-counts m None = refl
  with_rest-counts m (Some n) = refl

  set_top-counts : (m : Machine) (p : ℕ) (f : Frame)
      → set_top (with_counts x m) p f ≡ with_counts x (set_top m p f)
  unfolding set_top set_cpu cpu_at depth_at
  set_top-counts m p f = refl

  moved-counts : (m : Machine) (p : ℕ) (f : Frame) (lead : Lead)
      → moved (with_counts x m) p f lead ≡ with_counts x (moved m p f lead)
  moved-counts m p f (Goes c cs) = set_top-counts m p _
  moved-counts m p f (Enters me c) =
      ap (λ k. set_top k p (entered f me c)) (with_rest-counts m me)
      ∙ set_top-counts (with_rest m me) p (entered f me c)
  moved-counts m p f Granted = granted-counts m p
  moved-counts m p f Freed = done-counts m p
  moved-counts m p f Missed = missed-counts m p
  moved-counts m p f Done = done-counts m p
  moved-counts m p f (TakesWait c) = set_top-counts m p _
  moved-counts m p f Leaves =
      ap (λ k. granted k p) (leave-counts m p) ∙ granted-counts (leave m p) p
  moved-counts m p f (Yields c cs) = set_top-counts m p _

  moved-bare : (m : Machine) (p : ℕ) (f : Frame) (lead : Lead)
      → bare (moved (with_counts x m) p f lead) ≡ bare (moved m p f lead)
  moved-bare m p f lead = ap bare (moved-counts m p f lead)

-- what a row counts is no part of its state
counted-moved : (m : Machine) (cs : List Counter) (p : ℕ) (f : Frame) (lead : Lead)
    → bare (moved (counted m cs) p f lead) ≡ bare (moved m p f lead)
unfolding set_counts
counted-moved m [] p f lead = refl
counted-moved m (c ∷ cs) p f lead = moved-bare _ m p f lead

module _ (x : Counts) where
  event_of-counts : (m : Machine) (p : ℕ) (f : Frame) (t : Tell)
      → event_of (with_counts x m) p f t ≡ event_of m p f t
  unfolding waiter_of context_of cpu_at
  event_of-counts m p f Nothing = refl
  event_of-counts m p f (Says what) = refl
  event_of-counts m p f (Passes n k) = refl

  applied-alike : {A : Type 0} (m n : Machine) (p : ℕ) (f : Frame) (o : Effect A)
      → Alike (applied (with_counts x m) (with_counts x n) p f o) (applied m n p f o)
  applied-alike m n p f o = record {
    state = counted-moved (with_counts x n) o.counts p f o.leads ∙ moved-bare x n p f o.leads
        ∙ sym (counted-moved n o.counts p f o.leads);
    event = event_of-counts m p f o.tells;
  }

  -- after a store
  stored-alike : {A : Type 0} (m n k : Machine) (p : ℕ) (f : Frame) (o : Effect A)
      → k ≡ with_counts x n → Alike (applied (with_counts x m) k p f o) (applied m n p f o)
  stored-alike m n k p f o e = rw e (applied-alike m n p f o)

  word-counts : (m : Machine) (f : Frame) (o : Option Fields)
      → stored_word (with_counts x m) f o ≡ with_counts x (stored_word m f o)
  unfolding set_word set_lock lock_at
  word-counts m f None = refl
  word-counts m f (Some y) = refl

  rw-counts : (m : Machine) (i : ℕ) (o : Option RwFields)
      → stored_rw (with_counts x m) i o ≡ with_counts x (stored_rw m i o)
  unfolding set_rw set_lock lock_at
  rw-counts m i None = refl
  rw-counts m i (Some y) = refl

  flag-counts : (m : Machine) (n : NodeName) (o : Option Flag)
      → stored_flag (with_counts x m) n o ≡ with_counts x (stored_flag m n o)
  unfolding set_node set_cpu cpu_at node_at
  flag-counts m n None = refl
  flag-counts m n (Some y) = refl

  next-counts : (m : Machine) (n : NodeName) (o : Option (Option NodeName))
      → stored_next (with_counts x m) n o ≡ with_counts x (stored_next m n o)
  unfolding set_node set_cpu cpu_at node_at
  next-counts m n None = refl
  next-counts m n (Some y) = refl

  second-counts : (m : Machine) (n : NodeName) (o : Option (Option NodeName))
      → stored_second (with_counts x m) n o ≡ with_counts x (stored_second m n o)
  unfolding set_node set_cpu cpu_at node_at
  second-counts m n None = refl
  second-counts m n (Some y) = refl

  runs-counts : (m : Machine) (n : NodeName) (o : Option ℕ)
      → stored_runs (with_counts x m) n o ≡ with_counts x (stored_runs m n o)
  unfolding set_node set_cpu cpu_at node_at
  runs-counts m n None = refl
  runs-counts m n (Some y) = refl

  state-counts : (m : Machine) (n : NodeName) (o : Option State)
      → stored_state (with_counts x m) n o ≡ with_counts x (stored_state m n o)
  unfolding set_node set_cpu cpu_at node_at
  state-counts m n None = refl
  state-counts m n (Some y) = refl

  entry-counts : (m : Machine) (l : LockName) (o : Option (Option NodeName))
      → stored_entry (with_counts x m) l o ≡ with_counts x (stored_entry m l o)
  unfolding set_entry
  entry-counts m l None = refl
  entry-counts m l (Some None) = refl
  entry-counts m l (Some (Some n)) = refl

  halted-counts : (m : Machine) (p : ℕ) (o : Option Bool)
      → stored_halted (with_counts x m) p o ≡ with_counts x (stored_halted m p o)
  unfolding set_halted set_cpu cpu_at
  halted-counts m p None = refl
  halted-counts m p (Some b) = refl

  kicked-counts : (m : Machine) (p : ℕ) (o : Option Bool)
      → stored_kicked (with_counts x m) p o ≡ with_counts x (stored_kicked m p o)
  unfolding set_kicked set_cpu cpu_at
  kicked-counts m p None = refl
  kicked-counts m p (Some b) = refl

  queued-counts : (m : Machine) (p : ℕ) (o : Option ℕ)
      → stored_queued (with_counts x m) p o ≡ with_counts x (stored_queued m p o)
  unfolding set_queued set_cpu cpu_at
  queued-counts m p None = refl
  queued-counts m p (Some i) = refl

  row_on-alike : (m : Machine) (p : ℕ) (f : Frame) (c : Pc) (t : Target)
      → Alike (row_on (with_counts x m) p f c t) (row_on m p f c t)
  unfolding word_at lock_at rw_at node_at cpu_at queued_at halted_at kicked_at entry_at context_of waiter_of
  row_on-alike m p f c SpinWord =
      let o = spin_row m.setup.mode c f (word_at m f.lock) in
      stored-alike m _ _ p f o (word-counts m f o.stores)
  row_on-alike m p f c QueueWord =
      let o = queue_row m.setup.mode c f (word_at m f.lock) in
      stored-alike m _ _ p f o (word-counts m f o.stores)
  row_on-alike m p f c Queued =
      let o = entry_row m.setup.mode p (queued_at m p) in
      stored-alike m _ _ p f o (queued-counts m p o.stores)
  row_on-alike m p f c (FlagOf n) =
      let o = flag_row c f (node_at m n).flag in
      stored-alike m _ _ p f o (flag-counts m n o.stores)
  row_on-alike m p f c (NextOf n) =
      let o = next_row m.setup.mode m.setup.spins c f (node_at m n).next in
      stored-alike m _ _ p f o (next-counts m n o.stores)
  row_on-alike m p f c ChoiceWord =
      let o = promotion_row c f (word_at m f.lock) in
      stored-alike m _ _ p f o (word-counts m f o.stores)
  row_on-alike m p f c (ChoiceFlag n) =
      let o = handover_row c f (node_at m n).flag in
      stored-alike m _ _ p f o (flag-counts m n o.stores)
  row_on-alike m p f c (ChoiceNext n) =
      let o = search_row (sight_at m p f) c f (node_at m n).next in
      stored-alike m _ _ p f o (next-counts m n o.stores)
  row_on-alike m p f c (SecondTailOf n) =
      let o = second_row c f (node_at m n).second_tail in
      stored-alike m _ _ p f o (second-counts m n o.stores)
  row_on-alike m p f c (RunsOf n) =
      let o = runs_row (sight_at m p f) c f (node_at m n).runs in
      stored-alike m _ _ p f o (runs-counts m n o.stores)
  row_on-alike m p f c PvWord =
      let o = pv_row m.setup.spins c f (word_at m f.lock) in
      stored-alike m _ _ p f o (word-counts m f o.stores)
  row_on-alike m p f c (PvFlag n) =
      let o = pv_flag_row c f (node_at m n).flag in
      stored-alike m _ _ p f o (flag-counts m n o.stores)
  row_on-alike m p f c (PvNext n) =
      let o = pv_next_row c f (node_at m n).next in
      stored-alike m _ _ p f o (next-counts m n o.stores)
  row_on-alike m p f c (StateOf n) =
      let o = state_row m.setup.spins c f (node_at m n).state in
      stored-alike m _ _ p f o (state-counts m n o.stores)
  row_on-alike m p f c HashEntry =
      let o = hash_row c f (entry_at m f.lock) in
      stored-alike m _ _ p f o (entry-counts m f.lock o.stores)
  row_on-alike m p f c Halted =
      let o = halt_row c f (halted_at m p) in
      stored-alike m _ _ p f o (halted-counts m p o.stores)
  row_on-alike m p f c (KickOf q) =
      let o = kick_row c f (kicked_at m q) in
      stored-alike m _ _ p f o (kicked-counts m q o.stores)
  row_on-alike m p f c RwWord =
      let o = rw_row m.setup.mode c f (rw_at m f.lock.index) in
      stored-alike m _ _ p f o (rw-counts m f.lock.index o.stores)

  row_at-alike : (m : Machine) (p : ℕ) (f : Frame) (c : Option Pc)
      → Alike (row_at (with_counts x m) p f c) (row_at m p f c)
  row_at-alike m p f None = record { state = refl; event = refl }
  row_at-alike m p f (Some c) = row_on-alike m p f c (target c f)

  row-alike : (m : Machine) (p : ℕ) → Alike (row (with_counts x m) p) (row m p)
  unfolding frame_at depth_at cpu_at
  row-alike m p = row_at-alike m p (top_frame m p) (top_frame m p).place

  step_halted-alike : (m : Machine) (p : ℕ)
      → Alike (step_halted (with_counts x m) p) (step_halted m p)
  unfolding kicked_at frame_at depth_at cpu_at set_kicked set_halted set_top set_cpu
  step_halted-alike m p =
      either (kicked_at m p) (kicked_awake (with_counts x m) p) (idle (with_counts x m))
      (kicked_awake m p) (idle m) (record { state = refl; event = refl })
      (record { state = refl; event = refl })

  step-alike : (m : Machine) (p : ℕ) → Alike (step (with_counts x m) p) (step m p)
  unfolding preempted_at halted_at cpu_at
  step-alike m p =
      either (preempted_at m p) _ _ _ _ (record { state = refl; event = refl })
      (either (halted_at m p) _ _ _ _ (step_halted-alike m p) (row-alike m p))

  awake-counts : (m : Machine) (p : ℕ) → awake (with_counts x m) p ≡ with_counts x (awake m p)
  unfolding halted_at frame_at depth_at cpu_at set_halted set_top set_cpu
  awake-counts m p = one x (halted_at m p) (woken m p) m

  interrupted-alike : (m : Machine) (p : ℕ)
      → Alike (interrupted (with_counts x m) p) (interrupted m p)
  unfolding depth_at handlers_at cpu_at push set_cpu
  interrupted-alike m p = record {
    state =
        ap (λ k. bare (settled (push k p (handler_frame m p)) p (handler_frame m p))) (awake-counts m p)
        ∙ ap bare (settled-counts x (push (awake m p) p (handler_frame m p)) p (handler_frame m p));
    event = refl;
  }

  nudged-alike : (m : Machine) (p : ℕ) → Alike (nudged (with_counts x m) p) (nudged m p)
  unfolding frame_at depth_at cpu_at set_halted set_top set_cpu
  nudged-alike m p = record { state = refl; event = refl }

  next-alike : (m : Machine) (a : Act) → Alike (next (with_counts x m) a) (next m a)
  unfolding preempted_at halted_at frame_at depth_at handlers_at cpu_at set_preempted set_cpu
  next-alike m (act.Step p) = step-alike m p
  next-alike m (act.Interrupt p) =
      either (is_shut m p) _ _ _ _ (record { state = refl; event = refl }) (interrupted-alike m p)
  next-alike m (act.Preempt p) =
      either (preempted_at m p) _ _ _ _ (record { state = refl; event = refl })
      (record { state = refl; event = refl })
  next-alike m (act.Resume p) =
      either (preempted_at m p) _ _ _ _ (record { state = refl; event = refl })
      (record { state = refl; event = refl })
  next-alike m (act.Nudge p) =
      either (preempted_at m p || not (halted_at m p)) _ _ _ _ (record { state = refl; event = refl })
      (nudged-alike m p)

pub counts_are_idle : CountsAreIdle
counts_are_idle m a = let same = next-alike rest_counts m a in (same.state, same.event)
