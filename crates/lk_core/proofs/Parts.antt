-- What no write to a processor or a lock changes, no act changes but by its counts: the setup, and
-- the counts themselves.
use Rattle.std.proofs.Common.{◌≡◌, ℕ, Option, Some, None, Bool, true, false, [], ◌∷◌, ◌++◌, ◌+◌}
use Rattle.std.proofs.Common.{◌-◌, refl, ◌∙◌, set, take, if◌then◌else◌, ◌==◌, ◌||◌, not, slice_get}
use Rattle.lk_core.proofs.Names.{RwFields, Fields, NodeName, LockName, after_halt, awake}
use Rattle.lk_core.proofs.Names.{handler_frame, idle, interrupted, is_shut, kicked_awake, next}
use Rattle.lk_core.proofs.Names.{nudged, step_halted, woken, CpuState, LockState, Machine}
use Rattle.lk_core.proofs.Names.{rest_node, top_frame, granted, leave, program_of, settled}
use Rattle.lk_core.proofs.Names.{settled_at, skipped, started, waiting, Done, Enters, Freed, Goes}
use Rattle.lk_core.proofs.Names.{Granted, Lead, Leaves, Missed, TakesWait, Yields, entered, gone}
use Rattle.lk_core.proofs.Names.{moved, stored_entry, stored_flag, stored_halted, stored_kicked}
use Rattle.lk_core.proofs.Names.{stored_next, stored_queued, stored_runs, stored_rw, stored_second}
use Rattle.lk_core.proofs.Names.{stored_state, stored_word, Flag, Frame, Node, State, Op}
use Rattle.lk_rows.specs.Machine.{cpu_at, lock_at, node_at, queued_at, depth_at, preempted_at}
use Rattle.lk_rows.specs.Machine.{halted_at, kicked_at, set_cpu, set_lock, set_word, set_node}
use Rattle.lk_rows.specs.Machine.{set_top, set_queued, set_preempted, set_halted, set_kicked}
use Rattle.lk_rows.specs.{Machine.{set_entry, pop, push, set_rw}, Moves.{done, missed}}
use Rattle.lk_rows.specs.Row.{with_rest}
use Rattle.lk_names.specs.declared.events.Act.TheVariants as act

-- one of two machines
either : {A : Type 0} (F : Machine → A) (t : Bool) (a b : Machine) (x : A) → F a ≡ x → F b ≡ x
    → F (if t then a else b) ≡ x
either F true a b x e d = e
either F false a b x e d = d

-- a store in the hash
pub part-stored_entry : {A : Type 0} (F : Machine → A)
    → ((m : Machine) (l : LockName) (n : Option NodeName) → F (set_entry m l n) ≡ F m)
    → (m : Machine) (l : LockName) (o : Option (Option NodeName)) → F (stored_entry m l o) ≡ F m
part-stored_entry F entry m l None = refl
part-stored_entry F entry m l (Some x) = entry m l x

module _ {A : Type 0} (F : Machine → A)
    (cpu : (m : Machine) (p : ℕ) (c : CpuState) → F (set_cpu m p c) ≡ F m)
    (lock : (m : Machine) (i : ℕ) (x : LockState) → F (set_lock m i x) ≡ F m) where
  part-set_word : (m : Machine) (l : LockName) (x : Fields) → F (set_word m l x) ≡ F m
  unfolding set_word
  part-set_word m l x =
      lock m l.index
      (if l.wait then record (lock_at m l.index) {
        wait =
            x;
      } else record (lock_at m l.index) { spin = x })

  part-set_rw : (m : Machine) (i : ℕ) (x : RwFields) → F (set_rw m i x) ≡ F m
  unfolding set_rw
  part-set_rw m i x = lock m i (record (lock_at m i) { rw = x })

  part-set_node : (m : Machine) (n : NodeName) (x : Node) → F (set_node m n x) ≡ F m
  unfolding set_node
  part-set_node m n x =
      cpu m n.cpu (record (cpu_at m n.cpu) { nodes = set (cpu_at m n.cpu).nodes n.index x })

  part-set_top : (m : Machine) (p : ℕ) (f : Frame) → F (set_top m p f) ≡ F m
  unfolding set_top
  part-set_top m p f =
      cpu m p (record (cpu_at m p) { frames = set (cpu_at m p).frames (depth_at m p - 1) f })

  part-set_queued : (m : Machine) (p i : ℕ) → F (set_queued m p i) ≡ F m
  unfolding set_queued
  part-set_queued m p i = cpu m p (record (cpu_at m p) { queued = i })

  pub part-set_preempted : (m : Machine) (p : ℕ) (b : Bool) → F (set_preempted m p b) ≡ F m
  unfolding set_preempted
  part-set_preempted m p b = cpu m p (record (cpu_at m p) { preempted = b })

  part-set_halted : (m : Machine) (p : ℕ) (b : Bool) → F (set_halted m p b) ≡ F m
  unfolding set_halted
  part-set_halted m p b = cpu m p (record (cpu_at m p) { halted = b })

  part-set_kicked : (m : Machine) (p : ℕ) (b : Bool) → F (set_kicked m p b) ≡ F m
  unfolding set_kicked
  part-set_kicked m p b = cpu m p (record (cpu_at m p) { kicked = b })

  part-pop : (m : Machine) (p : ℕ) → F (pop m p) ≡ F m
  unfolding pop
  part-pop m p =
      cpu m p (record (cpu_at m p) { frames = take (depth_at m p - 1) (cpu_at m p).frames })

  part-push : (m : Machine) (p : ℕ) (f : Frame) → F (push m p f) ≡ F m
  unfolding push
  part-push m p f =
      cpu m p (record (cpu_at m p) {
        frames = (cpu_at m p).frames ++ f ∷ [];
        handlers = (cpu_at m p).handlers + 1;
      })

  part-settled_at : (m : Machine) (p : ℕ) (f : Frame) (o : Option Op) → F (settled_at m p f o) ≡ F m
  part-settled_at m p f None =
      either F (f.ctx == 0) (set_top m p (record f { place = None })) (pop m p) (F m)
      (part-set_top m p (record f { place = None })) (part-pop m p)
  part-settled_at m p f (Some o) = part-set_top m p (started m.setup.mode f o)

  part-settled : (m : Machine) (p : ℕ) (f : Frame) → F (settled m p f) ≡ F m
  part-settled m p f = part-settled_at m p f (slice_get (program_of m p f) f.«at»)

  part-done : (m : Machine) (p : ℕ) → F (done m p) ≡ F m
  part-done m p = part-settled m p (record (top_frame m p) { «at» = (top_frame m p).«at» + 1 })

  part-granted : (m : Machine) (p : ℕ) → F (granted m p) ≡ F m
  part-granted m p =
      let g : Frame = record (top_frame m p) { place = (top_frame m p).then } in
      either F (top_frame m p).lock.wait (set_top m p g) (done m p) (F m) (part-set_top m p g)
      (part-done m p)

  part-missed : (m : Machine) (p : ℕ) → F (missed m p) ≡ F m
  part-missed m p =
      part-settled m p (record (top_frame m p) {
        «at» = (top_frame m p).«at» + skipped m p (top_frame m p);
      })

  part-leave : (m : Machine) (p : ℕ) → F (leave m p) ≡ F m
  part-leave m p =
      let g : Frame = record (top_frame m p) { me = None } in
      part-set_queued (set_top m p g) p (queued_at m p - 1) ∙ part-set_top m p g

  part-with_rest : (m : Machine) (o : Option NodeName) → F (with_rest m o) ≡ F m
  part-with_rest m None = refl
  part-with_rest m (Some n) = part-set_node m n rest_node

  pub part-moved : (m : Machine) (p : ℕ) (f : Frame) (lead : Lead) → F (moved m p f lead) ≡ F m
  part-moved m p f (Goes c cs) = part-set_top m p (gone f c cs)
  part-moved m p f (Enters me c) =
      part-set_top (with_rest m me) p (entered f me c) ∙ part-with_rest m me
  part-moved m p f Granted = part-granted m p
  part-moved m p f Freed = part-done m p
  part-moved m p f Missed = part-missed m p
  part-moved m p f Leaves = part-granted (leave m p) p ∙ part-leave m p
  part-moved m p f Done = part-done m p
  part-moved m p f (Yields c cs) = part-set_top m p (gone f c cs)
  part-moved m p f (TakesWait c) = part-set_top m p (waiting f c)

  pub part-stored_word : (m : Machine) (f : Frame) (o : Option Fields) → F (stored_word m f o) ≡ F m
  part-stored_word m f None = refl
  part-stored_word m f (Some x) = part-set_word m f.lock x

  pub part-stored_rw : (m : Machine) (i : ℕ) (o : Option RwFields) → F (stored_rw m i o) ≡ F m
  part-stored_rw m i None = refl
  part-stored_rw m i (Some x) = part-set_rw m i x

  pub part-stored_flag : (m : Machine) (n : NodeName) (o : Option Flag)
      → F (stored_flag m n o) ≡ F m
  part-stored_flag m n None = refl
  part-stored_flag m n (Some x) = part-set_node m n (record (node_at m n) { flag = x })

  pub part-stored_next : (m : Machine) (n : NodeName) (o : Option (Option NodeName))
      → F (stored_next m n o) ≡ F m
  part-stored_next m n None = refl
  part-stored_next m n (Some x) = part-set_node m n (record (node_at m n) { next = x })

  pub part-stored_second : (m : Machine) (n : NodeName) (o : Option (Option NodeName))
      → F (stored_second m n o) ≡ F m
  part-stored_second m n None = refl
  part-stored_second m n (Some x) = part-set_node m n (record (node_at m n) { second_tail = x })

  pub part-stored_runs : (m : Machine) (n : NodeName) (o : Option ℕ) → F (stored_runs m n o) ≡ F m
  part-stored_runs m n None = refl
  part-stored_runs m n (Some x) = part-set_node m n (record (node_at m n) { runs = x })

  pub part-stored_state : (m : Machine) (n : NodeName) (o : Option State)
      → F (stored_state m n o) ≡ F m
  part-stored_state m n None = refl
  part-stored_state m n (Some x) = part-set_node m n (record (node_at m n) { state = x })

  pub part-stored_halted : (m : Machine) (p : ℕ) (o : Option Bool) → F (stored_halted m p o) ≡ F m
  part-stored_halted m p None = refl
  part-stored_halted m p (Some b) = part-set_halted m p b

  pub part-stored_kicked : (m : Machine) (p : ℕ) (o : Option Bool) → F (stored_kicked m p o) ≡ F m
  part-stored_kicked m p None = refl
  part-stored_kicked m p (Some b) = part-set_kicked m p b

  pub part-stored_queued : (m : Machine) (p : ℕ) (o : Option ℕ) → F (stored_queued m p o) ≡ F m
  part-stored_queued m p None = refl
  part-stored_queued m p (Some i) = part-set_queued m p i

  part-woken : (m : Machine) (p : ℕ) → F (woken m p) ≡ F m
  part-woken m p =
      let g : Frame = record (top_frame m p) { place = after_halt (top_frame m p).place } in
      part-set_halted (set_top m p g) p false ∙ part-set_top m p g

  part-kicked_awake : (m : Machine) (p : ℕ) → F (kicked_awake m p).0 ≡ F m
  part-kicked_awake m p = part-set_kicked (woken m p) p false ∙ part-woken m p

  pub part-step_halted : (m : Machine) (p : ℕ) → F (step_halted m p).0 ≡ F m
  part-step_halted m p = by (kicked_at m p)
    where
      by : (b : Bool) → F (if b then kicked_awake m p else idle m).0 ≡ F m
      by true = part-kicked_awake m p
      by false = refl

  part-awake : (m : Machine) (p : ℕ) → F (awake m p) ≡ F m
  part-awake m p = either F (halted_at m p) (woken m p) m (F m) (part-woken m p) refl

  -- an act that is no step
  pub part-rest : (m : Machine) (p : ℕ)
      → (F (next m (act.Interrupt p)).0 ≡ F m) × (F (next m (act.Preempt p)).0 ≡ F m)
      × (F (next m (act.Resume p)).0 ≡ F m) × (F (next m (act.Nudge p)).0 ≡ F m)
  part-rest m p = (
    shut (is_shut m p),
    calm (preempted_at m p),
    wild (preempted_at m p),
    nudge (preempted_at m p || not (halted_at m p)),
  )
    where
      shut : (b : Bool) → F (if b then idle m else interrupted m p).0 ≡ F m
      shut true = refl
      shut false = part-settled (push (awake m p) p (handler_frame m p)) p (handler_frame m p)
          ∙ part-push (awake m p) p (handler_frame m p) ∙ part-awake m p

      calm : (b : Bool) → F (if b then idle m else (set_preempted m p true, None)).0 ≡ F m
      calm true = refl
      calm false = part-set_preempted m p true

      wild : (b : Bool) → F (if b then (set_preempted m p false, None) else idle m).0 ≡ F m
      wild true = part-set_preempted m p false
      wild false = refl

      nudge : (b : Bool) → F (if b then idle m else nudged m p).0 ≡ F m
      nudge true = refl
      nudge false = part-woken m p
