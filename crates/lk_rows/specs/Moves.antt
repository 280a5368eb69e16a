-- How a frame moves: within its operation, on to the next one, and out of the slow path.
use Rattle.std.specs.Prelude.{◌+◌, ◌-◌, ◌==◌, ◌≤◌, ℕ, Option, Some, None, Bool, true, false, List}
use Rattle.std.specs.Prelude.{length, drop, slice_get, position, unwrap_or, if◌then◌else◌, ◌&&◌}
use Rattle.std.proofs.Common.{suc}
use Rattle.lk_names.specs.declared.names.Mode.{Mode}
use Rattle.lk_names.specs.declared.names.Mode.TheVariants.{Pv}
use Rattle.lk_names.specs.declared.names.Waiter.{Waiter}
use Rattle.lk_names.specs.declared.names.LockName.{LockName}
use Rattle.lk_word.specs.declared.spin_word.NodeName.{NodeName}
use Rattle.lk_rows.specs.declared.setup.Verb.{Verb}
use Rattle.lk_rows.specs.declared.setup.Verb.TheVariants.{Lock, Try, Unlock, Read, TryRead}
use Rattle.lk_rows.specs.declared.setup.Verb.TheVariants.{RUnlock, Write, TryWrite, WUnlock}
use Rattle.lk_rows.specs.declared.setup.Op.{Op}
use Rattle.lk_rows.specs.declared.parts.Frame.{Frame}
use Rattle.lk_rows.specs.declared.parts.Pc.{Pc}
use Rattle.lk_rows.specs.declared.parts.Pc.TheVariants.{F1, T1, U1, U2, R1, Wr1, Y1, Y4, Z1, Z2}
use Rattle.lk_rows.specs.Machine.{Machine, HasTop, cpu_at, set_top, set_queued, queued_at, pop}
use Rattle.lk_rows.specs.Machine.{top_frame}
use Rattle.lk_rows.specs.Programs.{HasPrograms, program_at, handlers_of, to_release}

-- the row at which an operation begins
abbrev pub first_place : Mode → Verb → Pc
first_place mode Lock = F1
first_place mode Try = T1
first_place Pv Unlock = U2
first_place mode Unlock = U1
first_place mode Read = R1
first_place mode Write = Wr1
first_place mode TryRead = Y1
first_place mode TryWrite = Y4
first_place mode RUnlock = Z1
first_place mode WUnlock = Z2

-- the program of a frame
abbrev pub program_of : Machine → ℕ → Frame → List Op
program_of m p f = program_at m.setup p f.program

-- the frame begins the operation
abbrev pub started : Mode → Frame → Op → Frame
started mode f o =
    record f {
      place = Some (first_place mode o.verb);
      lock = record { index = o.lock; wait = false };
    }

-- f goes on at this operation, where its program has one more
abbrev pub settled_at : Machine → ℕ → Frame → Option Op → Machine
settled_at m p f None = if f.ctx == 0 then set_top m p (record f { place = None }) else pop m p
settled_at m p f (Some o) = set_top m p (started m.setup.mode f o)

-- The top frame, which has ended an operation, goes on as f: it begins the operation at its
-- position; or its program has ended, and then it is finished, and a handler is popped.
abbrev pub settled : Machine → ℕ → Frame → Machine
settled m p f = settled_at m p f (slice_get (program_of m p f) f.«at»)

-- the top frame names a short program of its processor, and a position in it or its end
pub record CanMove (m : Machine) (p : ℕ) : Type 0 where
  pub top : HasTop m p
  pub programs : HasPrograms m.setup p
  pub known : (top_frame m p).program ≤ handlers_of m.setup p
  pub short : length (program_of m p (top_frame m p)) ≤ 64
  pub inside : (top_frame m p).«at» ≤ length (program_of m p (top_frame m p))

-- the operation of the top frame is done
abbrev pub done : Machine → ℕ → Machine
done m p = settled m p (record (top_frame m p) { «at» = (top_frame m p).«at» + 1 })

-- the lock is granted: to the operation, which is done, or, as a wait lock, to the frame, which
-- goes on
abbrev pub granted : Machine → ℕ → Machine
granted m p =
    if (top_frame m p).lock.wait
    then set_top m p (record (top_frame m p) { place = (top_frame m p).then })
    else done m p

-- the lock is freed: the operation is done, and with a wait lock the one for which it was taken
abbrev pub freed : Machine → ℕ → Machine
freed m p = done m p

-- the names of a reader-writer lock and of its wait lock
abbrev pub rw_name : ℕ → LockName
rw_name i = record { index = i; wait = false }

-- the name of its wait lock
abbrev pub wait_name : ℕ → LockName
wait_name i = record { index = i; wait = true }

-- the frame is about to take the wait lock of its lock, and goes on at this place once it has it
abbrev pub waiting : Frame → Pc → Frame
waiting f c = record f { place = Some F1; lock = wait_name f.lock.index; then = Some c }

-- the top frame is about to take the wait lock of its lock
abbrev pub take_wait : Machine → ℕ → Pc → Machine
take_wait m p c = set_top m p (waiting (top_frame m p) c)

-- how many operations a failed try skips: itself, and all up to the release that would have ended
-- it
abbrev pub skipped : Machine → ℕ → Frame → ℕ
skipped m p f = suc (to_release (drop (f.«at» + 1) (program_of m p f)) f.lock.index)

-- the try has failed: the frame goes on behind the release that would have ended it
abbrev pub missed : Machine → ℕ → Machine
missed m p =
    settled m p
    (record (top_frame m p) { «at» = (top_frame m p).«at» + skipped m p (top_frame m p) })

-- the top frame leaves the slow path, and gives its node back
abbrev pub leave : Machine → ℕ → Machine
leave m p = set_queued (set_top m p (record (top_frame m p) { me = None })) p (queued_at m p - 1)

-- this is the node
abbrev pub is_node : Option NodeName → NodeName → Bool
is_node None n = false
is_node (Some k) n = (k.cpu == n.cpu) && (k.index == n.index)

-- the node's name, where there is one
abbrev pub node_of : Option NodeName → NodeName
node_of None = record { cpu = 0; index = 0 }
node_of (Some n) = n

-- the context of the frame that has the node as its own, if there is one
unfoldable pub context_of : Machine → NodeName → Option ℕ
unfolding cpu_at
context_of m n = position (λ f. is_node f.me n) (cpu_at m n.cpu).frames

-- the waiter whose frame has the node as its own; of a node that nobody uses, the task
unfoldable pub waiter_of : Machine → NodeName → Waiter
unfolding context_of
waiter_of m n = record { cpu = n.cpu; ctx = unwrap_or (context_of m n) 0 }
