-- The machine as plain data: what is read of it, and what is written to it.
use Rattle.std.specs.Prelude.{Some, ◌+◌, ◌-◌, ◌<◌, ◌≤◌, ℕ, Option, None, Bool, false, List, [], ◌∷◌}
use Rattle.std.specs.Prelude.{◌++◌, length, take, slice_get, slice_index_or, slice_set}
use Rattle.std.specs.Prelude.{◌*◌, if◌then◌else◌, nat_lt, unwrap_or}
use Rattle.lk_names.specs.Names.{same_lock}
use Rattle.lk_names.specs.declared.names.Waiter.{Waiter}
use Rattle.lk_names.specs.declared.names.LockName.{LockName}
use Rattle.lk_word.specs.declared.spin_word.NodeName.{NodeName}
use Rattle.lk_word.specs.declared.spin_word.Locked.TheVariants.{Free}
use Rattle.lk_word.specs.declared.spin_word.Fields.{Fields}
use Rattle.lk_word.specs.declared.rw_word.RwFields.{RwFields}
use Rattle.lk_rows.specs.declared.parts.Flag.TheVariants.{Unset}
use Rattle.lk_rows.specs.declared.parts.State.TheVariants.{Running}
use Rattle.lk_rows.specs.declared.parts.Node.{Node}
use Rattle.lk_rows.specs.declared.parts.Frame.{Frame}
use Rattle.lk_rows.specs.declared.parts.Counts.{Counts}
use Rattle.lk_rows.specs.declared.parts.Why.TheVariants.{Append}
use Rattle.lk_rows.specs.declared.setup.Setup.{Setup}

-- one processor: its frames by their context, the top one last; its four nodes; how many of its
-- frames are in the slow path; and how many of its handlers were used
pub record CpuState : Type 0 where
  pub frames : List Frame
  pub nodes : List Node
  pub queued : ℕ
  pub preempted : Bool
  pub halted : Bool
  pub kicked : Bool
  pub handlers : ℕ

-- one declared lock: the word of a spinlock, or the fields of a reader-writer lock and the word of
-- its wait lock
pub record LockState : Type 0 where
  pub spin : Fields
  pub rw : RwFields
  pub wait : Fields

-- the machine, with the setup that never changes; the hash is a finite map, told by its entries in
-- the order of their locks
pub record Machine : Type 0 where
  pub setup : Setup
  pub locks : List LockState
  pub cpus : List CpuState
  pub hash : List (LockName × NodeName)
  pub counts : Counts

-- at rest

-- the word of a lock at rest: free, not pending, no queue
abbrev pub rest_word : Fields
rest_word = record { locked = Free; pending = false; tail = None }

-- the same of a reader-writer lock: no reader, nobody waits, no writer
abbrev pub rest_rw : RwFields
rest_rw = record { readers = 0; waiting = false; writer = false }

-- a lock at rest
abbrev pub rest_lock : LockState
rest_lock = record { spin = rest_word; rw = rest_rw; wait = rest_word }

-- a node at rest
abbrev pub rest_node : Node
rest_node = record { flag = Unset; next = None; second_tail = None; runs = 0; state = Running }

-- what is read of a processor that is not there
abbrev pub no_cpu : CpuState
no_cpu = record {
  frames = [];
  nodes = [];
  queued = 0;
  preempted = false;
  halted = false;
  kicked = false;
  handlers = 0;
}

-- all counts are 0
abbrev pub rest_counts : Counts
rest_counts =
    record {
      lock_pending = 0;
      lock_slowpath = 0;
      lock_use_node2 = 0;
      lock_use_node3 = 0;
      lock_use_node4 = 0;
      lock_no_node = 0;
      pv_lock_stealing = 0;
      pv_wait_node = 0;
      pv_wait_head = 0;
      pv_kick_unlock = 0;
    }

-- a new frame, which acts on nothing yet
abbrev pub rest_frame : Frame
rest_frame =
    record {
      ctx = 0;
      program = 0;
      «at» = 0;
      place = None;
      lock = record { index = 0; wait = false };
      me = None;
      prev = None;
      second = None;
      y = None;
      a = None;
      b = None;
      k = 0;
      t = None;
      why = Append;
      tailed = false;
      left = 0;
      hashed = false;
      target = None;
      then = None;
    }

-- what is read

unfoldable pub cpu_at : Machine → ℕ → CpuState
cpu_at m p = slice_index_or m.cpus p no_cpu

unfoldable pub lock_at : Machine → ℕ → LockState
lock_at m i = slice_index_or m.locks i rest_lock

-- the word of a spinlock or a wait lock
unfoldable pub word_at : Machine → LockName → Fields
unfolding lock_at
word_at m l = if l.wait then (lock_at m l.index).wait else (lock_at m l.index).spin

unfoldable pub rw_at : Machine → ℕ → RwFields
unfolding lock_at
rw_at m i = (lock_at m i).rw

unfoldable pub node_at : Machine → NodeName → Node
unfolding cpu_at
node_at m n = slice_index_or (cpu_at m n.cpu).nodes n.index rest_node

-- the frame of a waiter, if there is one
unfoldable pub frame_at : Machine → Waiter → Option Frame
unfolding cpu_at
frame_at m u = slice_get (cpu_at m u.cpu).frames u.ctx

-- how many frames a processor has
unfoldable pub depth_at : Machine → ℕ → ℕ
unfolding cpu_at
depth_at m p = length (cpu_at m p).frames

unfoldable pub queued_at : Machine → ℕ → ℕ
unfolding cpu_at
queued_at m p = (cpu_at m p).queued

unfoldable pub preempted_at : Machine → ℕ → Bool
unfolding cpu_at
preempted_at m p = (cpu_at m p).preempted

unfoldable pub halted_at : Machine → ℕ → Bool
unfolding cpu_at
halted_at m p = (cpu_at m p).halted

unfoldable pub kicked_at : Machine → ℕ → Bool
unfolding cpu_at
kicked_at m p = (cpu_at m p).kicked

-- how many handlers of a processor were used
unfoldable pub handlers_at : Machine → ℕ → ℕ
unfolding cpu_at
handlers_at m p = (cpu_at m p).handlers

-- the node of a lock in the hash, if it is entered

-- a lock's entry in a list of entries
abbrev pub entry_in : LockName → List (LockName × NodeName) → Option NodeName
entry_in l [] = None
entry_in l (e ∷ es) = if same_lock e.0 l then Some e.1 else entry_in l es

-- the number of a lock: two for each index, of which the second is the wait lock's
abbrev pub lock_number : LockName → ℕ
lock_number l = 2 * l.index + (if l.wait then 1 else 0)

-- the list with one entry more, which stands before the first of a higher lock
abbrev pub with_entry : LockName → NodeName → List (LockName × NodeName) → List (LockName × NodeName)
with_entry l n [] = (l, n) ∷ []
with_entry l n (e ∷ es) =
    if nat_lt (lock_number l) (lock_number e.0) then (l, n) ∷ e ∷ es else e ∷ with_entry l n es

-- the list without the lock's entry
abbrev pub without_entry : LockName → List (LockName × NodeName) → List (LockName × NodeName)
without_entry l [] = []
without_entry l (e ∷ es) = if same_lock e.0 l then without_entry l es else e ∷ without_entry l es

unfoldable pub entry_at : Machine → LockName → Option NodeName
entry_at m l = entry_in l m.hash

-- the waiter of the top frame
abbrev pub top_of : Machine → ℕ → Waiter
top_of m p = record { cpu = p; ctx = depth_at m p - 1 }

-- the frame on top of a processor
abbrev pub top_frame : Machine → ℕ → Frame
top_frame m p = unwrap_or (frame_at m (top_of m p)) rest_frame

-- what is written

unfoldable pub set_cpu : Machine → ℕ → CpuState → Machine
set_cpu m p c = record m { cpus = slice_set m.cpus p c }

unfoldable pub set_lock : Machine → ℕ → LockState → Machine
set_lock m i x = record m { locks = slice_set m.locks i x }

unfoldable pub set_counts : Machine → Counts → Machine
set_counts m x = record m { counts = x }

unfoldable pub set_word : Machine → LockName → Fields → Machine
unfolding set_lock lock_at
set_word m l x =
    set_lock m l.index
    (if l.wait then record (lock_at m l.index) { wait = x }
    else record (lock_at m l.index) { spin = x })

unfoldable pub set_rw : Machine → ℕ → RwFields → Machine
unfolding set_lock lock_at
set_rw m i x = set_lock m i (record (lock_at m i) { rw = x })

unfoldable pub set_node : Machine → NodeName → Node → Machine
unfolding set_cpu cpu_at
set_node m n x =
    set_cpu m n.cpu (record (cpu_at m n.cpu) { nodes = slice_set (cpu_at m n.cpu).nodes n.index x })

-- the top frame becomes this one
unfoldable pub set_top : Machine → ℕ → Frame → Machine
unfolding set_cpu cpu_at depth_at
set_top m p f =
    set_cpu m p (record
    (cpu_at m p) { frames = slice_set (cpu_at m p).frames (depth_at m p - 1) f })

unfoldable pub set_queued : Machine → ℕ → ℕ → Machine
unfolding set_cpu cpu_at
set_queued m p n = set_cpu m p (record (cpu_at m p) { queued = n })

unfoldable pub set_preempted : Machine → ℕ → Bool → Machine
unfolding set_cpu cpu_at
set_preempted m p b = set_cpu m p (record (cpu_at m p) { preempted = b })

unfoldable pub set_halted : Machine → ℕ → Bool → Machine
unfolding set_cpu cpu_at
set_halted m p b = set_cpu m p (record (cpu_at m p) { halted = b })

unfoldable pub set_kicked : Machine → ℕ → Bool → Machine
unfolding set_cpu cpu_at
set_kicked m p b = set_cpu m p (record (cpu_at m p) { kicked = b })

-- the lock's entry in the hash becomes this
unfoldable pub set_entry : Machine → LockName → Option NodeName → Machine
set_entry m l None = record m { hash = without_entry l m.hash }
set_entry m l (Some n) = record m { hash = with_entry l n (without_entry l m.hash) }

-- the top frame goes
unfoldable pub pop : Machine → ℕ → Machine
unfolding set_cpu cpu_at depth_at
pop m p = set_cpu m p (record (cpu_at m p) { frames = take (depth_at m p - 1) (cpu_at m p).frames })

-- a frame comes on top, and uses up a handler
unfoldable pub push : Machine → ℕ → Frame → Machine
unfolding set_cpu cpu_at
push m p f =
    set_cpu m p (record
    (cpu_at m p) { frames = (cpu_at m p).frames ++ f ∷ []; handlers = (cpu_at m p).handlers + 1 })

-- the processor exists, and has from one to six frames
pub record HasTop (m : Machine) (p : ℕ) : Type 0 where
  pub in_range : p < length m.cpus
  pub some : 0 < depth_at m p
  pub few : depth_at m p ≤ 6

-- the processor of the node exists, and has it
pub record HasNode (m : Machine) (n : NodeName) : Type 0 where
  pub cpu : n.cpu < length m.cpus
  pub index : n.index < 4
