-- Registers that hold a name which a later row takes, in every frame of a machine.
use Rattle.std.proofs.Common.{ℕ, ◌-◌, Option, Some, None, Bool, List, [], ◌∷◌, ◌++◌, length, take}
use Rattle.std.proofs.Common.{get_or, set, slice_get, zero, suc}
use Rattle.std.specs.Prelude.{unwrap_or}
use Rattle.lk_renaming.proofs.Names.{RwFields, Fields, NodeName, LockName, Mode, Pv, Virt, CpuState}
use Rattle.lk_renaming.proofs.Names.{Machine, no_cpu, rest_frame, top_frame, counted, Flag, Frame}
use Rattle.lk_renaming.proofs.Names.{Node, Pc, C3, C4, C5, C6, C7, C8, C9, U4, U5, State, AreNames}
use Rattle.lk_names.specs.declared.names.Mode.TheVariants.{Native, Cna}
use Rattle.lk_rows.specs.Machine.{cpu_at, frame_at, depth_at, set_cpu, set_lock, set_word, set_rw}
use Rattle.lk_rows.specs.Machine.{set_node, set_top, set_queued, set_preempted, set_halted}
use Rattle.lk_rows.specs.{Machine.{set_kicked, set_entry, set_counts, pop, push}, Moves.first_place}
use Rattle.lk_rows.specs.Row.{Counter}
use Rattle.lk_rows.specs.TopRow.{stored_word, stored_rw, stored_flag, stored_next, stored_second}
use Rattle.lk_rows.specs.TopRow.{stored_runs, stored_state, stored_entry, stored_halted}
use Rattle.lk_rows.specs.{TopRow.{stored_kicked, stored_queued}, declared.parts.Why.Why}
use Rattle.lk_rows.specs.{declared.setup.Verb.Verb, declared.setup.Verb.TheVariants.Unlock}
use Rattle.lk_rows.specs.declared.parts.Why.TheVariants as why

-- frames

-- a head that will append those that it passed over knows to whom it hands off
abbrev pub later_why : Why → Option NodeName → List (Option NodeName)
later_why why.Append y = y ∷ []
later_why _ y = []

-- the registers of a frame at each row that its rows from there on take as names, and that a sound
-- machine does not say to be filled
abbrev pub later_at : Pc → Frame → List (Option NodeName)
later_at C3 f = later_why f.why f.y
later_at C4 f = f.y ∷ f.t ∷ []
later_at C5 f = f.y ∷ []
later_at C6 f = f.y ∷ []
later_at C7 f = f.y ∷ []
later_at C8 f = f.y ∷ []
later_at C9 f = f.t ∷ []
later_at U4 f = f.target ∷ []
later_at U5 f = f.target ∷ []
later_at c f = []

-- they are filled
abbrev pub LaterAt : Option Pc → Frame → Type 0
LaterAt None f = Unit {0}
LaterAt (Some c) f = AreNames (later_at c f)

-- none is needed at the place
abbrev pub Quiet : Option Pc → Type 0
Quiet o = (g : Frame) → LaterAt o g

-- so it is of a frame; and it needs none where it goes on once it has the wait lock
pub record FrameNamed (f : Frame) : Type 0 where
  pub now : LaterAt f.place f
  pub inner : Quiet f.then

-- of each of these frames
abbrev pub EachNamed : List Frame → Type 0
EachNamed [] = Unit {0}
EachNamed (f ∷ fs) = FrameNamed f × EachNamed fs

-- of each of these processors
abbrev pub CpusNamed : List CpuState → Type 0
CpusNamed [] = Unit {0}
CpusNamed (c ∷ cs) = EachNamed c.frames × CpusNamed cs

-- and of each frame of a machine
abbrev pub AllNamed : Machine → Type 0
AllNamed m = CpusNamed m.cpus

pub rest_named : FrameNamed rest_frame
rest_named = record { now = tt; inner = λ g. tt }

-- an operation begins where none is needed
pub first_quiet : (mode : Mode) (verb : Verb) → Quiet (Some (first_place mode verb))
first_quiet Virt Unlock g = tt
first_quiet Native Unlock g = tt
first_quiet Cna Unlock g = tt
first_quiet Pv Unlock g = tt
first_quiet mode verb g = tt

-- lists

top_named : (fs : List Frame) (i : ℕ) → EachNamed fs → FrameNamed (unwrap_or (slice_get fs i) rest_frame)
top_named [] i all = rest_named
top_named (f ∷ fs) zero all = all.0
top_named (f ∷ fs) (suc i) all = top_named fs i all.1

set_named : (fs : List Frame) (i : ℕ) (f : Frame) → EachNamed fs → FrameNamed f → EachNamed (set fs i f)
set_named [] i f all one = tt
set_named (g ∷ fs) zero f all one = (one, all.1)
set_named (g ∷ fs) (suc i) f all one = (all.0, set_named fs i f all.1 one)

take_named : (fs : List Frame) (n : ℕ) → EachNamed fs → EachNamed (take n fs)
take_named fs zero all = tt
take_named [] (suc n) all = tt
take_named (f ∷ fs) (suc n) all = (all.0, take_named fs n all.1)

more_named : (fs : List Frame) (f : Frame) → EachNamed fs → FrameNamed f → EachNamed (fs ++ f ∷ [])
more_named [] f all one = (one, tt)
more_named (g ∷ fs) f all one = (all.0, more_named fs f all.1 one)

cpu_named : (cs : List CpuState) (p : ℕ) → CpusNamed cs → EachNamed (get_or cs p no_cpu).frames
cpu_named [] p all = tt
cpu_named (c ∷ cs) zero all = all.0
cpu_named (c ∷ cs) (suc p) all = cpu_named cs p all.1

cpus_named : (cs : List CpuState) (p : ℕ) (c : CpuState) → CpusNamed cs → EachNamed c.frames → CpusNamed (set cs p c)
cpus_named [] p c all one = tt
cpus_named (d ∷ cs) zero c all one = (one, all.1)
cpus_named (d ∷ cs) (suc p) c all one = (all.0, cpus_named cs p c all.1 one)

-- machines

module _ (m : Machine) (all : AllNamed m) where
  frames_named : (p : ℕ) → EachNamed (cpu_at m p).frames
  unfolding cpu_at
  frames_named p = cpu_named m.cpus p all

  pub newest_named : (p : ℕ) → FrameNamed (top_frame m p)
  unfolding frame_at depth_at
  newest_named p = top_named (cpu_at m p).frames (length (cpu_at m p).frames - 1) (frames_named p)

  put_named : (p : ℕ) (c : CpuState) → EachNamed c.frames → AllNamed (set_cpu m p c)
  unfolding set_cpu
  put_named p c one = cpus_named m.cpus p c all one

  pub set_top-named : (p : ℕ) (f : Frame) → FrameNamed f → AllNamed (set_top m p f)
  unfolding set_top depth_at
  set_top-named p f one = put_named p _ (set_named (cpu_at m p).frames _ f (frames_named p) one)

  pub pop-named : (p : ℕ) → AllNamed (pop m p)
  unfolding pop
  pop-named p = put_named p _ (take_named (cpu_at m p).frames _ (frames_named p))

  pub push-named : (p : ℕ) (f : Frame) → FrameNamed f → AllNamed (push m p f)
  unfolding push
  push-named p f one = put_named p _ (more_named (cpu_at m p).frames f (frames_named p) one)

  pub set_node-named : (k : NodeName) (x : Node) → AllNamed (set_node m k x)
  unfolding set_node
  set_node-named k x = put_named k.cpu _ (frames_named k.cpu)

  pub set_queued-named : (p i : ℕ) → AllNamed (set_queued m p i)
  unfolding set_queued
  set_queued-named p i = put_named p _ (frames_named p)

  pub set_preempted-named : (p : ℕ) (b : Bool) → AllNamed (set_preempted m p b)
  unfolding set_preempted
  set_preempted-named p b = put_named p _ (frames_named p)

  pub set_halted-named : (p : ℕ) (b : Bool) → AllNamed (set_halted m p b)
  unfolding set_halted
  set_halted-named p b = put_named p _ (frames_named p)

  pub set_kicked-named : (p : ℕ) (b : Bool) → AllNamed (set_kicked m p b)
  unfolding set_kicked
  set_kicked-named p b = put_named p _ (frames_named p)

  pub counted-named : (cs : List Counter) → AllNamed (counted m cs)
  unfolding set_counts
  counted-named [] = all
  counted-named (c ∷ cs) = all

  -- stores of rows

  pub word-named : (f : Frame) (o : Option Fields) → AllNamed (stored_word m f o)
  unfolding set_word set_lock
  word-named f None = all
  word-named f (Some x) = all

  pub rw-named : (i : ℕ) (o : Option RwFields) → AllNamed (stored_rw m i o)
  unfolding set_rw set_lock
  rw-named i None = all
  rw-named i (Some x) = all

  pub entry-named : (l : LockName) (o : Option (Option NodeName)) → AllNamed (stored_entry m l o)
  unfolding set_entry
  entry-named l None = all
  entry-named l (Some None) = all
  entry-named l (Some (Some n)) = all

  pub flag-named : (k : NodeName) (o : Option Flag) → AllNamed (stored_flag m k o)
  flag-named k None = all
  flag-named k (Some x) = set_node-named k _

  pub link-named : (k : NodeName) (o : Option (Option NodeName)) → AllNamed (stored_next m k o)
  link-named k None = all
  link-named k (Some x) = set_node-named k _

  pub second-named : (k : NodeName) (o : Option (Option NodeName)) → AllNamed (stored_second m k o)
  second-named k None = all
  second-named k (Some x) = set_node-named k _

  pub runs-named : (k : NodeName) (o : Option ℕ) → AllNamed (stored_runs m k o)
  runs-named k None = all
  runs-named k (Some x) = set_node-named k _

  pub state-named : (k : NodeName) (o : Option State) → AllNamed (stored_state m k o)
  state-named k None = all
  state-named k (Some x) = set_node-named k _

  pub halted-named : (p : ℕ) (o : Option Bool) → AllNamed (stored_halted m p o)
  halted-named p None = all
  halted-named p (Some b) = set_halted-named p b

  pub kicked-named : (p : ℕ) (o : Option Bool) → AllNamed (stored_kicked m p o)
  kicked-named p None = all
  kicked-named p (Some b) = set_kicked-named p b

  pub queued-named : (p : ℕ) (o : Option ℕ) → AllNamed (stored_queued m p o)
  queued-named p None = all
  queued-named p (Some i) = set_queued-named p i
