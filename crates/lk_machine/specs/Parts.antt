-- The parts of a machine that change, and when two frames are the same.
use Rattle.std.specs.Prelude.{◌≡◌, ◌*◌, ◌-◌, ℕ, ◌==◌, ◌&&◌, ◌||◌, not, Bool, List, Option, None, is_some}
use Rattle.std.specs.Prelude.{length, slice_get, unwrap_or, if◌then◌else◌}
use Rattle.std.specs.Int.{IsNextPowerOfTwo}
use Rattle.lk_names.specs.declared.names.LockName.{LockName}
use Rattle.lk_word.specs.declared.spin_word.NodeName.{NodeName}
use Rattle.lk_word.specs.declared.spin_word.Layout.{Layout}
use Rattle.lk_rows.specs.Machine.{Machine, LockState, CpuState, rest_frame}
use Rattle.lk_rows.specs.Layouts.{layout_of}
use Rattle.lk_rows.specs.declared.parts.Pc.{Pc}
use Rattle.lk_rows.specs.declared.parts.Frame.{Frame}

-- they stand at the same point of their programs
pub record IsSamePoint (a b : Frame) : Type 0 where
  pub ctx : a.ctx ≡ b.ctx
  pub program : a.program ≡ b.program
  pub here : a.«at» ≡ b.«at»
  pub place : a.place ≡ b.place
  pub index : a.lock.index ≡ b.lock.index
  pub wait : a.lock.wait ≡ b.lock.wait
  pub next : a.then ≡ b.then

-- they have the same nodes in their registers
pub record AreSameNames (f g : Frame) : Type 0 where
  pub me : f.me ≡ g.me
  pub prev : f.prev ≡ g.prev
  pub second : f.second ≡ g.second
  pub y : f.y ≡ g.y
  pub a : f.a ≡ g.a
  pub b : f.b ≡ g.b
  pub t : f.t ≡ g.t
  pub target : f.target ≡ g.target

-- the words of the locks in their layout, and the hash with so many places
pub record SharedValue : Type 0 where
  pub layout : Layout
  pub locks : List LockState
  pub places : ℕ
  pub hash : List (LockName × NodeName)

-- they can be those of the machine: it has as many locks, in this layout, and as many places
pub record Fits (s : SharedValue) (m : Machine) : Type 0 where
  pub layout : s.layout ≡ layout_of m.setup.format
  pub locks : length s.locks ≡ length m.locks
  pub places : IsNextPowerOfTwo (4 * length m.cpus) s.places

-- the machine has them
pub record Holds (s : SharedValue) (m : Machine) : Type 0 where
  pub fits : Fits s m
  pub locks : s.locks ≡ m.locks
  pub hash : s.hash ≡ m.hash

-- the place of a processor's newest frame
abbrev pub place_of : CpuState → Option Pc
place_of c = (unwrap_or (slice_get c.frames (length c.frames - 1)) rest_frame).place

-- the row that a step of the processor makes, if it is neither preempted nor halted
abbrev pub row_of : CpuState → Option Pc
row_of c = if c.preempted || c.halted then None else place_of c

-- the program of the processor's task has ended, and no handler of it runs
abbrev pub is_over : CpuState → Bool
is_over c = (length c.frames == 1) && not (is_some (place_of c))
