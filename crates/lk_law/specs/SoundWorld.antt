-- Worlds with reader-writer locks: what a frame does for one, when such a world is sound, and the
-- law of every row on it.
use Rattle.std.specs.Prelude.{◌≡◌, ◌==◌, ◌&&◌, not, ℕ, Option, Some, None, Bool, true, false}
use Rattle.std.specs.Prelude.{if◌then◌else◌}
use Rattle.lk_names.specs.History.{LockHistory, no_history}
use Rattle.lk_names.specs.declared.holder.Manner.{Manner}
use Rattle.lk_names.specs.declared.names.Kind.{Kind}
use Rattle.lk_names.specs.declared.names.Kind.TheVariants.{Spin, Rw}
use Rattle.lk_names.specs.declared.names.Waiter.{Waiter}
use Rattle.lk_names.specs.declared.names.LockName.{LockName}
use Rattle.lk_rows.specs.declared.parts.Frame.{Frame}
use Rattle.lk_rows.specs.declared.parts.Pc.{Pc}
use Rattle.lk_rows.specs.declared.parts.Pc.TheVariants.{U1, U2, U3, U4, U5, R1, R2, R3, R4, R5}
use Rattle.lk_rows.specs.declared.parts.Pc.TheVariants.{Wr1, Wr2, Wr3, Wr4, Wr5, Wr6, Y1, Y2, Y3}
use Rattle.lk_rows.specs.declared.parts.Pc.TheVariants.{Y4, Y5, Z1, Z2}
use Rattle.lk_rows.specs.Moves.{rw_name, wait_name}
use Rattle.lk_law.specs.Snapshot.{spins}
use Rattle.lk_law.specs.RwPhase.{RwPhase, is_inner}
use Rattle.lk_law.specs.RwPhase.RwPhase.{Away, Asks, Biases, Inside, Joins, Announces, Frees}
use Rattle.lk_law.specs.RwPhase.RwPhase.{Unreads, Unwrites}
use Rattle.lk_law.specs.RwAgree.{RwAgrees}
use Rattle.lk_law.specs.World.{World}
use Rattle.lk_law.specs.SpinWorld.{IsSoundSpinWorld}
use Rattle.lk_law.specs.Premises.{IsThen}
use Rattle.lk_law.specs.Families.{is_rw_row}

-- what a frame at such a row does for its lock
abbrev pub rw_own_phase : Pc → RwPhase
rw_own_phase R1 = Asks
rw_own_phase R2 = Biases
rw_own_phase R3 = Biases
rw_own_phase R4 = Inside
rw_own_phase R5 = Joins
rw_own_phase Wr1 = Asks
rw_own_phase Wr2 = Inside
rw_own_phase Wr3 = Inside
rw_own_phase Wr4 = Inside
rw_own_phase Wr5 = Announces
rw_own_phase Wr6 = Announces
rw_own_phase Y1 = Asks
rw_own_phase Y2 = Asks
rw_own_phase Y3 = Biases
rw_own_phase Y4 = Asks
rw_own_phase Y5 = Asks
rw_own_phase Z1 = Unreads
rw_own_phase Z2 = Unwrites
rw_own_phase _ = Away

-- What a row of a spinlock does with its lock: it is on its way to it, or frees it, or has freed
-- it, and owes a kick.
pub data Part : Type 0 where
  Taking : Part
  Freeing : Part
  Owing : Part

-- the part that a row of a spinlock plays
abbrev pub part_of : Pc → Part
part_of U1 = Freeing
part_of U2 = Freeing
part_of U3 = Freeing
part_of U4 = Freeing
part_of U5 = Owing
part_of _ = Taking

-- and at a row of a spinlock: with a wait lock it is on its way, or frees it, or has freed it
abbrev pub rw_wait_phase : Bool → Part → RwPhase
rw_wait_phase false part = Away
rw_wait_phase true Taking = Asks
rw_wait_phase true Freeing = Frees
rw_wait_phase true Owing = Away

-- what a frame at a row does for a reader-writer lock, where it acts on its wait lock or not
abbrev pub rw_phase_at : Pc → Bool → RwPhase
rw_phase_at c wait = if is_rw_row c then rw_own_phase c else rw_wait_phase wait (part_of c)

-- the same of a place; a finished frame does nothing
abbrev pub rw_phase_if : Option Pc → Bool → RwPhase
rw_phase_if None wait = Away
rw_phase_if (Some c) wait = rw_phase_at c wait

-- what a frame does for the reader-writer lock on which, or on whose wait lock, it acts
abbrev pub rw_phase_of : Frame → RwPhase
rw_phase_of f = rw_phase_if f.place f.lock.wait

-- what the frame of a waiter, if there is one, does for a reader-writer lock
abbrev pub rw_phase_on : ℕ → Option Frame → RwPhase
rw_phase_on i None = Away
rw_phase_on i (Some f) = if f.lock.index == i then rw_phase_of f else Away

-- what the laws read of a world for one reader-writer lock

-- what each waiter does for a reader-writer lock
abbrev pub rw_phases : World → ℕ → Waiter → RwPhase
rw_phases m i u = rw_phase_on i (m.frame u)

-- how each waiter holds it
abbrev pub rw_helds : World → ℕ → Waiter → Option Manner
rw_helds m i u = m.held u (rw_name i)

-- whether each waiter holds its wait lock
abbrev pub rw_waits : World → ℕ → Waiter → Bool
rw_waits m i u = spins (m.held u (wait_name i))

-- the kind is that of reader-writer locks
abbrev pub is_rw : Kind → Bool
is_rw Rw = true
is_rw Spin = false

-- the name is that of a reader-writer lock, and not of its wait lock
abbrev pub is_rw_name : (ℕ → Kind) → LockName → Bool
is_rw_name kind l = not l.wait && is_rw (kind l.index)

-- the histories of spinlocks and wait locks alone
abbrev pub spin_part : (ℕ → Kind) → (LockName → LockHistory) → LockName → LockHistory
spin_part kind hs l = if is_rw_name kind l then no_history else hs l

-- What is true of a frame's lock: at a row of a reader or a writer it is a reader-writer lock, and
-- past taking the wait lock that wait lock; at another row it is a spinlock, or the wait lock of a
-- reader-writer lock; and with a wait lock it knows where to go on.
pub record RwFits (kind : ℕ → Kind) (f : Frame) : Type 0 where
  pub rw : (c : Pc) → f.place ≡ Some c → is_rw_row c ≡ true → kind f.lock.index ≡ Rw
  pub inner : (c : Pc)
      → f.place ≡ Some c
      → is_rw_row c ≡ true
      → is_inner (rw_own_phase c) ≡ true
      → f.lock.wait ≡ true
  pub spin : (c : Pc)
      → f.place ≡ Some c
      → is_rw_row c ≡ false
      → f.lock.wait ≡ false
      → kind f.lock.index ≡ Spin
  pub waits : f.lock.wait ≡ true → kind f.lock.index ≡ Rw
  pub after : f.lock.wait ≡ true → IsThen f.then

-- The world is sound: in its spinlocks and wait locks, in each of its reader-writer locks, and in
-- its frames.
pub record IsSoundWorld (m : World) (hs : LockName → LockHistory) : Type 0 where
  pub spins : IsSoundSpinWorld m (spin_part m.kind hs)
  pub rws : (i : ℕ)
      → m.kind i ≡ Rw
      → RwAgrees (m.rw i) (rw_phases m i) (rw_helds m i) (rw_waits m i) (hs (rw_name i))
  pub fits : (u : Waiter) (f : Frame) → m.frame u ≡ Some f → RwFits m.kind f
