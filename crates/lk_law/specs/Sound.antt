-- When a machine is sound, and when it shows a history.
use Rattle.std.specs.Prelude.{◌&&◌, ◌||◌, not, ◌≡◌, ◌<◌, ◌≤◌, ◌⊎◌, ℕ, Option, Some, None, Bool}
use Rattle.std.specs.Prelude.{true, false, List, [], ◌∷◌, length, slice_get, if◌then◌else◌}
use Rattle.std.specs.Prelude.{slice_index_or, ◌+◌, ◌==◌}
use Rattle.lk_names.specs.History.{LockHistory, history_of}
use Rattle.lk_names.specs.declared.holder.Manner.TheVariants.{Spins}
use Rattle.lk_names.specs.declared.holder.Manner.{Manner}
use Rattle.lk_names.specs.declared.names.Kind.TheVariants.{Spin}
use Rattle.lk_names.specs.declared.names.Mode.{Mode}
use Rattle.lk_names.specs.declared.names.Mode.TheVariants.{Virt, Cna, Pv}
use Rattle.lk_names.specs.declared.names.Waiter.{Waiter}
use Rattle.lk_names.specs.declared.names.LockName.{LockName}
use Rattle.lk_names.specs.declared.events.Event.{Event}
use Rattle.lk_word.specs.declared.spin_word.NodeName.{NodeName}
use Rattle.lk_rows.specs.declared.setup.Op.{Op}
use Rattle.lk_rows.specs.declared.setup.Verb.{Verb}
use Rattle.lk_rows.specs.declared.setup.Verb.TheVariants.{Lock, Try, Unlock, Read, TryRead}
use Rattle.lk_rows.specs.declared.setup.Verb.TheVariants.{RUnlock, Write, TryWrite, WUnlock}
use Rattle.lk_rows.specs.declared.parts.Frame.{Frame}
use Rattle.lk_rows.specs.declared.parts.Pc.{Pc}
use Rattle.lk_rows.specs.declared.parts.Pc.TheVariants.{F1, T1, T2, U1, V1, V2, U2, U3, U4, U5}
use Rattle.lk_rows.specs.declared.parts.Pc.TheVariants.{R1, R2, R3, R4, R5, Wr1, Wr2, Wr3, Wr4}
use Rattle.lk_rows.specs.declared.parts.Pc.TheVariants.{Wr5, Wr6, Y1, Y2, Y3, Y4, Y5, Z1, Z2}
use Rattle.lk_rows.specs.Machine.{Machine, cpu_at, word_at, node_at, frame_at, queued_at}
use Rattle.lk_rows.specs.Machine.{entry_at, kicked_at, halted_at, handlers_at, HasTop, HasNode}
use Rattle.lk_rows.specs.Machine.{rw_at, entry_in}
use Rattle.lk_rows.specs.Programs.{IsLawfulSetup, way_at, handlers_of}
use Rattle.lk_rows.specs.Moves.{program_of}
use Rattle.lk_law.specs.World.{World}
use Rattle.lk_law.specs.Families.{chooses, is_rw_row, is_release_row, is_queued_row, is_halting_row}
use Rattle.lk_law.specs.Registers.{hands_plainly}
use Rattle.lk_law.specs.RwPhase.{RwPhase, is_inner}
use Rattle.lk_law.specs.RwPhase.RwPhase.{Frees}
use Rattle.lk_law.specs.SoundWorld.{rw_phase_of, IsSoundWorld}

-- how the walk over a program, up to a frame's position, holds a lock: so a frame holds it between
-- two operations
abbrev pub held_idle : List Op → Frame → LockName → Option Manner
held_idle ops f l = if l.wait then None else way_at ops f.«at» l.index

-- the frame is about to free a wait lock whose lock it holds
abbrev pub frees : RwPhase → Bool
frees Frees = true
frees _ = false

-- the frame has freed its lock, and owes a kick
abbrev pub owes_kick : Option Pc → Bool
owes_kick (Some U5) = true
owes_kick _ = false

-- What its operation is for is done, and what is left is to free a wait lock, or to make a kick.
abbrev pub is_over : Frame → Bool
is_over f = frees (rw_phase_of f) || owes_kick f.place

-- How far the walk over its program has come: a frame whose operation is over holds what that took
-- or left, and else what the operations before it leave.
abbrev pub reached : Frame → ℕ
reached f = if is_over f then f.«at» + 1 else f.«at»

-- How a frame holds a lock: a wait lock by its place, and another as the walk over its program
-- does, as far as it has come.
abbrev pub held_in : List Op → Frame → LockName → Option Manner
held_in ops f l =
    if l.wait then (if is_inner (rw_phase_of f)
    && (f.lock.index == l.index) then Some Spins else None) else way_at ops (reached f) l.index

-- how a frame, if there is one, holds a lock
abbrev pub held_at : Machine → Waiter → LockName → Option Frame → Option Manner
held_at m u l None = None
held_at m u l (Some f) = held_in (program_of m u.cpu f) f l

-- how a waiter holds a lock
abbrev pub held_of : Machine → Waiter → LockName → Option Manner
held_of m u l = held_at m u l (frame_at m u)

-- a machine as a world, by look-up
abbrev pub world : Machine → World
world m =
    record {
      format = m.setup.format;
      mode = m.setup.mode;
      turns = m.setup.spins;
      threshold = m.setup.threshold;
      sockets = m.setup.topology.sockets.items;
      word = λ l. word_at m l;
      node = λ n. node_at m n;
      frame = λ u. frame_at m u;
      held = λ u l. held_of m u l;
      queued = λ p. queued_at m p;
      entry = λ l. entry_at m l;
      halted = λ p. halted_at m p;
      kicked = λ p. kicked_at m p;
      rw = λ i. rw_at m i;
      kind = λ i. slice_index_or m.setup.locks.items i Spin;
    }

-- the rows of `lock` in mode `virt`
abbrev pub is_virt_row : Pc → Bool
is_virt_row F1 = true
is_virt_row V1 = true
is_virt_row V2 = true
is_virt_row _ = false

-- the rows of `lock` in mode `cna`: a head chooses the next in place of handing off as the queue
-- stands
abbrev pub is_choosing_row : Pc → Bool
is_choosing_row c = chooses c || (is_queued_row c && not (hands_plainly c))

-- the rows of `lock`, by the mode
abbrev pub is_lock_row : Mode → Pc → Bool
is_lock_row Virt c = is_virt_row c
is_lock_row Cna c = is_choosing_row c
is_lock_row Pv c = is_halting_row c
is_lock_row _ c = is_queued_row c

-- a place is a row of an operation with this verb, where the frame acts on a spinlock that it has
-- not freed
abbrev pub BelongsTo : Mode → Verb → Pc → Type 0
BelongsTo mode Lock c = is_lock_row mode c ≡ true
BelongsTo mode Try c = (c ≡ T1) ⊎ (c ≡ T2)
BelongsTo Pv Unlock c = (c ≡ U2) ⊎ (c ≡ U3) ⊎ (c ≡ U4)
BelongsTo mode Unlock c = c ≡ U1
BelongsTo mode _ c = ⊥

-- a place is a row of an operation with this verb on a reader-writer lock, without the wait lock or
-- with it
abbrev pub RwBelongs : Verb → Bool → Pc → Type 0
RwBelongs Read false c = (c ≡ R1) ⊎ (c ≡ R2) ⊎ (c ≡ R3)
RwBelongs Read true c = (c ≡ R4) ⊎ (c ≡ R5)
RwBelongs Write false c = c ≡ Wr1
RwBelongs Write true c = (c ≡ Wr2) ⊎ (c ≡ Wr3) ⊎ (c ≡ Wr4) ⊎ (c ≡ Wr5) ⊎ (c ≡ Wr6)
RwBelongs TryRead false c = (c ≡ Y1) ⊎ (c ≡ Y2) ⊎ (c ≡ Y3)
RwBelongs TryWrite false c = (c ≡ Y4) ⊎ (c ≡ Y5)
RwBelongs RUnlock false c = c ≡ Z1
RwBelongs WUnlock false c = c ≡ Z2
RwBelongs _ _ c = ⊥

-- the verb takes the wait lock
abbrev pub takes_wait : Verb → Bool
takes_wait Read = true
takes_wait Write = true
takes_wait _ = false

-- where a verb goes on once it has the wait lock
abbrev pub after_wait : Verb → Option Pc
after_wait Read = Some R4
after_wait Write = Some Wr2
after_wait _ = None

-- The stage at which a frame is in its operation: on a spinlock; on a reader-writer lock; taking or
-- freeing its wait lock, which is as the `lock` or the `unlock` of a spinlock; or with a spinlock
-- or wait lock that it has freed, so that it owes a kick.
pub data Footing (mode : Mode) (v : Verb) (f : Frame) (c : Pc) : Type 0 where
  Spinning : f.lock.wait ≡ false → is_rw_row c ≡ false → BelongsTo mode v c → Footing mode v f c
  Sharing : is_rw_row c ≡ true → RwBelongs v f.lock.wait c → Footing mode v f c
  Waiting : f.lock.wait ≡ true
      → is_rw_row c ≡ false
      → is_release_row c ≡ false
      → takes_wait v ≡ true
      → BelongsTo mode Lock c
      → Footing mode v f c
  Freeing : f.lock.wait ≡ true
      → is_rw_row c ≡ false
      → is_release_row c ≡ true
      → takes_wait v ≡ true
      → BelongsTo mode Unlock c
      → Footing mode v f c
  Owing : mode ≡ Pv
      → c ≡ U5
      → (f.lock.wait ≡ false → v ≡ Unlock)
      → (f.lock.wait ≡ true → takes_wait v ≡ true)
      → Footing mode v f c

-- A frame at a row works: the row belongs to the operation at its position, on whose lock or wait
-- lock it acts; and with a wait lock it knows where to go on.
pub record Works (mode : Mode) (ops : List Op) (f : Frame) (c : Pc) : Type 0 where
  pub op : Op
  pub is : slice_get ops f.«at» ≡ Some op
  pub lock : f.lock.index ≡ op.lock
  pub stage : Footing mode op.verb f c
  pub after : f.lock.wait ≡ true → f.then ≡ after_wait op.verb

-- the program of a frame: the task's in context 0, and above it that of a handler
abbrev pub RunsOne : Machine → Waiter → Frame → Type 0
RunsOne m u f = (u.ctx ≡ 0 → f.program ≡ 0)
    × (0 < u.ctx → (0 < f.program) × (f.program ≤ handlers_at m u.cpu))

-- A frame fits: it stands at its context, runs one of its processor's programs, and is finished
-- exactly at the end of it; and the nodes before its own, and whose processor it kicks, are the
-- machine's, also where they were given back.
pub record Fits (m : Machine) (u : Waiter) (f : Frame) : Type 0 where
  pub ctx : f.ctx ≡ u.ctx
  pub program : RunsOne m u f
  pub within : f.«at» ≤ length (program_of m u.cpu f)
  pub finished : f.place ≡ None → f.«at» ≡ length (program_of m u.cpu f)
  pub working : (c : Pc) → f.place ≡ Some c → Works m.setup.mode (program_of m u.cpu f) f c
  pub prev : (n : NodeName) → f.prev ≡ Some n → HasNode m n
  pub target : (n : NodeName) → f.target ≡ Some n → HasNode m n

-- each lock is entered once
abbrev pub IsEnteredOnce : List (LockName × NodeName) → Type 0
IsEnteredOnce [] = Unit {0}
IsEnteredOnce (e ∷ es) = (entry_in e.0 es ≡ None) × IsEnteredOnce es

-- The machine has the parts of its setup: a lock's state for each lock, and for each processor four
-- nodes and from one to six frames. No more handlers were used than there are, and no lock is
-- entered twice.
pub record IsWhole (m : Machine) : Type 0 where
  pub setup : IsLawfulSetup m.setup
  pub locks : length m.locks ≡ length m.setup.locks.items
  pub cpus : length m.cpus ≡ length m.setup.topology.sockets.items
  pub nodes : (p : ℕ) → p < length m.cpus → length (cpu_at m p).nodes ≡ 4
  pub tops : (p : ℕ) → p < length m.cpus → HasTop m p
  pub handlers : (p : ℕ) → handlers_at m p ≤ handlers_of m.setup p
  pub hash : IsEnteredOnce m.hash

-- the machine is sound, and its words, nodes and frames agree with these histories
pub record ShowsAll (m : Machine) (hs : LockName → LockHistory) : Type 0 where
  pub whole : IsWhole m
  pub world : IsSoundWorld (world m) hs
  pub fits : (u : Waiter) (f : Frame) → frame_at m u ≡ Some f → Fits m u f

-- the machine shows the history
abbrev pub Shows : Machine → List Event → Type 0
Shows m es = ShowsAll m (λ l. history_of l es)

-- the machine is sound: it shows some histories
abbrev pub IsSound : Machine → Type 0
IsSound m = (hs : LockName → LockHistory) × ShowsAll m hs
