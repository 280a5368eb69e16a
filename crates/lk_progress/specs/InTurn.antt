-- How many takes of a lock a waiter of its queue sees before its own.
use Rattle.std.specs.Prelude.{◌≡◌, ◌≢◌, ◌≤◌, ◌+◌, ◌*◌, ℕ, Some, Bool, true, false, List, [], ◌∷◌, length, slice_get, if◌then◌else◌}
use Rattle.lk_names.specs.History.{LockHistory, history_of}
use Rattle.lk_names.specs.Lawful.{Holds}
use Rattle.lk_names.specs.Names.{same_lock}
use Rattle.lk_names.specs.declared.names.Waiter.{Waiter}
use Rattle.lk_names.specs.declared.names.LockName.{LockName}
use Rattle.lk_names.specs.declared.events.Act.{Act}
use Rattle.lk_names.specs.declared.events.Event.{Event}
use Rattle.lk_names.specs.declared.events.What.{What}
use Rattle.lk_names.specs.declared.events.What.TheVariants.{Take, Arrive}
use Rattle.lk_rows.specs.declared.parts.Frame.{Frame}
use Rattle.lk_rows.specs.declared.parts.Pc.{Pc}
use Rattle.lk_rows.specs.declared.setup.Setup.{Setup}
use Rattle.lk_rows.specs.Acts.{next}
use Rattle.lk_rows.specs.Programs.{IsLawfulSetup}
use Rattle.lk_rows.specs.Run.{at_rest, machine_after, history, events_of}
use Rattle.lk_law.specs.Agree.{halts}
use Rattle.lk_law.specs.Cna.{moves_aside}
use Rattle.lk_law.specs.MachineLaws.{AreInRange}
use Rattle.lk_law.specs.Sound.{world}
use Rattle.lk_law.specs.World.{World}
use Rattle.lk_progress.specs.Turns.{is_watching}

-- the event is a take of this spinlock
abbrev pub is_take : LockName → What → Bool
is_take l (Take k how) = same_lock k l
is_take l _ = false

-- how many of these events are
abbrev pub takes : LockName → List Event → ℕ
takes l [] = 0
takes l (e ∷ es) = (if is_take l e.what then 1 else 0) + takes l es

-- in these events the waiter does not take the lock
abbrev pub TakesNot : LockName → Waiter → List Event → Type 0
TakesNot l w [] = Unit {0}
TakesNot l w (e ∷ es) = (is_take l e.what ≡ true → e.by ≢ w) × TakesNot l w es

-- The waiter stands in the queue, behind so many, and does not hold the lock yet.
pub record IsWaiting (h : LockHistory) (w : Waiter) (before : ℕ) : Type 0 where
  pub place : slice_get h.main before ≡ Some w
  pub yet : ¬ Holds h w

-- the frame waits by the pending bit of the lock
abbrev pub WatchesNot : LockName → Frame → Type 0
WatchesNot l f = (c : Pc) → f.place ≡ Some c → f.lock ≡ l → is_watching c ≡ false

-- nobody waits by the pending bit of the lock
abbrev pub NobodyWatches : World → LockName → Type 0
NobodyWatches m l = (u : Waiter) (f : Frame) → m.frame u ≡ Some f → WatchesNot l f

-- the history of a lock after these acts from rest
abbrev pub history_after : Setup → List Act → LockName → LockHistory
history_after setup acts l = history_of l (events_of (history (at_rest setup) acts))

-- In `virt` and `native` a waiter of the queue sees at most as many takes before its own as there are
-- waiters before it, and one: as long as it has not taken the lock, no more takes have come.
abbrev pub FewTakesBefore : Type 0
FewTakesBefore = (setup : Setup) (acts more : List Act) (l : LockName) (w : Waiter) (before : ℕ)
    → IsLawfulSetup setup → halts setup.mode ≡ false → moves_aside setup.mode ≡ false
    → AreInRange (length setup.topology.sockets.items) acts
    → AreInRange (length setup.topology.sockets.items) more
    → IsWaiting (history_after setup acts l) w before
    → TakesNot l w (events_of (history (machine_after (at_rest setup) acts) more))
    → takes l (events_of (history (machine_after (at_rest setup) acts) more)) ≤ before + 1

-- The one is that of a waiter which has set the pending bit. Where nobody has, the takes are no more than
-- the waiters before it.
abbrev pub FewerUnwatched : Type 0
FewerUnwatched = (setup : Setup) (acts more : List Act) (l : LockName) (w : Waiter) (before : ℕ)
    → IsLawfulSetup setup → halts setup.mode ≡ false → moves_aside setup.mode ≡ false
    → AreInRange (length setup.topology.sockets.items) acts
    → AreInRange (length setup.topology.sockets.items) more
    → IsWaiting (history_after setup acts l) w before
    → NobodyWatches (world (machine_after (at_rest setup) acts)) l
    → TakesNot l w (events_of (history (machine_after (at_rest setup) acts) more))
    → takes l (events_of (history (machine_after (at_rest setup) acts) more)) ≤ before

-- From its arrival on: the act a is the one in which w arrives. It sees at most as many takes before its
-- own as there were waiters in the queue, and one.
abbrev pub FewTakesFromArrival : Type 0
FewTakesFromArrival = (setup : Setup) (acts more : List Act) (a : Act) (l : LockName) (w : Waiter)
    → IsLawfulSetup setup → halts setup.mode ≡ false → moves_aside setup.mode ≡ false
    → AreInRange (length setup.topology.sockets.items) acts
    → AreInRange (length setup.topology.sockets.items) (a ∷ more)
    → (next (machine_after (at_rest setup) acts) a).1 ≡ Some (record { by = w; what = Arrive l })
    → TakesNot l w (events_of (history (next (machine_after (at_rest setup) acts) a).0 more))
    → takes l (events_of (history (next (machine_after (at_rest setup) acts) a).0 more))
    ≤ length (history_after setup acts l).main + 1

-- How many stand before a waiter where waiters are moved aside. Before one of the main queue those before
-- it there, and all that stand aside, since they may return. Before one that stands aside the head, and
-- those before it there.
pub data StandsBehind (h : LockHistory) (w : Waiter) (before : ℕ) : Type 0 where
  InMain : (i : ℕ)
      → slice_get h.main i ≡ Some w
      → before ≡ i + length h.second
      → StandsBehind h w before
  IsAside : (i : ℕ) → slice_get h.second i ≡ Some w → before ≡ i + 1 → StandsBehind h w before

-- In `cna` each waiter that stands before it may let as many others pass as the threshold says. So the takes
-- before its own are at most the waiters before it, times the threshold and one; and one.
abbrev pub FewTakesAside : Type 0
FewTakesAside = (setup : Setup) (acts more : List Act) (l : LockName) (w : Waiter) (before : ℕ)
    → IsLawfulSetup setup → halts setup.mode ≡ false
    → AreInRange (length setup.topology.sockets.items) acts
    → AreInRange (length setup.topology.sockets.items) more
    → StandsBehind (history_after setup acts l) w before
    → ¬ Holds (history_after setup acts l) w
    → TakesNot l w (events_of (history (machine_after (at_rest setup) acts) more))
    → takes l (events_of (history (machine_after (at_rest setup) acts) more))
    ≤ before * (setup.threshold + 1) + 1

-- From its arrival on.
abbrev pub FewTakesAsideFromArrival : Type 0
FewTakesAsideFromArrival = (setup : Setup) (acts more : List Act) (a : Act) (l : LockName) (w : Waiter)
    → IsLawfulSetup setup → halts setup.mode ≡ false
    → AreInRange (length setup.topology.sockets.items) acts
    → AreInRange (length setup.topology.sockets.items) (a ∷ more)
    → (next (machine_after (at_rest setup) acts) a).1 ≡ Some (record { by = w; what = Arrive l })
    → TakesNot l w (events_of (history (next (machine_after (at_rest setup) acts) a).0 more))
    → takes l (events_of (history (next (machine_after (at_rest setup) acts) a).0 more))
    ≤ (length (history_after setup acts l).main + length (history_after setup acts l).second)
    * (setup.threshold + 1) + 1
