-- When an event may follow on the histories so far: the laws of a lawful history, one event at a
-- time.
use Rattle.std.specs.Prelude.{◌≡◌, Option, Some, None}
use Rattle.lk_names.specs.History.{LockHistory, lock_of, changed}
use Rattle.lk_names.specs.Lawful.{Rules, IsShared, OwnsUp, InOrder}
use Rattle.lk_names.specs.declared.names.LockName.{LockName}
use Rattle.lk_names.specs.declared.events.Event.{Event}

-- who takes does not hold and who releases holds, the event is in order, and after it only readers
-- hold the lock, or one waiter
pub record MayFollowOn (rules : Rules) (h : LockHistory) (e : Event) : Type 0 where
  pub owned : OwnsUp h e.by e.what
  pub ordered : InOrder rules h e.by e.what
  pub shared : IsShared (changed h e.by e.what).holders

-- the event is allowed on its lock
abbrev pub MayFollow : Rules → (LockName → LockHistory) → Event → Type 0
MayFollow rules hs e = (l : LockName) → lock_of e.what ≡ Some l → MayFollowOn rules (hs l) e

-- the event is allowed, if there is one
abbrev pub MayFollowIfAny : Rules → (LockName → LockHistory) → Option Event → Type 0
MayFollowIfAny rules hs None = Unit {0}
MayFollowIfAny rules hs (Some e) = MayFollow rules hs e
