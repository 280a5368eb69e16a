-- What the laws ask of one event, after what the events before it say of its lock.
use Rattle.std.specs.Prelude.{◌≤◌, All}
use Rattle.lk_names.specs.History.{LockHistory, changed}
use Rattle.lk_names.specs.Lawful.{Rules, IsShared, OwnsUp, InOrder}
use Rattle.lk_names.specs.declared.names.Waiter.{Waiter}
use Rattle.lk_names.specs.declared.events.What.{What}

-- The event leaves the lock to readers only or to one waiter, is by a waiter that may do so, keeps the order of the queue, and
-- leaves no waiter aside that has seen too many handoffs.
pub record IsAllowed (rules : Rules) (h : LockHistory) (w : Waiter) (what : What) : Type 0 where
  pub shared : IsShared (changed h w what).holders
  pub owned : OwnsUp h w what
  pub ordered : InOrder rules h w what
  pub bounded : All (λ n. n ≤ rules.threshold) (changed h w what).passes
