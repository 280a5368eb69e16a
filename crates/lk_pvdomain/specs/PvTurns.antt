-- What contracts say of a call of `pv_lock` that is polled.
use Rattle.std.specs.Prelude.{◌<◌, Bool, true, false, Option, Some, None}
use Rattle.lk_domain.specs.Plans.{locks_of}
use Rattle.lk_domain.specs.declared.domain.LockId.{LockId}
use Rattle.lk_pvdomain.specs.PvCalls.{own_node}
use Rattle.lk_pvdomain.specs.PvPaths.{Start}
use Rattle.lk_pvdomain.specs.PvRests.{Rests}
use Rattle.lk_domain.specs.declared.cpu.Cpu.{Cpu}
use Rattle.lk_pvdomain.specs.declared.domain.PvDomain.{PvDomain}
use Rattle.lk_pvdomain.specs.declared.rest.PvRest.{PvRest}
use Rattle.lk_pvdomain.specs.declared.waiter.PvTurn.{PvTurn}
use Rattle.lk_pvdomain.specs.declared.waiter.PvTurn.TheVariants.{Has, Waits as Awaits, Halts}
use Rattle.lk_pvdomain.specs.declared.waiter.PvWaiter.{PvWaiter}

-- the call that began so waits there, or has halted there
pub record Waits (d : PvDomain) (w : PvWaiter) (s : Start) (cpu : Cpu) : Type 0 where
  pub low : w.lock.index < locks_of d.domain.plan
  pub rests : Rests d.domain w.lock.index (own_node cpu) w.rest s cpu.seat

-- the call with which a turn leaves, and whether its processor has halted

abbrev pub waiter_in : PvTurn → Option PvWaiter
waiter_in Has = None
waiter_in (Awaits w) = Some w
waiter_in (Halts w) = Some w

abbrev pub has_halted : PvTurn → Bool
has_halted Has = false
has_halted (Awaits w) = false
has_halted (Halts w) = true

-- the call on that lock that rests there
abbrev pub waiter_at : LockId → Option PvRest → Option PvWaiter
waiter_at lock None = None
waiter_at lock (Some r) = Some (record { lock = lock; rest = r })
