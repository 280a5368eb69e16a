-- A processor of a test that may halt.
use Rattle.std.specs.Prelude.{◌≡◌, ◌<◌, ◌≤◌, ℕ, List, true, false, length, slice_index_or}
use Rattle.lk_domain.specs.Calls.{holds_in}
use Rattle.lk_domain.specs.Values.{out_in}
use Rattle.lk_guard.specs.Idle.{IsFree}
use Rattle.lk_pvdomain.specs.PvCalls.{IsResting}
use Rattle.lk_pvdomain.specs.PvPaths.{Start}
use Rattle.lk_domain.specs.Seats.{calls_of, ledger_of}
use Rattle.lk_pvdomain.specs.PvSeats.{IsOf}
use Rattle.lk_pvdomain.specs.PvTurns.{Waits}
use Rattle.lk_domain.specs.declared.cpu.Cpu.{Cpu}
use Rattle.lk_pvdomain.specs.declared.domain.PvDomain.{PvDomain}
use Rattle.lk_pvdomain.specs.declared.waiter.PvTurn.{PvTurn}
use Rattle.lk_pvdomain.specs.declared.waiter.PvTurn.TheVariants.{Has, Waits as Awaits, Halts}
use Rattle.lk_pvdomain.specs.declared.waiter.PvWaiter.{PvWaiter}

-- it is in no call and does not hold lock 1
pub record IsReady (domain : PvDomain) (cpu : Cpu) : Type 0 where
  pub domain_is : IsOf cpu domain
  pub rests : IsResting (calls_of cpu)
  pub free : holds_in (calls_of cpu).holds 1 ≡ false

abbrev pub AllReady : PvDomain → List Cpu → Type 0
AllReady domain cpus = (i : ℕ) (d : Cpu) → i < length cpus → IsReady domain (slice_index_or cpus i d)

-- it is in no call and holds it, with its value home
pub record HasOne (domain : PvDomain) (cpu : Cpu) : Type 0 where
  pub domain_is : IsOf cpu domain
  pub rests : IsResting (calls_of cpu)
  pub held : holds_in (calls_of cpu).holds 1 ≡ true
  pub home : out_in (calls_of cpu).holds 1 ≡ false

-- it does nothing, and may write so many entries
pub record MayWrite (domain : PvDomain) (n : ℕ) (cpu : Cpu) : Type 0 where
  pub domain_is : IsOf cpu domain
  pub free : IsFree cpu
  pub share : n ≤ (ledger_of cpu).share

abbrev pub AllMayWrite : PvDomain → ℕ → List Cpu → Type 0
AllMayWrite domain n cpus = (i : ℕ) (d : Cpu) → i < length cpus → MayWrite domain n (slice_index_or cpus i d)

-- a call of it for lock 1, which it did not hold, waits there
pub record IsWaiting (domain : PvDomain) (w : PvWaiter) (cpu : Cpu) : Type 0 where
  pub domain_is : IsOf cpu domain
  pub lock : w.lock.index ≡ 1
  pub start : Start
  pub free : holds_in start.holds 1 ≡ false
  pub waits : Waits domain w start cpu

-- what a turn of it came to
abbrev pub StandsAt : PvDomain → PvTurn → Cpu → Type 0
StandsAt domain Has cpu = HasOne domain cpu
StandsAt domain (Awaits w) cpu = IsWaiting domain w cpu
StandsAt domain (Halts w) cpu = IsWaiting domain w cpu
