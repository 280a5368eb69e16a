-- What contracts of the calls say of a processor and its domain.
use Rattle.std.specs.Prelude.{◌≡◌, ℕ, ◌+◌, ◌<◌, false, length}
use Rattle.lk_names.specs.declared.holder.Manner.{Manner}
use Rattle.lk_rows.specs.declared.parts.Pc.{Pc}
use Rattle.lk_rows.specs.declared.setup.Verb.{Verb}
use Rattle.lk_domain.specs.Calls.{terms_of, Calls, Takes, Frees, holds_in, waits_in, lock_name}
use Rattle.lk_domain.specs.Ledgers.{turned}
use Rattle.lk_domain.specs.Paths.{HasTaken, HasMissed, HasFreed, Any}
use Rattle.lk_domain.specs.Seats.{calls_of, ledger_of}
use Rattle.lk_domain.specs.Standing.{IsAt}
use Rattle.lk_domain.specs.declared.cpu.Cpu.{Cpu}
use Rattle.lk_domain.specs.declared.domain.Domain.{Domain}

-- a call that takes the lock may begin
pub record MayTake (l : ℕ) (c : Calls) : Type 0 where
  pub few : length c.frames < 6
  pub free : holds_in c.holds l ≡ false
  pub fresh : waits_in c.frames l ≡ false

-- the call v on l, which began where the calls were the old ones, stands at the row
abbrev pub WaitsAt : Domain → Verb → ℕ → Pc → Calls → Cpu → Type 0
WaitsAt domain v l c old cpu = IsAt (terms_of domain.plan) cpu.number v l c Any old (calls_of cpu)

-- a step by which the call comes to the row
pub record Moves (domain : Domain) (v : Verb) (l : ℕ) (c : Pc) (old : Calls)
    (before after : Cpu) : Type 0 where
  pub waits : WaitsAt domain v l c old after
  pub ledger : ledger_of after ≡ ledger_of before

-- one by which it takes the lock, the only one that was taken since it began
pub record Gains (domain : Domain) (v : Verb) (l : ℕ) (manner : Manner) (old : Calls)
    (before after : Cpu) : Type 0 where
  pub taken : HasTaken (terms_of domain.plan) after.number v l manner old (calls_of after)
  pub once : (calls_of after).taken ≡ old.taken + 1
  pub ledger : ledger_of after
      ≡ turned (ledger_of before) (lock_name l) (Takes manner) (calls_of after).last

-- one by which it misses the lock
pub record Misses (domain : Domain) (v : Verb) (l : ℕ) (old : Calls)
    (before after : Cpu) : Type 0 where
  pub missed : HasMissed (terms_of domain.plan) after.number v l old (calls_of after)
  pub ledger : ledger_of after ≡ ledger_of before

-- one by which it frees the lock
pub record Drops (l : ℕ) (before after : Cpu) : Type 0 where
  pub freed : HasFreed l (calls_of before) (calls_of after)
  pub ledger : ledger_of after
      ≡ turned (ledger_of before) (lock_name l) Frees (calls_of after).last
