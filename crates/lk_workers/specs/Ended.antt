-- What is read of the end of a domain, of whichever family.
use Rattle.std.specs.Prelude.{◌≡◌, ◌≢◌, ℕ, List, map}
use Rattle.lk_names.specs.Journal.{balances_after}
use Rattle.lk_names.specs.declared.ledger.Entry.{Entry}
use Rattle.lk_names.specs.declared.names.Kind.{Kind}
use Rattle.lk_names.specs.declared.names.Mode.{Mode}
use Rattle.lk_names.specs.declared.names.Mode.TheVariants as mode
use Rattle.lk_domain.specs.Ends.{IsFinal}
use Rattle.lk_domain.specs.Ledgers.{Look}
use Rattle.lk_domain.specs.Plans.{kind_at}
use Rattle.lk_domain.specs.Seats.{ledger_of}
use Rattle.lk_domain.specs.declared.cpu.Cpu.{Cpu}
use Rattle.lk_guard.specs.Idle.{Crew}
use Rattle.lk_workers.specs.declared.ended.Ended.{Ended}
use Rattle.lk_workers.specs.declared.ended.Ended.TheVariants.{Queued, Pv}

-- the journal, and the balances after it
abbrev pub journal_in : Ended → List Entry
journal_in (Queued closed) = closed.journal.items
journal_in (Pv closed) = closed.journal.items

abbrev pub balances_in : Ended → List ℕ
balances_in (Queued closed) = closed.balances.items
balances_in (Pv closed) = closed.balances.items

-- the looks of each processor, in order of their numbers
abbrev pub looks_in : Ended → List (List Look)
looks_in (Queued closed) = map (λ cpu. (ledger_of cpu).looks) closed.cpus.value.items
looks_in (Pv closed) = map (λ cpu. (ledger_of cpu).looks) closed.cpus.value.items

-- it is that of a domain of this mode's family, with this guard
abbrev pub IsEndOf : Mode → Kind → Ended → Type 0
IsEndOf m guard (Queued closed) = (m ≢ mode.Pv) × (closed.mode ≡ m) × (closed.guard ≡ guard)
IsEndOf m guard (Pv closed) = m ≡ mode.Pv

-- it is that of a domain that is closed with these processors
pub record IsEnd (crew : Crew) (cpus : List Cpu) (ended : Ended) : Type 0 where
  pub final : IsFinal crew.plan cpus (journal_in ended)
  pub balances : balances_in ended ≡ balances_after crew.plan.balances.items (journal_in ended)
  pub looks : looks_in ended ≡ map (λ cpu. (ledger_of cpu).looks) cpus
  pub of : IsEndOf crew.plan.mode (kind_at crew.plan 0) ended
