-- What is read of a plan, and when a domain may be made of it.
use Rattle.std.specs.Prelude.{◌≡◌, ◌<◌, ◌≤◌, ℕ, false, true, length, slice_index, slice_index_or}
use Rattle.std.specs.Prelude.{if◌then◌else◌}
use Rattle.lk_names.specs.declared.names.Mode.{Mode}
use Rattle.std.specs.List.{sum}
use Rattle.lk_names.specs.Jobs.{full}
use Rattle.lk_names.specs.declared.names.Kind.{Kind}
use Rattle.lk_names.specs.declared.names.Kind.TheVariants.{Spin}
use Rattle.lk_word.specs.declared.spin_word.Layout.{Layout}
use Rattle.lk_rows.specs.Layouts.{layout_of}
use Rattle.lk_law.specs.Agree.{halts}
use Rattle.lk_domain.specs.declared.plan.Plan.{Plan}
use Rattle.lk_domain.specs.declared.plan.TheConstants.{MOST_CPUS, MOST_LOCKS}

-- how many processors, locks and accounts there are
abbrev pub cpus_of : Plan → ℕ
cpus_of k = length k.topology.sockets.items

abbrev pub locks_of : Plan → ℕ
locks_of k = length k.locks.items

abbrev pub accounts_of : Plan → ℕ
accounts_of k = length k.balances.items

-- how the words of its locks are laid out
abbrev pub layout_in : Plan → Layout
layout_in k = layout_of k.format

-- the kind of a lock
abbrev pub kind_at : Plan → ℕ → Kind
kind_at k i = slice_index_or k.locks.items i Spin

-- how many entries a processor may write
abbrev pub share_of : Plan → ℕ → ℕ
share_of k p = slice_index k.shares.items p

-- how many entries all processors may write: the room of the journal
abbrev pub room_of : Plan → ℕ
room_of k = sum k.shares.items

-- How many turns a waiter spins before it halts. Where processors halt the plan's threshold says it,
-- which no row of that family reads; where none halts nobody counts turns.
abbrev pub turns_by : Mode → ℕ → ℕ
turns_by mode n = if halts mode then n else 1

abbrev pub turns_of : Plan → ℕ
turns_of k = turns_by k.mode k.threshold

-- A plan by which a table runs, in each family: as for a domain that halts no processor; and where
-- processors halt all locks are spinlocks, and a waiter spins for one turn at least.
pub record IsRunningPlan (k : Plan) : Type 0 where
  pub some : 0 < cpus_of k
  pub cpus : cpus_of k ≤ MOST_CPUS
  pub any : 0 < locks_of k
  pub locks : locks_of k ≤ MOST_LOCKS
  pub accounts : accounts_of k ≤ 64
  pub small : sum k.balances.items < full
  pub shares : length k.shares.items ≡ cpus_of k
  pub turns : 0 < turns_of k
  pub spins : halts k.mode ≡ true → (l : ℕ) → kind_at k l ≡ Spin

-- A plan of which a domain may be made: some processors, each with a share, some locks, and no more of
-- them than a domain may have, and at most 64 balances below the limit.
pub record IsLawfulPlan (k : Plan) : Type 0 where
  pub awake : halts k.mode ≡ false
  pub some : 0 < cpus_of k
  pub cpus : cpus_of k ≤ MOST_CPUS
  pub any : 0 < locks_of k
  pub locks : locks_of k ≤ MOST_LOCKS
  pub accounts : accounts_of k ≤ 64
  pub small : sum k.balances.items < full
  pub shares : length k.shares.items ≡ cpus_of k

-- the two plans are the same, but for the room of their lists
pub record IsSamePlan (k j : Plan) : Type 0 where
  pub format : k.format ≡ j.format
  pub mode : k.mode ≡ j.mode
  pub sockets : k.topology.sockets.items ≡ j.topology.sockets.items
  pub threshold : k.threshold ≡ j.threshold
  pub locks : k.locks.items ≡ j.locks.items
  pub balances : k.balances.items ≡ j.balances.items
  pub shares : k.shares.items ≡ j.shares.items
