-- What the jobs of a ledger make of the balances, and what they answer.
use Rattle.std.specs.Prelude.{ℕ, ◌+◌, ◌-◌, ◌^◌, ◌<◌, Bool, List, nat_lt, slice_index, slice_set, if◌then◌else◌}
use Rattle.std.specs.List.{sum}
use Rattle.lk_names.specs.declared.ledger.Job.{Job}
use Rattle.lk_names.specs.declared.ledger.Job.TheVariants.{Move, Add, Sum, Get}
use Rattle.lk_names.specs.declared.ledger.Reply.{Reply}
use Rattle.lk_names.specs.declared.ledger.Reply.TheVariants.{Done, Short, Full, Amount}

-- the limit that no sum of balances reaches
abbrev pub full : ℕ
full = 2 ^ 63

-- the balances with so much more on one account
abbrev pub given : List ℕ → ℕ → ℕ → List ℕ
given balances account amount = slice_set balances account (slice_index balances account + amount)

-- the balances with so much less on one account
abbrev pub taken : List ℕ → ℕ → ℕ → List ℕ
taken balances account amount = slice_set balances account (slice_index balances account - amount)

-- whether an account has less than the amount
abbrev pub is_short : List ℕ → ℕ → ℕ → Bool
is_short balances account amount = nat_lt (slice_index balances account) amount

-- whether the sum stays below the limit with so much more
abbrev pub has_room : List ℕ → ℕ → Bool
has_room balances amount = nat_lt (sum balances + amount) full

-- The balances after a job. A move takes the amount from one account, and then gives it to the other, if the first has as much;
-- from an account to itself nothing changes so. An addition is made if the sum stays below the limit.
abbrev pub after_job : List ℕ → Job → List ℕ
after_job balances (Move from to amount) =
    if is_short balances from amount then balances else given (taken balances from amount) to amount
after_job balances (Add account amount) =
    if has_room balances amount then given balances account amount else balances
after_job balances Sum = balances
after_job balances (Get account) = balances

-- what a job answers on these balances
abbrev pub reply_to : List ℕ → Job → Reply
reply_to balances (Move from to amount) = if is_short balances from amount then Short else Done
reply_to balances (Add account amount) = if has_room balances amount then Done else Full
reply_to balances Sum = Amount (sum balances)
reply_to balances (Get account) = Amount (slice_index balances account)

-- each account of the job is one of so many
abbrev pub IsAmong : ℕ → Job → Type 0
IsAmong count (Move from to amount) = (from < count) × (to < count)
IsAmong count (Add account amount) = account < count
IsAmong count Sum = Unit {0}
IsAmong count (Get account) = account < count
