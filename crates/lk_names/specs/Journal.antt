-- The journal of a ledger: the jobs that changed its balances, in order, with their replies.
use Rattle.std.specs.Prelude.{◌≡◌, Bool, true, false, ℕ, List, [], ◌∷◌, length}
use Rattle.lk_names.specs.declared.ledger.Entry.{Entry}
use Rattle.lk_names.specs.declared.ledger.Job.{Job}
use Rattle.lk_names.specs.declared.ledger.Job.TheVariants.{Move, Add, Sum, Get}
use Rattle.lk_names.specs.Jobs.{after_job, reply_to, IsAmong}

-- a job that may change balances, and so is written into the journal
abbrev pub is_write : Job → Bool
is_write (Move from to amount) = true
is_write (Add account amount) = true
is_write Sum = false
is_write (Get account) = false

-- the balances after these entries, from these opening balances
abbrev pub balances_after : List ℕ → List Entry → List ℕ
balances_after opening [] = opening
balances_after opening (e ∷ journal) = balances_after (after_job opening e.job) journal

-- An entry is right on these balances: its job writes, to accounts that there are, and its reply is
-- what that job answers on them.
pub record IsRight (balances : List ℕ) (e : Entry) : Type 0 where
  pub accounts : IsAmong (length balances) e.job
  pub write : is_write e.job ≡ true
  pub reply : e.reply ≡ reply_to balances e.job

-- the entries replay from these balances: each is right on the balances after those before it
abbrev pub Replays : List ℕ → List Entry → Type 0
Replays opening [] = Unit {0}
Replays opening (e ∷ journal) = IsRight opening e × Replays (after_job opening e.job) journal
