-- Each text of an outcome determines what it tells.
use Rattle.std.specs.Prelude.{◌≡◌, ◌<◌, ◌^◌, ◌+◌, ⊤, ℕ, List, [], ◌∷◌, length}
use Rattle.lk_names.specs.declared.ledger.Job.{Job}
use Rattle.lk_names.specs.declared.ledger.Job.TheVariants.{Move, Add, Sum, Get}
use Rattle.lk_names.specs.declared.ledger.Reply.{Reply}
use Rattle.lk_names.specs.declared.ledger.Reply.TheVariants.{Amount}
use Rattle.lk_names.specs.declared.ledger.Entry.{Entry}
use Rattle.lk_names.specs.declared.ledger.Seen.{Seen}
use Rattle.lk_names.specs.Workload.{Workload}
use Rattle.lk_names.specs.Outcome.{IsOutcome}
use Rattle.lk_job_forms.specs.Texts.{entry_text, seen_text, balance_text, total_text, outcome_text}

-- numbers of 64 bits, as all of the code are

abbrev pub IsSmallJob : Job → Type 0
IsSmallJob (Move from to amount) = (from < 2 ^ 64) × (to < 2 ^ 64) × (amount < 2 ^ 64)
IsSmallJob (Add account amount) = (account < 2 ^ 64) × (amount < 2 ^ 64)
IsSmallJob Sum = ⊤
IsSmallJob (Get account) = account < 2 ^ 64

abbrev pub IsSmallReply : Reply → Type 0
IsSmallReply (Amount n) = n < 2 ^ 64
IsSmallReply _ = ⊤

abbrev pub IsSmallEntry : Entry → Type 0
IsSmallEntry e = (e.worker < 2 ^ 64) × IsSmallJob e.job × IsSmallReply e.reply

abbrev pub IsSmallSeen : Seen → Type 0
IsSmallSeen r =
    (r.worker < 2 ^ 64) × (r.number < 2 ^ 64) × (r.version < 2 ^ 64) × IsSmallJob r.job
    × IsSmallReply r.reply

-- The line of an entry tells its place in the journal, the worker, the job and the reply; and not
-- the number of the job.
pub record IsToldEntry (e f : Entry) : Type 0 where
  pub worker : e.worker ≡ f.worker
  pub job : e.job ≡ f.job
  pub reply : e.reply ≡ f.reply

abbrev pub EntriesAreTold : Type 0
EntriesAreTold =
    (m n : ℕ) (e f : Entry) → m < 2 ^ 64 → n < 2 ^ 64 → IsSmallEntry e → IsSmallEntry f
    → entry_text m e ≡ entry_text n f → (m ≡ n) × IsToldEntry e f

-- the line of a read tells the whole record
abbrev pub ReadsAreTold : Type 0
ReadsAreTold =
    (r s : Seen) → IsSmallSeen r → IsSmallSeen s → seen_text r ≡ seen_text s → r ≡ s

-- the line of an account tells the account and its balance
abbrev pub BalancesAreTold : Type 0
BalancesAreTold =
    (a b m n : ℕ) → a < 2 ^ 64 → b < 2 ^ 64 → m < 2 ^ 64 → n < 2 ^ 64
    → balance_text a m ≡ balance_text b n → (a ≡ b) × (m ≡ n)

-- the last line tells how many entries and how many reads there are
abbrev pub TotalsAreTold : Type 0
TotalsAreTold =
    (a b m n : ℕ) → a < 2 ^ 64 → b < 2 ^ 64 → m < 2 ^ 64 → n < 2 ^ 64
    → total_text a m ≡ total_text b n → (a ≡ b) × (m ≡ n)

abbrev pub AreSmallEntries : List Entry → Type 0
AreSmallEntries [] = ⊤
AreSmallEntries (e ∷ journal) = IsSmallEntry e × AreSmallEntries journal

abbrev pub AreSmallReads : List Seen → Type 0
AreSmallReads [] = ⊤
AreSmallReads (r ∷ reads) = IsSmallSeen r × AreSmallReads reads

abbrev pub AreSmallBalances : List ℕ → Type 0
AreSmallBalances [] = ⊤
AreSmallBalances (b ∷ balances) = (b < 2 ^ 64) × AreSmallBalances balances

-- all numbers of an outcome, and how many lines of each sort there are
pub record IsSmall (journal : List Entry) (reads : List Seen) (balances : List ℕ) : Type 0 where
  pub entries : AreSmallEntries journal
  pub records : AreSmallReads reads
  pub amounts : AreSmallBalances balances
  pub lines : length journal + length reads + length balances < 2 ^ 63

-- The text of an outcome tells all of it, whatever job file it came of: the number of an entry's
-- job is not written, but a worker's jobs are numbered from 1, and its reads show their numbers.
abbrev pub OutcomesAreTold : Type 0
OutcomesAreTold =
    (work other : Workload) (js ks : List Entry) (rs ss : List Seen) (bs cs : List ℕ)
    → IsOutcome work js rs bs → IsOutcome other ks ss cs → IsSmall js rs bs → IsSmall ks ss cs
    → outcome_text js rs bs ≡ outcome_text ks ss cs → (js ≡ ks) × (rs ≡ ss) × (bs ≡ cs)
