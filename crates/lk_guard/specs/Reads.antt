-- What a read of the ledger leaves.
use Rattle.std.specs.Prelude.{◌≡◌, ℕ, zero, suc, ◌≤◌, List, [], ◌∷◌, ◌++◌, map, length, Option, None, Some}
use Rattle.lk_names.specs.Jobs.{reply_to}
use Rattle.lk_names.specs.Journal.{balances_after, Replays}
use Rattle.lk_names.specs.declared.ledger.Entry.{Entry}
use Rattle.lk_names.specs.declared.ledger.Job.{Job}
use Rattle.lk_names.specs.declared.ledger.Job.TheVariants.{Move, Add, Sum, Get}
use Rattle.lk_names.specs.declared.ledger.Reply.{Reply}
use Rattle.lk_names.specs.declared.ledger.Reply.TheVariants.{Amount}
use Rattle.lk_domain.specs.Ledgers.{Ledger, Look, loaded, sighted}
use Rattle.lk_domain.specs.Places.{places}
use Rattle.lk_domain.specs.Views.{total}
use Rattle.lk_run.specs.Polls.{IsPolled}
use Rattle.lk_guard.specs.Guards.{Guard, IsToRead}

-- account and amount of a load

abbrev pub account_of : ℕ × ℕ → ℕ
account_of x = x.0

abbrev pub amount_of : ℕ × ℕ → ℕ
amount_of x = x.1

-- the numbers below this one, the greatest first
abbrev pub below : ℕ → List ℕ
below zero = []
below (suc n) = n ∷ below n

-- the accounts that a job asks, of so many, as they are loaded, the newest first
abbrev pub asked : ℕ → Job → List ℕ
asked accounts (Move from to amount) = []
asked accounts (Add account amount) = []
asked accounts Sum = below accounts
asked accounts (Get account) = account ∷ []

-- these are loads of the accounts that the job asks, of so many, and the reply is of them
pub record Answers (accounts : ℕ) (job : Job) (reply : Reply) (loads : List (ℕ × ℕ)) : Type 0 where
  pub are : map account_of loads ≡ asked accounts job
  pub right : reply ≡ Amount (total amount_of loads)

-- One state of the journal has v entries, and with them all entries of the processor, which are its
-- own ones, and on its balances the job has this reply.
pub record ReadsAt (opening : List ℕ) (p v : ℕ) (job : Job) (reply : Reply)
    (own : List (ℕ × Entry)) : Type 0 where
  pub journal : List Entry
  pub replays : Replays opening journal
  pub version : v ≡ length journal
  pub right : reply ≡ reply_to (balances_after opening journal) job
  pub all : own ≡ places p journal

-- The look is one in a hold that was taken for a read. In it the version v was loaded, no less than
-- what the processor had seen, and the balances that the job asks, of which the reply is; and so it
-- is the job's reply on one state of the journal with v entries.
pub record IsRead (h : Guard) (p v : ℕ) (job : Job) (reply : Reply) (g : Ledger)
    (look : Look) : Type 0 where
  pub taken : IsToRead h p look
  pub version : look.version ≡ Some v
  pub answers : Answers (length h.opening) job reply look.loads
  pub seen : g.seen ≤ v
  pub state : ReadsAt h.opening p v job reply g.own

-- what the processor knows of the ledger after a read with this look
abbrev pub after_read : Ledger → ℕ → Look → Ledger
after_read g v look = record g { seen = v; look = None; looks = g.looks ++ look ∷ [] }

-- a read in a hold of its own, which left one look more; while it waited for that hold what
-- interrupts it was polled, which told the first number before and the second one after
pub record HasRead (h : Guard) (p v : ℕ) (job : Job) (reply : Reply) (old new : Ledger)
    (before after : Option ℕ) : Type 0 where
  pub look : Look
  pub read : IsRead h p v job reply old look
  pub ledger : new ≡ after_read old v look
  pub polled : IsPolled look.trail before after

-- these balances are loaded after what was known so, the newest first
abbrev pub all_loaded : Ledger → List (ℕ × ℕ) → Ledger
all_loaded g [] = g
all_loaded g (x ∷ xs) = loaded (all_loaded g xs) x.0 x.1

-- the version and the balances were loaded in the look that is open
pub record HasLooked (opening : List ℕ) (p v : ℕ) (job : Job) (reply : Reply)
    (old new : Ledger) : Type 0 where
  pub loads : List (ℕ × ℕ)
  pub answers : Answers (length opening) job reply loads
  pub ledger : new ≡ all_loaded (sighted old v) loads
  pub seen : old.seen ≤ v
  pub state : ReadsAt opening p v job reply old.own

-- so many balances were loaded, each once, in the look that is open, and this is their sum
pub record HasSummed (accounts sum : ℕ) (old new : Ledger) : Type 0 where
  pub loads : List (ℕ × ℕ)
  pub are : map account_of loads ≡ below accounts
  pub sum_is : sum ≡ total amount_of loads
  pub ledger : new ≡ all_loaded old loads

-- a look is open in which no balance was loaded
pub record IsFreshLook (g : Ledger) : Type 0 where
  pub look : Look
  pub has : g.look ≡ Some look
  pub none : look.loads ≡ []
