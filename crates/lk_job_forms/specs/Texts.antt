-- The lines of an outcome. Each ends with a line feed.
use Rattle.std.specs.Prelude.{ℕ, ◌+◌, List, [], ◌∷◌, ◌++◌, codes, decimal, length}
use Rattle.lk_names.specs.declared.ledger.Job.{Job}
use Rattle.lk_names.specs.declared.ledger.Job.TheVariants.{Move, Add, Sum, Get}
use Rattle.lk_names.specs.declared.ledger.Reply.{Reply}
use Rattle.lk_names.specs.declared.ledger.Reply.TheVariants.{Done, Short, Full, Amount}
use Rattle.lk_names.specs.declared.ledger.Entry.{Entry}
use Rattle.lk_names.specs.declared.ledger.Seen.{Seen}

-- the words of a job, as a job file has them
abbrev pub job_text : Job → List ℕ
job_text (Move from to amount) =
    codes "move " ++ (decimal from ++ (codes " " ++ (decimal to ++ (codes " " ++ decimal amount))))
job_text (Add account amount) = codes "add " ++ (decimal account ++ (codes " " ++ decimal amount))
job_text Sum = codes "sum"
job_text (Get account) = codes "get " ++ decimal account

-- what came of it
abbrev pub reply_text : Reply → List ℕ
reply_text Done = codes "ok"
reply_text Short = codes "short"
reply_text Full = codes "full"
reply_text (Amount n) = decimal n

-- a job and what came of it
abbrev pub answered_text : Job → Reply → List ℕ
answered_text job reply = job_text job ++ (codes " " ++ (reply_text reply ++ codes "\n"))

-- the line of an entry of the journal, which has this number, from 1
abbrev pub entry_text : ℕ → Entry → List ℕ
entry_text n entry =
    codes "entry "
    ++ (decimal n
    ++ (codes " "
    ++ (decimal entry.worker ++ (codes " " ++ answered_text entry.job entry.reply))))

-- the line of a read: the worker, the number of its job, and how many entries it saw
abbrev pub seen_text : Seen → List ℕ
seen_text seen =
    codes "read "
    ++ (decimal seen.worker
    ++ (codes " "
    ++ (decimal seen.number
    ++ (codes " " ++ (decimal seen.version ++ (codes " " ++ answered_text seen.job seen.reply))))))

-- the line of an account
abbrev pub balance_text : ℕ → ℕ → List ℕ
balance_text account amount =
    codes "balance " ++ (decimal account ++ (codes " " ++ (decimal amount ++ codes "\n")))

-- the last line: how many entries and reads there are
abbrev pub total_text : ℕ → ℕ → List ℕ
total_text entries reads =
    codes "end " ++ (decimal entries ++ (codes " " ++ (decimal reads ++ codes "\n")))

-- the lines of the entries from the one of this number on
abbrev pub entry_lines_from : ℕ → List Entry → List ℕ
entry_lines_from n [] = []
entry_lines_from n (entry ∷ journal) = entry_text n entry ++ entry_lines_from (n + 1) journal

-- the lines of the reads
abbrev pub seen_lines : List Seen → List ℕ
seen_lines [] = []
seen_lines (seen ∷ reads) = seen_text seen ++ seen_lines reads

-- the lines of the accounts from this one on
abbrev pub balance_lines_from : ℕ → List ℕ → List ℕ
balance_lines_from account [] = []
balance_lines_from account (amount ∷ balances) =
    balance_text account amount ++ balance_lines_from (account + 1) balances

-- the whole text of an outcome
abbrev pub outcome_text : List Entry → List Seen → List ℕ → List ℕ
outcome_text journal reads balances =
    entry_lines_from 1 journal
    ++ (seen_lines reads
    ++ (balance_lines_from 0 balances ++ total_text (length journal) (length reads)))
