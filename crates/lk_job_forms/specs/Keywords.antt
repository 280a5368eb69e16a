-- The first words of the lines of a job file, and where such a line may stand.
use Rattle.std.specs.Prelude.{ℕ, true, List, Option, None, Some, codes, if◌then◌else◌}
use Rattle.std.specs.Str.{bytes_eq}
use Rattle.lk_forms.specs.declared.answers.Fault.{Fault}
use Rattle.lk_forms.specs.declared.order.Order.{Order}
use Rattle.lk_forms.specs.Ranks.{fault_of_ranks}
use Rattle.lk_job_forms.specs.declared.keyword.Keyword.{Keyword}
use Rattle.lk_job_forms.specs.declared.keyword.Keyword.TheVariants.{Format, Mode, Guard, Workers, Sockets, Threshold, Accounts, Job, End}

-- the keyword that a word is, if it is one
abbrev pub keyword_of : List ℕ → Option Keyword
keyword_of word =
    if bytes_eq word (codes "job") then Some Job
    else if bytes_eq word (codes "end") then Some End
    else if bytes_eq word (codes "qjobs") then Some Format
    else if bytes_eq word (codes "mode") then Some Mode
    else if bytes_eq word (codes "guard") then Some Guard
    else if bytes_eq word (codes "workers") then Some Workers
    else if bytes_eq word (codes "sockets") then Some Sockets
    else if bytes_eq word (codes "threshold") then Some Threshold
    else if bytes_eq word (codes "accounts") then Some Accounts
    else None

-- lines come in the order of their ranks
abbrev pub rank_of : Keyword → ℕ
rank_of Format = 0
rank_of Mode = 1
rank_of Guard = 2
rank_of Workers = 3
rank_of Sockets = 4
rank_of Threshold = 5
rank_of Accounts = 6
rank_of Job = 7
rank_of End = 8

-- how the lines stand
abbrev pub order : Order
order = record { begins = true; once = 6; go = 8; end = 8 }

-- what is wrong with the place of a line behind the lines up to one of rank `last`
abbrev pub fault_of_place : ℕ → Keyword → Option Fault
fault_of_place last k = fault_of_ranks order last (rank_of k)
