-- The first words of the lines of a trace, and where such a line may stand.
use Rattle.std.specs.Prelude.{ℕ, true, List, Option, None, Some, codes, if◌then◌else◌}
use Rattle.std.specs.Str.{bytes_eq}
use Rattle.lk_forms.specs.declared.answers.Fault.{Fault}
use Rattle.lk_forms.specs.declared.order.Order.{Order}
use Rattle.lk_forms.specs.Ranks.{fault_of_ranks}
use Rattle.lk_forms.specs.declared.keyword.Keyword.{Keyword}
use Rattle.lk_forms.specs.declared.keyword.Keyword.TheVariants.{Format, Mode, Cpus, Sockets, Threshold, Spins, Lock, Prog, Irq, Go, Step, Int, Pre, Res, Nudge, End}

-- the keyword that a word is, if it is one
abbrev pub keyword_of : List ℕ → Option Keyword
keyword_of word =
    if bytes_eq word (codes "step") then Some Step
    else if bytes_eq word (codes "int") then Some Int
    else if bytes_eq word (codes "pre") then Some Pre
    else if bytes_eq word (codes "res") then Some Res
    else if bytes_eq word (codes "nudge") then Some Nudge
    else if bytes_eq word (codes "end") then Some End
    else if bytes_eq word (codes "prog") then Some Prog
    else if bytes_eq word (codes "irq") then Some Irq
    else if bytes_eq word (codes "lock") then Some Lock
    else if bytes_eq word (codes "go") then Some Go
    else if bytes_eq word (codes "qtrace") then Some Format
    else if bytes_eq word (codes "mode") then Some Mode
    else if bytes_eq word (codes "cpus") then Some Cpus
    else if bytes_eq word (codes "sockets") then Some Sockets
    else if bytes_eq word (codes "threshold") then Some Threshold
    else if bytes_eq word (codes "spins") then Some Spins
    else None

-- lines come in the order of their ranks
abbrev pub rank_of : Keyword → ℕ
rank_of Format = 0
rank_of Mode = 1
rank_of Cpus = 2
rank_of Sockets = 3
rank_of Threshold = 4
rank_of Spins = 5
rank_of Lock = 6
rank_of Prog = 7
rank_of Irq = 8
rank_of Go = 9
rank_of Step = 10
rank_of Int = 10
rank_of Pre = 10
rank_of Res = 10
rank_of Nudge = 10
rank_of End = 11

-- how the lines stand
abbrev pub order : Order
order = record { begins = true; once = 5; go = 9; end = 11 }

-- what is wrong with the place of a line behind the lines up to one of rank `last`
abbrev pub fault_of_place : ℕ → Keyword → Option Fault
fault_of_place last k = fault_of_ranks order last (rank_of k)
