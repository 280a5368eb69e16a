-- The first words of the lines, and where such a line may stand.
use Rattle.std.specs.Prelude.{ℕ, false, List, Option, None, Some, codes, if◌then◌else◌}
use Rattle.std.specs.Str.{bytes_eq}
use Rattle.lk_forms.specs.declared.answers.Fault.{Fault}
use Rattle.lk_forms.specs.declared.order.Order.{Order}
use Rattle.lk_forms.specs.Ranks.{fault_of_ranks}
use Rattle.lk_osq_forms.specs.declared.keyword.Keyword.{Keyword}
use Rattle.lk_osq_forms.specs.declared.keyword.Keyword.TheVariants.{Format, Cpus, Prog, Go, Step, Give, End}

-- the keyword that a word is, if it is one
abbrev pub keyword_of : List ℕ → Option Keyword
keyword_of word =
    if bytes_eq word (codes "step") then Some Step
    else if bytes_eq word (codes "give") then Some Give
    else if bytes_eq word (codes "end") then Some End
    else if bytes_eq word (codes "prog") then Some Prog
    else if bytes_eq word (codes "cpus") then Some Cpus
    else if bytes_eq word (codes "go") then Some Go
    else if bytes_eq word (codes "qosq") then Some Format
    else None

-- lines come in the order of their ranks
abbrev pub rank_of : Keyword → ℕ
rank_of Format = 0
rank_of Cpus = 1
rank_of Prog = 2
rank_of Go = 3
rank_of Step = 4
rank_of Give = 4
rank_of End = 5

-- how the lines stand
abbrev pub order : Order
order = record { begins = false; once = 1; go = 3; end = 5 }

-- what is wrong with the place of a line behind the lines up to one of rank `last`
abbrev pub fault_of_place : ℕ → Keyword → Option Fault
fault_of_place last k = fault_of_ranks order last (rank_of k)
