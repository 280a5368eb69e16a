-- The order in which the lines of a grammar stand, by their ranks.
use Rattle.std.specs.Prelude.{ℕ, ◌==◌, ◌&&◌, ◌||◌, not, nat_le, nat_lt, Bool, Option, None, Some, if◌then◌else◌}
use Rattle.lk_forms.specs.declared.answers.Fault.{Fault}
use Rattle.lk_forms.specs.declared.answers.Fault.TheVariants.{Misplaced, Repeated}
use Rattle.lk_forms.specs.declared.order.Order.{Order}

-- Whether a line of a rank may not stand behind the lines up to one of rank `last`: another line
-- comes before the first, a line of a lower rank comes after, a line from behind `go` comes before
-- it, there is a second `go`, or a line comes after the last.
abbrev pub is_misplaced : Order → ℕ → ℕ → Bool
is_misplaced o last rank =
    (o.begins && ((last == 0) && not (rank == 1)))
    || (nat_lt rank last
    || ((nat_lt last o.go && nat_lt o.go rank)
    || (((last == o.go) && (rank == o.go)) || (last == o.end))))

-- whether a line of a rank that may stand once comes a second time
abbrev pub is_repeated : Order → ℕ → ℕ → Bool
is_repeated o last rank = (rank == last) && (nat_le 1 rank && nat_le rank o.once)

-- what is wrong with a line of a rank behind one of rank `last`, if anything is: a second line of
-- the format, of rank 0, is repeated wherever it stands
abbrev pub fault_of_ranks : Order → ℕ → ℕ → Option Fault
fault_of_ranks o last rank =
    if rank == 0 then Some Repeated
    else if is_misplaced o last rank then Some Misplaced
    else if is_repeated o last rank then Some Repeated
    else None
