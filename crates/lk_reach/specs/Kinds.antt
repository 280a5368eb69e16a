-- The kinds of events, by their numbers.
use Rattle.std.specs.Prelude.{ℕ, None, Some}
use Rattle.std.proofs.Common.{zero, suc}
use Rattle.lk_names.specs.declared.events.How.{How}
use Rattle.lk_names.specs.declared.events.How.TheVariants as how
use Rattle.lk_names.specs.declared.events.RwHow.{RwHow}
use Rattle.lk_names.specs.declared.events.RwHow.TheVariants as rw_how
use Rattle.lk_names.specs.declared.events.What.{What}
use Rattle.lk_names.specs.declared.events.What.TheVariants as what

abbrev pub take_kind : How → ℕ
take_kind how.Fast = 0
take_kind how.Try = 1
take_kind how.Pending = 2
take_kind how.Virt = 3
take_kind how.Retry = 4
take_kind how.NoNode = 5
take_kind how.Steal = 6
take_kind how.Head = 7
take_kind how.Sole = 8

-- the first kind of an acquisition of readers, or of writers, and how many more
abbrev pub rw_kind : ℕ → RwHow → ℕ
rw_kind first rw_how.Fast = first
rw_kind first rw_how.Irq = suc first
rw_kind first rw_how.Queued = suc (suc first)
rw_kind first rw_how.Try = suc (suc (suc first))

abbrev pub kind_value : What → ℕ
kind_value (what.Take l h) = take_kind h
kind_value (what.Miss l) = 9
kind_value (what.Release l None) = 10
kind_value (what.Release l (Some p)) = 11
kind_value (what.Kick p) = 12
kind_value (what.Arrive l) = 13
kind_value (what.Pass l to zero) = 14
kind_value (what.Pass l to (suc k)) = 15
kind_value (what.Flush l) = 16
kind_value (what.Promote l) = 17
kind_value (what.Leave l) = 18
kind_value (what.Halt l) = 19
kind_value (what.Wake l) = 20
kind_value what.Int = 21
kind_value what.Nudge = 22
kind_value (what.RTake l h) = rw_kind 23 h
kind_value (what.RRelease l) = 27
kind_value (what.WTake l h) = rw_kind 28 h
kind_value (what.WRelease l) = 32
