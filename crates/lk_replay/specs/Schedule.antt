-- What a line of the schedule says.
use Rattle.std.specs.Prelude.{Bool, true, false, List, [], replicate}
use Rattle.lk_names.specs.declared.events.Act.{Act}
use Rattle.lk_forms.specs.declared.answers.Sched.{Sched}
use Rattle.lk_forms.specs.declared.answers.Sched.TheVariants.{Blank, Run, End}

-- the acts of a line
abbrev pub acts_said : Sched → List Act
acts_said Blank = []
acts_said (Run act times) = replicate times act
acts_said End = []

-- the line is `end`
abbrev pub is_end : Sched → Bool
is_end End = true
is_end _ = false
