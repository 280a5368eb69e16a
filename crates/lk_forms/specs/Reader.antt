-- What a reader of headers has read.
use Rattle.std.specs.Prelude.{◌≡◌, ◌⊎◌, [], Result, Ok, Err, if◌then◌else◌}
use Rattle.lk_forms.specs.Grammar.{Reading, has_go}
use Rattle.lk_forms.specs.declared.answers.HeaderStep.{HeaderStep}
use Rattle.lk_forms.specs.declared.answers.HeaderStep.TheVariants.{More, Go}
use Rattle.lk_forms.specs.declared.answers.LineRefusal.{LineRefusal}
use Rattle.lk_forms.specs.declared.answers.LineRefusal.TheVariants.{Memory}
use Rattle.lk_forms.specs.declared.header.HeaderReader.{HeaderReader}

-- what the lines so far have said: a header has no acts
abbrev pub reading : HeaderReader → Reading
reading reader = record { rank = reader.rank; setup = reader.setup; acts = [] }

-- what an accepted line of the header tells: whether it is `go`
abbrev pub step_of : Reading → HeaderStep
step_of r = if has_go r then Go else More

-- What a reader answers at a line, and what it has read then, where this is what is said behind the lines before: it goes on, and
-- tells the line `go`; or it answers why the line is refused, or that there was no memory, and has read what it had.
abbrev pub ReadsOn : Result Reading LineRefusal → Reading → Reading → Result HeaderStep LineRefusal → Type 0
ReadsOn said old new (Ok step) = (said ≡ Ok new) × (step ≡ step_of new)
ReadsOn said old new (Err why) = (new ≡ old) × ((said ≡ Err why) ⊎ (why ≡ Memory))
