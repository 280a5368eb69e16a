-- What a reader of job files has read.
use Rattle.std.specs.Prelude.{◌≡◌, ◌⊎◌, Result, Ok, Err, if◌then◌else◌}
use Rattle.lk_forms.specs.declared.answers.LineRefusal.{LineRefusal}
use Rattle.lk_forms.specs.declared.answers.LineRefusal.TheVariants.{Memory}
use Rattle.lk_job_forms.specs.Draft.{work_of}
use Rattle.lk_job_forms.specs.Grammar.{Reading, has_end}
use Rattle.lk_job_forms.specs.declared.answers.JobStep.{JobStep}
use Rattle.lk_job_forms.specs.declared.answers.JobStep.TheVariants.{More, End}
use Rattle.lk_job_forms.specs.declared.reader.JobReader.{JobReader}

-- what the lines so far have said
abbrev pub reading : JobReader → Reading
reading reader = record { rank = reader.rank; work = work_of reader.draft }

abbrev pub step_of : Reading → JobStep
step_of r = if has_end r then End else More

-- What a reader answers at a line, and what it has read then, where this is said with that line.
abbrev pub ReadsOn : Result Reading LineRefusal → Reading → Reading → Result JobStep LineRefusal
    → Type 0
ReadsOn said old new (Ok step) = (said ≡ Ok new) × (step ≡ step_of new)
ReadsOn said old new (Err why) = (new ≡ old) × ((said ≡ Err why) ⊎ (why ≡ Memory))
