-- What a text says as a job file.
use Rattle.std.specs.Prelude.{◌≡◌, ℕ, List, [], Result, Ok, Err}
use Rattle.lk_names.specs.Workload.{Workload, IsLawful}
use Rattle.lk_forms.specs.declared.answers.LineRefusal.{LineRefusal}
use Rattle.lk_stream.specs.Grammar.{Grammar as GrammarOf, Saying, Good, Refused, saying}
use Rattle.lk_job_forms.specs.Grammar.{Reading, nothing_read, read, ending}

-- the grammar of job files: nothing is written while one is read
abbrev pub job_grammar : GrammarOf Reading
job_grammar =
    record {
      start = nothing_read;
      read = read;
      ending = ending;
      text = λ r. [];
      closing = λ r. [];
    }

-- a good text has a workload, and another is refused at a line
abbrev pub said_in : Saying Reading → Result Workload (ℕ × LineRefusal)
said_in (Good r) = Ok r.work
said_in (Refused line why r) = Err (line, why)

-- what a text says as a job file: the workload, or the first line that is refused and why
abbrev pub job_file : List ℕ → Result Workload (ℕ × LineRefusal)
job_file bytes = said_in (saying job_grammar bytes)

-- whatever a text says as a job file is lawful
abbrev pub JobFilesAreLawful : Type 0
JobFilesAreLawful = (bytes : List ℕ) (w : Workload) → job_file bytes ≡ Ok w → IsLawful w
