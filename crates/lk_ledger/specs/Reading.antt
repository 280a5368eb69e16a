-- What each answer to a job file means, by what the source has left before it and after it, and by
-- its count of faults.
use Rattle.std.specs.Prelude.{◌≡◌, ◌++◌, ℕ, List, [], Option, Result, Ok, Err, IfSome, ⊤, refl}
use Rattle.std.specs.Io.KnownBytes.{IsAtEnd}
use Rattle.lk_names.specs.Workload.{Workload, workload_of}
use Rattle.lk_names.specs.declared.job_file.JobFile.{JobFile}
use Rattle.lk_text.specs.Causes.{Rose}
use Rattle.lk_forms.specs.declared.answers.LineRefusal.{LineRefusal}
use Rattle.lk_forms.specs.declared.answers.LineRefusal.TheVariants.{Bad, Limit}
use Rattle.lk_stream.specs.declared.answers.ReplayFault.{ReplayFault}
use Rattle.lk_stream.specs.declared.answers.ReplayFault.TheVariants as fault
use Rattle.lk_job_forms.specs.Grammar.{Reading}
use Rattle.lk_job_forms.specs.JobFile.{job_file, job_grammar}

-- a known text says this workload as a job file
abbrev pub SaysJobs : Option (List ℕ) → Workload → Type 0
SaysJobs input work = IfSome input (λ bytes. job_file bytes ≡ Ok work)

-- a known text is refused at this line
abbrev pub IsRefused : Option (List ℕ) → ℕ → LineRefusal → Type 0
IsRefused input line why = IfSome input (λ bytes. job_file bytes ≡ Err (line, why))

-- the text says this workload, and it was read to its end
pub record IsRead (input left : Option (List ℕ)) (work : Workload) : Type 0 where
  pub says : SaysJobs input work
  pub all_read : IsAtEnd left

-- the meaning of each answer
abbrev pub Reads : Option (List ℕ) → Option (List ℕ) → ℕ → ℕ → Result JobFile ReplayFault → Type 0
Reads input left reads reads_now (Ok file) = IsRead input left (workload_of file)
Reads input left reads reads_now (Err (fault.BadInput line why)) = IsRefused input line (Bad why)
Reads input left reads reads_now (Err (fault.Limit line which)) =
    IsRefused input line (Limit which)
Reads input left reads reads_now (Err fault.ReadFault) = Rose reads reads_now
Reads input left reads reads_now (Err fault.WriteFault) = ⊥
Reads input left reads reads_now (Err fault.Memory) = ⊤

-- nothing is written for lines, also where one more is accepted
pub nothing_grows : (before said : Reading) (line : List ℕ) → job_grammar.read before line ≡ Ok said
    → (more : List ℕ) × (job_grammar.text said ≡ job_grammar.text before ++ more)
nothing_grows before said line is = ([], refl)
