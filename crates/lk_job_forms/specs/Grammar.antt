-- What lines of a job file say, one after the other.
use Rattle.std.specs.Prelude.{◌≡◌, ◌≤◌, ℕ, ◌==◌, Bool, List, [], ◌∷◌, Option, None, Some, Result, Ok, Err, is_some, replicate, unwrap_or, codes, if◌then◌else◌}
use Rattle.std.specs.Str.{bytes_eq}
use Rattle.lk_forms.specs.Words.{words, is_text, is_comment}
use Rattle.lk_names.specs.declared.names.Format.{Format}
use Rattle.lk_names.specs.declared.names.Format.TheVariants.{One}
use Rattle.lk_names.specs.declared.names.Kind.TheVariants.{Spin}
use Rattle.lk_names.specs.declared.names.Mode.TheVariants.{Virt}
use Rattle.lk_names.specs.declared.limits.TheConstants.{MAX_TURNS}
use Rattle.lk_names.specs.Workload.{Workload, job_count, IsLawful}
use Rattle.lk_forms.specs.Grammar.{format_numbered}
use Rattle.lk_forms.specs.Operations.{and_then, unless}
use Rattle.lk_forms.specs.declared.answers.Fault.{Fault}
use Rattle.lk_forms.specs.declared.answers.Fault.TheVariants.{NoFormat, NotText, UnknownWord, NoEnd}
use Rattle.lk_forms.specs.declared.answers.LineRefusal.{LineRefusal}
use Rattle.lk_forms.specs.declared.answers.LineRefusal.TheVariants.{Bad}
use Rattle.lk_job_forms.specs.Keywords.{keyword_of, rank_of, fault_of_place}
use Rattle.lk_job_forms.specs.Lines.{line_args}
use Rattle.lk_job_forms.specs.declared.keyword.Keyword.{Keyword}

-- what no line has said: format 1 stands for the format, and mode `virt` for the mode, until they
-- are said
abbrev pub usual_workload : Workload
usual_workload =
    record {
      format = One;
      mode = Virt;
      guard = Spin;
      sockets = replicate 1 0;
      threshold = MAX_TURNS;
      balances = [];
      jobs = replicate 1 [];
    }

-- what accepted lines have said: the rank of the last one that has a keyword, and the workload
pub record Reading : Type 0 where
  pub rank : Option ℕ
  pub work : Workload

-- before the first line
abbrev pub nothing_read : Reading
nothing_read = record { rank = None; work = usual_workload }

-- the line `end` was accepted
abbrev pub has_end : Reading → Bool
has_end r = unwrap_or r.rank 0 == 8

-- What holds of all that accepted lines say: the workload is lawful, and before the first line `job`
-- there is no job.
pub record IsSound (r : Reading) : Type 0 where
  pub lawful : IsLawful r.work
  pub early : unwrap_or r.rank 0 ≤ 6 → job_count r.work.jobs ≡ 0

-- a line with a keyword that may stand there
abbrev pub read_placed : Reading → Keyword → List (List ℕ) → Result Reading LineRefusal
read_placed r k args =
    and_then (line_args k r.work args) (λ w. Ok (record { rank = Some (rank_of k); work = w }))

-- a line with a keyword, or without one, behind one of rank `last`
abbrev pub read_known : Reading → ℕ → Option Keyword → List (List ℕ) → Result Reading LineRefusal
read_known r last None args = Err (Bad UnknownWord)
read_known r last (Some k) args = unless (fault_of_place last k) (read_placed r k args)

-- the format that the two words `qjobs` and `1`, or `qjobs` and `2`, say
abbrev pub format_said : List ℕ → List (List ℕ) → Option Format
format_said first (version ∷ []) =
    if bytes_eq first (codes "qjobs") then format_numbered version else None
format_said first _ = None

-- what is read by the first line, which says the format
abbrev pub read_format : Reading → Option Format → Result Reading LineRefusal
read_format r None = Err (Bad NoFormat)
read_format r (Some format) =
    Ok (record r { rank = Some 0; work = record r.work { format = format } })

-- a line that is neither blank nor a comment: the first such line has to be the format's
abbrev pub read_ranked : Reading → Option ℕ → List ℕ → List (List ℕ) → Result Reading LineRefusal
read_ranked r None first args = read_format r (format_said first args)
read_ranked r (Some last) first args = read_known r last (keyword_of first) args

abbrev pub read_words : Reading → List (List ℕ) → Result Reading LineRefusal
read_words r [] = Ok r
read_words r (first ∷ args) = if is_comment first then Ok r else read_ranked r r.rank first args

-- what has been said with one more line, without its line feed; or why the line is refused
abbrev pub read : Reading → List ℕ → Result Reading LineRefusal
read r line = if is_text line then read_words r (words line) else Err (Bad NotText)

-- what is wrong where the text ends behind these lines
abbrev pub ending : Reading → Option Fault
ending r =
    if has_end r then None
    else if is_some r.rank then Some NoEnd
    else Some NoFormat
