-- What a whole text says as a job file is lawful.
use Rattle.std.proofs.Common.{◌+◌, ◌&&◌, ℕ, Bool, true, false, List, [], ◌∷◌, Option, None, Some, Result, Ok, Err, IfOk, length, nat_le, nat_lt, if◌then◌else◌}
use Rattle.std.proofs.lemmas.Result.{IfOk-at_ok}
use Rattle.lk_names.specs.Workload.{IsLawful}
use Rattle.lk_text.specs.Feeds.{pieces, line_of}
use Rattle.lk_text.specs.declared.reader.TheConstants.{MAX_INPUT, MAX_LINE}
use Rattle.lk_forms.specs.declared.answers.Fault.{Fault}
use Rattle.lk_forms.specs.declared.answers.LineRefusal.{LineRefusal}
use Rattle.lk_forms.specs.declared.answers.LineRefusal.TheVariants.{Limit}
use Rattle.lk_forms.specs.declared.answers.Which.TheVariants.{Line, Input}
use Rattle.lk_stream.specs.Grammar.{Place, says_from, says_at_end, next_place, placed, unless_refused, first_place}
use Rattle.lk_job_forms.specs.Grammar.{Reading, IsSound, read, ending}
use Rattle.lk_job_forms.specs.JobFile.{job_grammar, said_in, JobFilesAreLawful}
use Rattle.lk_job_forms.proofs.Lawful.{read_sound, first_sound}

place_sound : (p : Place Reading) (piece : List ℕ) → IsSound p.said → IfOk (next_place job_grammar p piece) (λ q. IsSound q.said)
place_sound p piece sound = by_tests (nat_lt MAX_LINE (length (line_of piece)) && nat_le (p.bytes + MAX_LINE) MAX_INPUT) (nat_lt MAX_INPUT (p.bytes + length piece)) (read p.said (line_of piece)) (read_sound p.said (line_of piece) sound)
  where
    by_read : (x : Result Reading LineRefusal) → IfOk x IsSound → IfOk (placed p piece x) (λ q. IsSound q.said)
    by_read (Ok r) good = good
    by_read (Err why) good = tt

    by_tests : (b c : Bool) (x : Result Reading LineRefusal) → IfOk x IsSound → IfOk (if b then Err (Limit Line) else if c then Err (Limit Input) else placed p piece x) (λ q. IsSound q.said)
    by_tests true c x good = tt
    by_tests false true x good = tt
    by_tests false false x good = by_read x good

from_sound : (p : Place Reading) (rest : List (List ℕ)) → IsSound p.said → IfOk (said_in (says_from job_grammar p rest)) IsLawful
from_sound p [] sound = by_end (ending p.said)
  where
    by_end : (o : Option Fault) → IfOk (said_in (says_at_end p o)) IsLawful
    by_end None = sound.lawful
    by_end (Some fault) = tt
from_sound p (piece ∷ rest) sound = by_place (next_place job_grammar p piece) (place_sound p piece sound) (λ q good. from_sound q rest good)
  where
    by_place : (x : Result (Place Reading) LineRefusal) → IfOk x (λ q. IsSound q.said) → ((q : Place Reading) → IsSound q.said → IfOk (said_in (says_from job_grammar q rest)) IsLawful)
        → IfOk (said_in (unless_refused p x (λ q. says_from job_grammar q rest))) IsLawful
    by_place (Ok q) good later = later q good
    by_place (Err why) good later = tt

pub files_lawful : JobFilesAreLawful
files_lawful bytes w is = IfOk-at_ok IsLawful is (from_sound (first_place job_grammar) (pieces bytes) first_sound)
