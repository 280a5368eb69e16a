-- When a script has obeyed lines that say something.
use Rattle.std.specs.Prelude.{◌≡◌, ℕ, false, List, [], Option, None, Some, Result, Ok, Err, ⊤}
use Rattle.lk_forms.specs.declared.answers.LineRefusal.{LineRefusal}
use Rattle.lk_forms.specs.declared.answers.LineRefusal.TheVariants.{Bad, Limit, Memory}
use Rattle.lk_osq_forms.specs.Grammar.{Said, Schedule, read}
use Rattle.lk_osq_forms.specs.Reader.{said_by}
use Rattle.lk_osq_forms.specs.declared.header.OsqHeader.{OsqHeader}
use Rattle.lk_osq_replay.specs.Run.{RunShows}
use Rattle.lk_osq_replay.specs.declared.run.Run.{Run}
use Rattle.lk_osq_replay.specs.declared.script.Stage.{Stage}
use Rattle.lk_osq_replay.specs.declared.script.Stage.TheVariants.{Reads, Runs}

abbrev pub StageShows : Stage → Said → Type 0
StageShows (Reads header) said = said_by header ≡ said
StageShows (Runs run) said = RunShows run said

-- no run has begun
abbrev pub IsInHeader : Stage → Type 0
IsInHeader (Reads header) = ⊤
IsInHeader (Runs run) = ⊥

-- how many acts were made
abbrev pub acts_of : Stage → ℕ
acts_of (Reads header) = 0
acts_of (Runs run) = run.acts

-- What a line of the header comes to: the header says more, or at `go` a run begins; or the line is
-- refused.
abbrev pub Begins : OsqHeader → OsqHeader → List ℕ → Result (Option Run) LineRefusal → Type 0
Begins old new line (Ok None) = read (said_by old) line ≡ Ok (said_by new)
Begins old new line (Ok (Some run)) = (rounds : List ℕ)
    × (read (said_by old) line ≡ Ok (Schedule rounds [] false))
    × RunShows run (Schedule rounds [] false)
Begins old new line (Err (Bad why)) = read (said_by old) line ≡ Err (Bad why)
Begins old new line (Err (Limit which)) = read (said_by old) line ≡ Err (Limit which)
Begins old new line (Err Memory) = Unit {0}
