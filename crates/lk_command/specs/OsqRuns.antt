-- What each status of a run of the optimistic spin queue means, by what is seen of the source and the
-- sink before it and after it.
use Rattle.std.specs.Prelude.{◌≡◌, ◌⊎◌, ℕ, List, Some}
use Rattle.std.specs.Io.KnownBytes.{Keeps}
use Rattle.lk_text.specs.Causes.{Rose}
use Rattle.lk_forms.specs.declared.answers.LineRefusal.{LineRefusal}
use Rattle.lk_forms.specs.declared.answers.LineRefusal.TheVariants.{Bad, Limit}
use Rattle.lk_stream.specs.Outside.{Outside}
use Rattle.lk_stream.specs.Grammar.{Good, Refused, saying}
use Rattle.lk_stream.specs.Outcome.{RefusedAt, CutByRead, CutByWrite, refused_fault}
use Rattle.lk_osq_forms.specs.Grammar.{Said}
use Rattle.lk_osq_forms.specs.Trace.{osq_grammar}
use Rattle.lk_osq_replay.specs.Outcome.{OsqDone}
use Rattle.lk_command.specs.Status.{status_at}
use Rattle.lk_command.specs.declared.status.Status.{Status}
use Rattle.lk_command.specs.declared.status.Status.TheVariants as status

-- The meaning of each status. Done: the sink grew by the text of the history of the acts, and that
-- history is lawful (`OsqDone`).
abbrev pub OsqMeans : Outside → Outside → Status → Type 0
OsqMeans old new status.Done = (acts : ℕ) × OsqDone old new acts
OsqMeans old new status.Usage = ⊥
OsqMeans old new (status.BadInput line why) = RefusedAt osq_grammar old new line (Bad why)
OsqMeans old new (status.Limit line which) = RefusedAt osq_grammar old new line (Limit which)
OsqMeans old new (status.Unlawful line) = ⊥
OsqMeans old new status.ReadFault = CutByRead osq_grammar old new
OsqMeans old new status.WriteFault = CutByWrite osq_grammar old new
OsqMeans old new status.Memory = Keeps old.held new.held

-- What a run comes to: what its status means; a good input is run whole, and another refused at its
-- first line that is refused, where neither count of faults rose and there is memory.
pub record OsqRuns (old new : Outside) (came : Status) : Type 0 where
  pub means : OsqMeans old new came
  pub complete : (bytes : List ℕ) (said : Said) → old.left ≡ Some bytes
      → saying osq_grammar bytes ≡ Good said
      → ¬ Rose old.reads new.reads → ¬ Rose old.writes new.writes
      → (came ≡ status.Done) ⊎ (came ≡ status.Memory)
  pub exact : (bytes : List ℕ) (line : ℕ) (why : LineRefusal) (said : Said)
      → old.left ≡ Some bytes → saying osq_grammar bytes ≡ Refused line why said
      → ¬ Rose old.reads new.reads → ¬ Rose old.writes new.writes
      → (came ≡ status_at (refused_fault line why)) ⊎ (came ≡ status.Memory)
