-- What each status of a replay means.
use Rattle.std.specs.Prelude.{◌≡◌, ◌↔◌, ◌⊎◌, ℕ, List, Option, None, Some, Err}
use Rattle.std.specs.Io.KnownBytes.{Appends}
use Rattle.lk_names.specs.declared.events.Act.{Act}
use Rattle.lk_rows.specs.declared.setup.Setup.{Setup}
use Rattle.lk_text.specs.Causes.{Rose}
use Rattle.lk_text.specs.Bytes.{AppendsFront}
use Rattle.lk_forms.specs.Trace.{Good, Refused, trace}
use Rattle.lk_forms.specs.declared.answers.LineRefusal.{LineRefusal}
use Rattle.lk_forms.specs.declared.answers.LineRefusal.TheVariants.{Bad, Limit}
use Rattle.lk_stream.specs.Outside.{Outside}
use Rattle.lk_replay.specs.Outcome.{Replayed, RefusedAt, CutByRead, CutByWrite, Unwritten}
use Rattle.lk_stream.specs.Outcome.{refused_fault}
use Rattle.lk_replay.specs.Transcript.{counts_of_run}
use Rattle.lk_replay.specs.declared.answers.Summary.{Summary}
use Rattle.lk_forms.specs.Texts.{closing}
use Rattle.lk_gen.specs.Generated.{generated, generated_setup, generated_acts}
use Rattle.lk_words.specs.declared.asked.Reading.{Reading}
use Rattle.lk_words.specs.declared.asked.Reading.TheVariants.{Replay, Osq, Audit, Ledger, Gen, Load}
use Rattle.lk_command.specs.Args.{AsksNothing}
use Rattle.lk_command.specs.OsqRuns.{OsqRuns}
use Rattle.lk_command.specs.Audits.{Audits}
use Rattle.lk_command.specs.Ledgers.{Ledgers}
use Rattle.lk_command.specs.Status.{note_of, status_of}
use Rattle.lk_command.specs.declared.status.Status.{Status}
use Rattle.lk_command.specs.declared.status.Status.TheVariants as status

-- The meaning of the status of a replay: by what is seen of the source and the sink before it and after it.
abbrev pub Means : Outside → Outside → Status → Type 0
Means old new status.Done = (summary : Summary) × Replayed old new summary
Means old new status.Usage = ⊥
Means old new (status.BadInput line why) = RefusedAt old new line (Bad why)
Means old new (status.Limit line which) = RefusedAt old new line (Limit which)
Means old new (status.Unlawful line) = ⊥
Means old new status.ReadFault = CutByRead old new
Means old new status.WriteFault = CutByWrite old new
Means old new status.Memory = Unwritten old new

-- The meaning of the status of a text that is written to the sink: it was written; or a write of it failed, and a front of it was
-- written; or there was no memory, and nothing was. There is no other status.
abbrev pub Writes : Outside → Outside → List ℕ → Status → Type 0
Writes old new text status.Done = Appends old.held new.held text
Writes old new text status.WriteFault = Rose old.writes new.writes × AppendsFront old.held new.held text
Writes old new text status.Memory = Unwritten old new
Writes old new text _ = ⊥

-- the closing lines of a replay of the generated trace of a start number
abbrev pub closing_of : ℕ → List ℕ
closing_of start = closing 200000 (counts_of_run (generated_setup start) (generated_acts start))

-- the text was written, or a front of it where a write of it failed
abbrev pub IsSaid : Option (List ℕ) → Option (List ℕ) → ℕ → ℕ → List ℕ → Type 0
IsSaid old new faults faults_after text = Appends old new text ⊎ (Rose faults faults_after × AppendsFront old new text)

-- What a replay comes to: what its status means; a trace is replayed whole, and another text is refused at its first line that is
-- refused, for the first check that fails, where neither count of faults rose and there is memory.
pub record Replays (old new : Outside) (came : Status) : Type 0 where
  pub means : Means old new came
  pub complete : (bytes : List ℕ) (setup : Setup) (acts : List Act) → old.left ≡ Some bytes → trace bytes ≡ Good setup acts
      → ¬ Rose old.reads new.reads → ¬ Rose old.writes new.writes → (came ≡ status.Done) ⊎ (came ≡ status.Memory)
  pub exact : (bytes : List ℕ) (line : ℕ) (why : LineRefusal) (setup : Setup) (acts : List Act) → old.left ≡ Some bytes
      → trace bytes ≡ Refused line why setup acts → ¬ Rose old.reads new.reads → ¬ Rose old.writes new.writes
      → (came ≡ status_of (Err (refused_fault line why))) ⊎ (came ≡ status.Memory)

-- What words that were read so come to. `same_source` and `same_sink` say that the source and the sink are as they were.
abbrev pub CameTo : Option Reading → Type 0 → Type 0 → Outside → Outside → Status → Type 0
CameTo (Some Replay) same_source same_sink old new came = Replays old new came
CameTo (Some Osq) same_source same_sink old new came = OsqRuns old new came
CameTo (Some Audit) same_source same_sink old new came = Audits old new came
CameTo (Some Ledger) same_source same_sink old new came = Ledgers old new came
CameTo (Some (Gen start)) same_source same_sink old new came = same_source × Writes old new (generated start) came
CameTo (Some (Load start)) same_source same_sink old new came = same_source × Writes old new (closing_of start) came
CameTo None same_source same_sink old new came = (came ≡ status.Usage) × same_source × same_sink

-- What is done for the words, and the status of it. `asks` says what the words ask for, `no_memory` that there was none in which to
-- read them.
pub record Does (asks : Reading → Type 0) (no_memory same_source same_sink : Type 0) (old new : Outside) (came : Status) : Type 0 where
  pub usage : (came ≡ status.Usage) ↔ (AsksNothing asks × ¬ no_memory × ¬ (came ≡ status.Memory))
  pub unread : no_memory → came ≡ status.Memory
  pub untouched : AsksNothing asks → same_source × same_sink
  pub memory : came ≡ status.Memory → same_sink
  pub replays : asks Replay → Replays old new came
  pub osq : asks Osq → OsqRuns old new came
  pub audits : asks Audit → Audits old new came
  pub ledger : asks Ledger → Ledgers old new came
  pub generates : (start : ℕ) → asks (Gen start) → same_source × Writes old new (generated start) came
  pub loads : (start : ℕ) → asks (Load start) → same_source × Writes old new (closing_of start) came

-- What a run of the program comes to: what is done for its words, and that the note was said. `said` says that a text was written to
-- the notes.
pub record RunsTo (asks : Reading → Type 0) (no_memory same_source same_sink : Type 0) (old new : Outside) (said : List ℕ → Type 0) (came : Status) : Type 0 where
  pub does : Does asks no_memory same_source same_sink old new came
  pub noted : said (note_of came)
