-- The laws on what a replay writes.
use Rattle.std.specs.Prelude.{true, ◌≡◌, ◌≤◌, ◌++◌, ℕ, List, length}
use Rattle.lk_names.specs.declared.events.Act.{Act}
use Rattle.lk_rows.specs.Run.{Occurrence}
use Rattle.lk_rows.specs.declared.setup.Setup.{Setup}
use Rattle.lk_rows.specs.Programs.{IsLawfulSetup}
use Rattle.lk_law.specs.MachineLaws.{AreInRange}
use Rattle.lk_text.specs.Feeds.{pieces}
use Rattle.lk_forms.specs.Grammar.{cpus_of, has_go}
use Rattle.lk_forms.specs.Headers.{EndsAtGo}
use Rattle.lk_forms.specs.Trace.{Good, trace, bytes_of, reading_after}
use Rattle.lk_text.specs.declared.reader.TheConstants.{MAX_INPUT}
use Rattle.lk_stream.specs.Grammar.{saying}
use Rattle.lk_stream.specs.Grammar.{Good as GoodText}
use Rattle.lk_audit_forms.specs.Grammar.{Said, audit_grammar}
use Rattle.lk_audit.specs.Lawful.{IsLawfulSo}
use Rattle.lk_forms.specs.declared.limits.TheConstants.{MAX_ACTS}
use Rattle.lk_replay.specs.Transcript.{history_of_run, transcript}
use Rattle.lk_audit_law.specs.Read.{AreRead}

-- An auditor reads each line that is written for an event of a run, as that event, in its act.
abbrev pub RunsAreRead : Type 0
RunsAreRead = (setup : Setup) (acts : List Act) → IsLawfulSetup setup → AreInRange (cpus_of setup) acts
    → length acts ≤ MAX_ACTS → AreRead setup 0 (history_of_run setup acts)

-- an audit of the text finds this history, which is lawful
pub record IsAccepted (bytes : List ℕ) (history : List Occurrence) : Type 0 where
  pub said : Said
  pub good : saying audit_grammar bytes ≡ GoodText said
  pub told : said.history ≡ history
  pub lawful : IsLawfulSo said

-- The header of each accepted trace, and behind it the transcript that a replay of the trace
-- writes, is accepted by an audit, if it is no longer than a text may be.
abbrev pub TranscriptsAreAccepted : Type 0
TranscriptsAreAccepted = (bytes : List ℕ) (setup : Setup) (acts : List Act) (before rest : List (List ℕ))
    → trace bytes ≡ Good setup acts → pieces bytes ≡ before ++ rest → EndsAtGo before
    → has_go (reading_after before) ≡ true
    → length (bytes_of before ++ transcript setup acts) ≤ MAX_INPUT
    → IsAccepted (bytes_of before ++ transcript setup acts) (history_of_run setup acts)
