-- What an auditor keeps, and what a line comes to.
use Rattle.std.specs.Prelude.{◌≡◌, ℕ, ◌*◌, ◌≤◌, true, List, OnOk, Option, Result, Ok, Err, length}
use Rattle.lk_abs.specs.Judge.{taken_by, HasTaken}
use Rattle.lk_names.specs.declared.events.Breach.{Breach}
use Rattle.lk_names.specs.declared.events.Event.{Event}
use Rattle.lk_text.specs.Reader.{GaveLine, lines_given}
use Rattle.lk_text.specs.declared.reader.LineReader.{LineReader}
use Rattle.lk_forms.specs.Grammar.{has_go}
use Rattle.lk_forms.specs.declared.limits.TheConstants.{MAX_ACTS}
use Rattle.lk_forms.specs.declared.answers.LineRefusal.TheVariants.{Bad}
use Rattle.lk_audit_forms.specs.Closing.{closing_lines}
use Rattle.lk_audit_forms.specs.Grammar.{Said, read, last_act, with_told}
use Rattle.lk_audit_forms.specs.Texts.{name_of}
use Rattle.lk_audit_forms.specs.declared.answers.Told.TheVariants as told
use Rattle.lk_audit.specs.Lawful.{events_said, IsBroken}
use Rattle.lk_rows.specs.Rules.{rules_of}
use Rattle.lk_audit.specs.declared.answers.AuditFault.{AuditFault}
use Rattle.lk_audit.specs.declared.answers.AuditFault.TheVariants as fault
use Rattle.lk_audit.specs.declared.auditor.Auditor.{Auditor}

-- its parts fit together: there were no more events than acts, and not too many acts
pub record CanGoOn (a : Auditor) : Type 0 where
  pub rules : a.judge.rules ≡ rules_of a.setup
  pub locks : length a.judge.locks ≡ length a.setup.locks.items * 2
  pub taken : taken_by a.judge ≡ a.events
  pub few : a.events ≤ a.last
  pub acts : a.last ≤ MAX_ACTS
  pub closed : a.closed ≤ closing_lines

-- it was told what is said, and the history so far is lawful
pub record Shows (a : Auditor) (said : Said) : Type 0 where
  pub gone : has_go said.header ≡ true
  pub setup : a.setup ≡ said.header.setup
  pub last : a.last ≡ last_act said.history
  pub events : a.events ≡ length said.history
  pub closed : a.closed ≡ said.closed
  pub taken : HasTaken a.judge (events_said said)

-- one line more is accepted
pub record GoesOn (a : Auditor) (said : Said) (line : List ℕ) : Type 0 where
  pub next : Said
  pub reads : read said line ≡ Ok next
  pub shows : Shows a next

-- one line more is accepted, and breaks the history
pub record Breaks (said : Said) (line : List ℕ) (breach : Breach) : Type 0 where
  pub next : Said
  pub reads : read said line ≡ Ok next
  pub broken : IsBroken said next breach

-- what the event of a line of this number comes to, in the act of that number
abbrev pub EventMeans : {T : Type 0} → Auditor → Said → ℕ → ℕ → Event → Result T AuditFault → Type 0
EventMeans a said number act event (Ok t) = Shows a (with_told said (told.Event act event))
EventMeans a said number act event (Err (fault.Breach n name)) =
    (n ≡ number) × ((breach : Breach) × (name ≡ name_of breach)
    × IsBroken said (with_told said (told.Event act event)) breach)
EventMeans a said number act event (Err why) = ⊥

-- what a line of this number comes to
abbrev pub LineMeans : {T : Type 0} → Auditor → Said → List ℕ → ℕ → Result T AuditFault → Type 0
LineMeans a said line number (Ok t) = GoesOn a said line
LineMeans a said line number (Err (fault.BadInput n why)) =
    (n ≡ number) × (read said line ≡ Err (Bad why))
LineMeans a said line number (Err (fault.Breach n name)) =
    (n ≡ number) × ((breach : Breach) × (name ≡ name_of breach) × Breaks said line breach)
LineMeans a said line number (Err why) = ⊥

-- The auditor was old before the line that the reader gave, and is new behind it; and this came of it.
pub record HasJudged {T : Type 0} (old new : Auditor) (reader reader' : LineReader)
    (left left' : Option (List ℕ)) (done : Result T AuditFault) : Type 0 where
  pub line : List ℕ
  pub gave : GaveLine reader reader' left left' line
  pub means : (said : Said) → Shows old said → LineMeans new said line (lines_given reader') done
  pub goes_on : OnOk done (CanGoOn new)
