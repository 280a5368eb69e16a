-- What an auditor shows, with one line more.
use Rattle.std.proofs.Common.{true, ◌≡◌, ◌++◌, ◌+◌, ◌*◌, ℕ, List, [], ◌∷◌, Option, None, Some, Result, Ok, Err, length, refl, sym, ap, subst, ◌∙◌}
use Rattle.std.proofs.lemmas.List.{length_push}
use Rattle.lk_names.specs.Lawful.{IsLawful}
use Rattle.lk_abs.specs.Judge.{JudgeState, breach_of, HasTaken}
use Rattle.lk_names.specs.declared.events.Event.{Event}
use Rattle.lk_names.specs.declared.events.Breach.{Breach}
use Rattle.lk_rows.specs.declared.setup.Setup.{Setup}
use Rattle.lk_text.specs.Reader.{lines_given, is_ended, GaveLine, MetEnd}
use Rattle.lk_text.specs.declared.reader.LineReader.{LineReader}
use Rattle.lk_forms.specs.declared.answers.Fault.{Fault}
use Rattle.lk_forms.specs.declared.answers.LineRefusal.TheVariants.{Bad}
use Rattle.lk_audit_forms.specs.Closing.{line_told}
use Rattle.lk_audit_forms.specs.Grammar.{Said, last_act, with_told, said_on, read, ending}
use Rattle.lk_audit_forms.specs.declared.answers.Told.{Told}
use Rattle.lk_audit_forms.specs.declared.answers.Told.TheVariants as told
use Rattle.lk_audit.specs.Lawful.{events_said, IsLawfulSo, IsBroken}
use Rattle.lk_rows.specs.Rules.{rules_of}
use Rattle.lk_audit.specs.Auditor.{CanGoOn, Shows, GoesOn, EventMeans, LineMeans}
use Rattle.lk_audit.specs.Stands.{Stands, StopsRefused, FaultStops, TurnsTo, end_at}
use Rattle.lk_audit.specs.declared.auditor.Auditor.{Auditor}
use Rattle.lk_audit.specs.declared.answers.AuditFault.{AuditFault}
use Rattle.lk_audit.specs.declared.answers.AuditFault.TheVariants as fault
use Rattle.lk_audit.proofs.Judging.{named_as}
use Rattle.lk_audit.proofs.Told.{last_act-push, events-push}
use Rattle.lk_audit.proofs.Turns.{refused_line, breaks_here, ends_early, ends_well}

rules_are : (a : Auditor) (said : Said) → CanGoOn a → Shows a said → a.judge.rules ≡ rules_of said.header.setup
rules_are a said ready s = ready.rules ∙ ap rules_of s.setup

-- the history so far is lawful
pub shows_lawful : (a : Auditor) (said : Said) → CanGoOn a → Shows a said → IsLawfulSo said
shows_lawful a said ready s =
    subst (λ r. IsLawful r (events_said said)) (rules_are a said ready s) s.taken.lawful

-- an event that the judge refuses
pub broken_event : (a : Auditor) (said : Said) (act : ℕ) (e : Event) (breach : Breach) → CanGoOn a → Shows a said
    → Some breach ≡ breach_of a.judge e → ¬ IsLawful a.judge.rules (events_said said ++ e ∷ [])
    → IsBroken said (with_told said (told.Event act e)) breach
broken_event a said act e breach ready s is not = record {
  event = e;
  tells = events-push said act e;
  header = refl;
  gone = s.gone;
  lawful = shows_lawful a said ready s;
  unlawful = λ ok.
      not (subst (λ r. IsLawful r (events_said said ++ e ∷ [])) (sym (rules_are a said ready s))
      (subst (IsLawful (rules_of said.header.setup)) (events-push said act e) ok));
  breaks = sym (named_as a.judge said.header.setup (events_said said) e (rules_are a said ready s)
      (ready.locks ∙ ap (λ (x : Setup). length x.locks.items * 2) s.setup) s.taken) ∙ sym is;
}

-- an event that it takes
pub shows_event : (a : Auditor) (said : Said) (act : ℕ) (e : Event) (j : JudgeState) → Shows a said
    → HasTaken j (events_said said ++ e ∷ [])
    → Shows (record a { judge = j; last = act; events = a.events + 1 }) (with_told said (told.Event act e))
shows_event a said act e j s taken = record {
  gone = s.gone;
  setup = s.setup;
  last = sym (last_act-push said.history (record { act = act; event = e }));
  events = ap (λ n. n + 1) s.events ∙ sym (length_push said.history _);
  closed = s.closed;
  taken = subst (HasTaken j) (sym (events-push said act e)) taken;
}

-- what a line says, by what it tells

told_same : (a : Auditor) (said : Said) (line : List ℕ) → Shows a said
    → line_told said.header.setup (last_act said.history) said.closed line ≡ line_told a.setup a.last a.closed line
told_same a said line s =
    ap (λ x. line_told x (last_act said.history) said.closed line) (sym s.setup)
    ∙ ap (λ n. line_told a.setup n said.closed line) (sym s.last)
    ∙ ap (λ n. line_told a.setup a.last n line) (sym s.closed)

pub read_told : (a : Auditor) (said : Said) (line : List ℕ) (t : Told) → Shows a said
    → line_told a.setup a.last a.closed line ≡ Ok t → read said line ≡ Ok (with_told said t)
read_told a said line t s is = rw s.gone (ap (said_on said) (told_same a said line s ∙ is))

pub read_refused : (a : Auditor) (said : Said) (line : List ℕ) (why : Fault) → Shows a said
    → line_told a.setup a.last a.closed line ≡ Err why → read said line ≡ Err (Bad why)
read_refused a said line why s is = rw s.gone (ap (said_on said) (told_same a said line s ∙ is))

pub event_line : {T : Type 0} (a : Auditor) (said : Said) (line : List ℕ) (number act : ℕ) (e : Event)
    (r : Result T AuditFault) → read said line ≡ Ok (with_told said (told.Event act e))
    → EventMeans a said number act e r → LineMeans a said line number r
event_line a said line number act e (Ok t) is m = record { next = with_told said (told.Event act e); reads = is; shows = m }
event_line a said line number act e (Err (fault.BadInput n w)) is m = absurd m
event_line a said line number act e (Err (fault.Limit n w)) is m = absurd m
event_line a said line number act e (Err (fault.Breach n name)) is m =
    (m.0, (m.1.0, m.1.1, record { next = with_told said (told.Event act e); reads = is; broken = m.1.2 }))
event_line a said line number act e (Err fault.ReadFault) is m = absurd m
event_line a said line number act e (Err fault.WriteFault) is m = absurd m
event_line a said line number act e (Err fault.Memory) is m = absurd m

pub end_line : (a : Auditor) (said : Said) (line : List ℕ) → Shows a said
    → line_told a.setup a.last a.closed line ≡ Ok told.End → GoesOn (record a { closed = 1 }) said line
end_line a said line s is = record {
  next = with_told said told.End;
  reads = read_told a said line told.End s is;
  shows = record { gone = s.gone; setup = s.setup; last = s.last; events = s.events; closed = refl; taken = s.taken };
}

pub count_line : (a : Auditor) (said : Said) (line : List ℕ) → Shows a said
    → line_told a.setup a.last a.closed line ≡ Ok told.Count → GoesOn (record a { closed = a.closed + 1 }) said line
count_line a said line s is = record {
  next = with_told said told.Count;
  reads = read_told a said line told.Count s is;
  shows = record {
    gone = s.gone;
    setup = s.setup;
    last = s.last;
    events = s.events;
    closed = ap (λ n. n + 1) s.closed;
    taken = s.taken;
  };
}

-- where the lines stop

module _ (input : Option (List ℕ)) (reader reader' : LineReader) (left left' : Option (List ℕ))
    (said : Said) (s : Stands input reader left said) (ok : IsLawfulSo said) (reads reads' : ℕ) where
  pub line_stops : (a : Auditor) (line : List ℕ) → GaveLine reader reader' left left' line → (why : AuditFault)
      → LineMeans {T = Unit {0}} a said line (lines_given reader') (Err why) → FaultStops input reads reads' why
  line_stops a line gave (fault.BadInput n w) m =
      subst (λ x. StopsRefused input x (Bad w)) (sym m.0)
      (refused_line input reader reader' left left' said s line (Bad w) ok gave m.1)
  line_stops a line gave (fault.Breach n name) m = (
    m.1.0,
    m.1.1,
    subst (λ x. FaultBreaks x) (sym m.0)
        (breaks_here input reader reader' left left' said s line gave m.1.2.next m.1.0 m.1.2.reads m.1.2.broken),
  )
    where
      FaultBreaks : ℕ → Type 0
      FaultBreaks x = Rattle.lk_audit.specs.Lawful.Breaks input x m.1.0
  line_stops a line gave (fault.Limit n w) m = absurd m
  line_stops a line gave fault.ReadFault m = absurd m
  line_stops a line gave fault.WriteFault m = absurd m
  line_stops a line gave fault.Memory m = absurd m

  pub turn_ends : (a : Auditor) (o : Option Fault) → Shows a said → o ≡ ending said
      → MetEnd reader reader' left left' → (is_ended reader ≡ true → left' ≡ left)
      → TurnsTo input reader' left' reads reads' a (end_at (lines_given reader' + 1) o)
  turn_ends a None shows is met idle =
      let end = ends_well input reader reader' left left' said s met idle (sym is) in
      record { said = said; ends = sym is; good = end.0; over = end.1; shows = shows }
  turn_ends a (Some why) shows is met idle =
      ends_early input reader reader' left left' said s ok met idle why (sym is)
