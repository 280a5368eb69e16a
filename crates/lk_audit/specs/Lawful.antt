-- When what an audited text says is lawful, and at which line it first is not.
use Rattle.std.specs.Prelude.{true, ◌≡◌, ℕ, ◌+◌, ◌*◌, List, [], ◌∷◌, ◌++◌, Option, None, Some, Ok, IfSome, length}
use Rattle.std.specs.Option.{option_or}
use Rattle.lk_names.specs.History.{history_of, told, lock_of}
use Rattle.lk_names.specs.Kicks.{kicks_of, kicks_told}
use Rattle.lk_names.specs.Lawful.{Rules, IsLawful}
use Rattle.lk_abs.specs.Breaches.{first_breach}
use Rattle.lk_abs.specs.NoKick.{unkicked}
use Rattle.lk_names.specs.declared.names.LockName.{LockName}
use Rattle.lk_names.specs.declared.events.Event.{Event}
use Rattle.lk_names.specs.declared.events.Breach.{Breach}
use Rattle.lk_rows.specs.Rules.{rules_of}
use Rattle.lk_rows.specs.Run.{events_of}
use Rattle.lk_rows.specs.declared.setup.Setup.{Setup}
use Rattle.lk_text.specs.Feeds.{pieces}
use Rattle.lk_forms.specs.Grammar.{has_go}
use Rattle.lk_stream.specs.Grammar.{Place, next_place}
use Rattle.lk_stream.specs.Reads.{Leads}
use Rattle.lk_audit_forms.specs.Grammar.{Said, audit_grammar}

-- the events so far
abbrev pub events_said : Said → List Event
events_said said = events_of said.history

-- the history so far is lawful for the header
abbrev pub IsLawfulSo : Said → Type 0
IsLawfulSo said = IsLawful (rules_of said.header.setup) (events_said said)

abbrev pub breach_on : Rules → List Event → Option LockName → Event → Option Breach
breach_on rules es None e = None
breach_on rules es (Some l) e = first_breach rules (history_of l es) e.by e.what

-- the first clause of the laws that an event breaks behind these ones: one of the table, and else,
-- in `pv`, that a head is left asleep
abbrev pub breach_behind : Setup → List Event → Event → Option Breach
breach_behind s es e =
    option_or (breach_on (rules_of s) es (lock_of e.what) e)
    (unkicked s.mode (kicks_told (kicks_of es) e) (λ l. told l (history_of l es) e)
    (length s.locks.items * 2))

-- The line between the two tells an event behind the header, with which the history is lawful no
-- more; and this is the first clause that it breaks.
pub record IsBroken (before after : Said) (breach : Breach) : Type 0 where
  pub event : Event
  pub tells : events_said after ≡ events_said before ++ event ∷ []
  pub header : after.header ≡ before.header
  pub gone : has_go before.header ≡ true
  pub lawful : IsLawfulSo before
  pub unlawful : ¬ IsLawfulSo after
  pub breaks : breach_behind before.header.setup (events_said before) event ≡ Some breach

-- The text is these lines, none of which is refused and behind which the history is lawful; then
-- the line of this number, which is not refused either and breaks the history; and then the rest.
pub record BreaksAt (bytes : List ℕ) (line : ℕ) (breach : Breach) : Type 0 where
  pub before : List (List ℕ)
  pub piece : List ℕ
  pub rest : List (List ℕ)
  pub whole : pieces bytes ≡ before ++ piece ∷ rest
  pub place : Place Said
  pub leads : Leads audit_grammar before place
  pub number : line ≡ place.lines + 1
  pub next : Place Said
  pub accepted : next_place audit_grammar place piece ≡ Ok next
  pub broken : IsBroken place.said next.said breach

-- a known text is broken there
abbrev pub Breaks : Option (List ℕ) → ℕ → Breach → Type 0
Breaks known line breach = IfSome known (λ bytes. BreaksAt bytes line breach)
