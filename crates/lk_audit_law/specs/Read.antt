-- When the lines of a history tell an auditor its events.
use Rattle.std.specs.Prelude.{◌≡◌, ℕ, List, [], ◌∷◌, ◌++◌, Ok, codes, ⊤}
use Rattle.lk_rows.specs.Run.{Occurrence}
use Rattle.lk_rows.specs.declared.setup.Setup.{Setup}
use Rattle.lk_forms.specs.Texts.{event_text}
use Rattle.lk_audit_forms.specs.Ranges.{read_event}

-- each line that is printed for an event of the history, behind those before it, is read as that
-- event, in its act
abbrev pub AreRead : Setup → ℕ → List Occurrence → Type 0
AreRead s last [] = ⊤
AreRead s last (o ∷ os) =
    ((line : List ℕ) → line ++ codes "\n" ≡ event_text o.act o.event
    → read_event s last line ≡ Ok (o.act, o.event)) × AreRead s o.act os
