-- The one line that an audit writes.
use Rattle.std.specs.Prelude.{ℕ, List, ◌++◌, codes, decimal}
use Rattle.lk_names.specs.declared.events.Breach.{Breach}
use Rattle.lk_names.specs.declared.events.Breach.TheVariants as breach
use Rattle.lk_audit_forms.specs.declared.answers.BreachName.{BreachName}
use Rattle.lk_audit_forms.specs.declared.answers.BreachName.TheVariants as named

-- the name of a breach, without whom it is of
abbrev pub name_of : Breach → BreachName
name_of (breach.Beside l held by) = named.Beside
name_of (breach.NotHolder l by) = named.NotHolder
name_of (breach.Twice l by) = named.Twice
name_of (breach.WrongHead l first by) = named.WrongHead
name_of (breach.WrongMove l moved lawful) = named.WrongMove
name_of (breach.WrongNext l first to) = named.WrongNext
name_of (breach.OverThreshold l w passes) = named.OverThreshold
name_of (breach.NoKick l w) = named.NoKick

abbrev pub name_text : BreachName → List ℕ
name_text named.Beside = codes "Beside"
name_text named.NotHolder = codes "NotHolder"
name_text named.Twice = codes "Twice"
name_text named.WrongHead = codes "WrongHead"
name_text named.WrongMove = codes "WrongMove"
name_text named.WrongNext = codes "WrongNext"
name_text named.OverThreshold = codes "OverThreshold"
name_text named.NoKick = codes "NoKick"

-- `breach n Name`
abbrev pub breach_text : ℕ → BreachName → List ℕ
breach_text line name = codes "breach " ++ (decimal line ++ (codes " " ++ (name_text name ++ codes "\n")))
