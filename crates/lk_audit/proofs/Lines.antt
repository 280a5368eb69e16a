-- The answer of an audit that has been judged.
use Rattle.std.proofs.Common.{◌≡◌, ℕ, List, Option, Ok, Err, length, refl, subst}
use Rattle.std.specs.Io.KnownBytes.{Appends, Keeps}
use Rattle.std.proofs.KnownBytes.{Keeps-refl}
use Rattle.lk_text.specs.Causes.{Rose}
use Rattle.lk_text.specs.Bytes.{AppendsFront}
use Rattle.lk_stream.specs.Outside.{outside}
use Rattle.lk_audit_forms.specs.declared.answers.BreachName.{BreachName}
use Rattle.lk_audit_forms.specs.Grammar.{lawful_text}
use Rattle.lk_audit_forms.specs.Texts.{name_of, breach_text}
use Rattle.lk_audit.specs.Outcome.{Outcome, Lawful, Unlawful}
use Rattle.lk_audit.specs.Stands.{JudgedTo}
use Rattle.lk_audit.specs.declared.answers.AuditFault.{AuditFault}
use Rattle.lk_audit.specs.declared.answers.AuditFault.TheVariants as fault

module _ (input left held held' : Option (List ℕ)) (reads reads' writes writes' : ℕ) where
  pub told_lawful : (events : ℕ) → JudgedTo input left reads reads' (Ok events)
      → Appends held held' (lawful_text events)
      → Outcome (outside input reads held writes) (outside left reads' held' writes') (Ok events)
  told_lawful events j put = record {
    said = j.said;
    good = j.good;
    lawful = j.lawful;
    counted = j.counted;
    all_read = j.over;
    written = put;
  }

  pub told_breach : (line : ℕ) (name : BreachName) → JudgedTo input left reads reads' (Err (fault.Breach line name))
      → Appends held held' (breach_text line name)
      → Outcome (outside input reads held writes) (outside left reads' held' writes') (Err (fault.Breach line name))
  told_breach line name j put = (
    j.0,
    j.1,
    record {
      breaks = j.2;
      written = subst (λ n. Appends held held' (breach_text line n)) j.1 put;
    },
  )

  pub cut_lawful : (events : ℕ) → JudgedTo input left reads reads' (Ok events) → Rose writes writes'
      → AppendsFront held held' (lawful_text events)
      → Outcome (outside input reads held writes) (outside left reads' held' writes') (Err fault.WriteFault)
  cut_lawful events j rose put = record {
    rose = rose;
    text = lawful_text (length j.said.history);
    verdict = Lawful j.said j.good j.lawful;
    written = subst (λ n. AppendsFront held held' (lawful_text n)) j.counted put;
  }

  pub cut_breach : (line : ℕ) (name : BreachName) → JudgedTo input left reads reads' (Err (fault.Breach line name))
      → Rose writes writes' → AppendsFront held held' (breach_text line name)
      → Outcome (outside input reads held writes) (outside left reads' held' writes') (Err fault.WriteFault)
  cut_breach line name j rose put = record {
    rose = rose;
    text = breach_text line (name_of j.0);
    verdict = Unlawful line j.0 j.2;
    written = subst (λ n. AppendsFront held held' (breach_text line n)) j.1 put;
  }

  -- where nothing is written
  pub told_nothing : (why : AuditFault) → ((line : ℕ) (name : BreachName) → why ≡ fault.Breach line name → ⊥)
      → JudgedTo input left reads reads' (Err why)
      → Outcome (outside input reads held writes) (outside left reads' held writes') (Err why)
  told_nothing (fault.BadInput line why) other j = record { said = j.said; refused = j.refused; lawful = j.lawful; unwritten = Keeps-refl held }
  told_nothing (fault.Limit line which) other j = record { said = j.said; refused = j.refused; lawful = j.lawful; unwritten = Keeps-refl held }
  told_nothing (fault.Breach line name) other j = absurd (other line name refl)
  told_nothing fault.ReadFault other j = record { rose = j; unwritten = Keeps-refl held }
  told_nothing fault.WriteFault other j = absurd j
  told_nothing fault.Memory other j = Keeps-refl held
