use Rattle.std.proofs.Common.{sym, subst, ◌∙◌}
use Rattle.lk_rows.specs.Programs.{IsLawfulSetup}
use Rattle.lk_forms.specs.Reader.{reading}
use Rattle.lk_text_tests.proofs.SaidLines.{more_said, goes_on, said_lawful}
use Rattle.lk_text_tests.proofs.headers.setup_of.Goals as goal

pub returns-in-Go : goal.returns-in-Go
returns-in-Go c =
    let laws = c.lines_say_lawful_setups.ensures in
    let said =
    more_said (reading c.loop-line.reader)
    (reading c.line.new.self) c.as_bytes.result.now c.loop-line.invariant.said
    c.in_ok-line.ensures.0 in
    subst (λ s. IsLawfulSetup s) (sym c.finish.ensures)
    (said_lawful laws.lawful (reading c.line.new.self) said)

pub loop-line-preserved : goal.loop-line-preserved
loop-line-preserved c = record {
  said =
      more_said (reading c.loop-line.reader)
      (reading c.line.new.self) c.as_bytes.result.now c.loop-line.invariant.said
      c.in_ok-line.ensures.0;
  early = goes_on (reading c.line.new.self) (sym c.in-More.is ∙ c.in_ok-line.ensures.1);
}
