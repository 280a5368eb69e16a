use Rattle.std.proofs.Common.{◌≡◌, false}
use Rattle.lk_forms.specs.Grammar.{has_go}
use Rattle.lk_forms.specs.Reader.{reading}
use Rattle.lk_text_tests.proofs.SaidLines.{AreSaid}
use Rattle.lk_text_tests.proofs.headers.setup_of.Given as goal

abbrev pub invariant-loop-line : goal.invariant-loop-line
invariant-loop-line l = record {
  said : AreSaid (reading l.reader);
  early : has_go (reading l.reader) ≡ false;
}
