use Rattle.std.proofs.Common.{◌≡◌, take}
use Rattle.lk_forms.specs.Words.{is_text}
use Rattle.lk_forms.proofs.words.is_text.Given as goal

abbrev pub invariant-loop-b : goal.invariant-loop-b
invariant-loop-b l = l.all ≡ is_text (take l.b-index l.line)
