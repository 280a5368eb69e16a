use Rattle.lk_order.specs.Checked.{ReadsSoFar}
use Rattle.lk_order.proofs.check.reads_only.Given as goal

abbrev pub invariant-loop-at : goal.invariant-loop-at
invariant-loop-at l = ReadsSoFar l.ops.items l.lock l.«at»
