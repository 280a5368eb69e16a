use Rattle.std.proofs.Common.{[], sym}
use Rattle.lk_forms.proofs.WalkLemmas.{same_holds-apart}
use Rattle.lk_forms.proofs.operations.is_nothing_held.Goals as goal

pub returns-then-is_held : goal.returns-then-is_held
returns-then-is_held c = sym (same_holds-apart c.args.locks c.loop-lock.lock c.args.ops.now [] c.loop-lock-test.true (sym c.if-is_held.ensures.same))
