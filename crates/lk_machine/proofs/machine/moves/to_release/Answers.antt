use Rattle.std.proofs.Common.{arith}
use Rattle.lk_machine.proofs.Release.{to_release-drop}
use Rattle.lk_machine.proofs.machine.moves.to_release.Goals as goal

pub returns-then-op-lock-clause-value : goal.returns-then-op-lock-clause-value
returns-then-op-lock-clause-value c =
    let first = to_release-drop c.args.program.now.items c.loop-at.at c.get-op.result.now c.args.lock c.get-op.ensures in grind arith

pub loop-at-preserved : goal.loop-at-preserved
loop-at-preserved c =
    let first = to_release-drop c.args.program.now.items c.loop-at.at c.get-op.result.now c.args.lock c.get-op.ensures in grind arith
