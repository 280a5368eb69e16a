use Rattle.lk_core.proofs.ActDone.{has_top}
use Rattle.lk_core.proofs.acts.nudge.Goals as goal

pub end_halt-requires : goal.end_halt-requires
end_halt-requires c = has_top c.args.machine.now c.args.cpu c.requires.range c.requires.sound
