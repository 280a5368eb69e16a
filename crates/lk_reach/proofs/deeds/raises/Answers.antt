use Rattle.lk_reach.proofs.Left as left
use Rattle.lk_reach.proofs.deeds.raises.Goals as goal

pub returns-clause-such : goal.returns-clause-such
returns-clause-such c =
    left.counted_such c.args.machine.now.setup c.act.new.machine c.set_counts.new.self
    c.no_counts.result c.set_counts.ensures c.no_counts.ensures c.act.ensures.setup
    c.act.ensures.sound
