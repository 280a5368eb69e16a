use Rattle.lk_reach.proofs.Left as left
use Rattle.lk_reach.proofs.making.make.Goals as goal

pub returns-clause-such : goal.returns-clause-such
returns-clause-such c =
    left.counted_such c.args.machine.now.setup c.act-event.new.machine c.set_counts.new.self
    c.no_counts.result c.set_counts.ensures c.no_counts.ensures c.act-event.ensures.setup
    c.act-event.ensures.sound
