use Rattle.lk_pvdomain.proofs.call.Queued.steal.Goals as goal

pub returns-in-Takes : goal.returns-in-Takes
returns-in-Takes c s w = c.take_past.ensures.takes c.in-Takes.is s w

pub returns-in-Misses : goal.returns-in-Misses
returns-in-Misses c s w = c.take_past.ensures.stays c.in-Misses.met c.in-Misses.is s w

pub returns-then-tailed : goal.returns-then-tailed
returns-then-tailed c s w = c.take_past.ensures.again c.in-Fails.met c.in-Fails.is c.if-tailed.true s w

pub queue-requires : goal.queue-requires
queue-requires c = (c.requires.0, c.take_past.ensures.joins c.in-Fails.met c.in-Fails.is c.if-tailed.false c.requires.0 c.requires.1)

pub returns-else-tailed : goal.returns-else-tailed
returns-else-tailed c s w = c.queue.ensures s (c.take_past.ensures.joins c.in-Fails.met c.in-Fails.is c.if-tailed.false s w)
