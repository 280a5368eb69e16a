use Rattle.lk_pvdomain.proofs.call.Queued.hand.Goals as goal

pub returns-then-leave_queue : goal.returns-then-leave_queue
returns-then-leave_queue c s w = c.leave_queue.ensures.last c.if-leave_queue.true s w

pub pass_on-requires : goal.pass_on-requires
pass_on-requires c = (c.requires.0, c.leave_queue.ensures.others c.if-leave_queue.false c.requires.0 c.requires.1)

pub returns : goal.returns
returns c s w = c.pass_on.ensures s (c.leave_queue.ensures.others c.if-leave_queue.false s w)
