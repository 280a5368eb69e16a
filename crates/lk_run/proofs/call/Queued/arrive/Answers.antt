use Rattle.lk_run.proofs.Calling as on
use Rattle.lk_run.proofs.Turning as turn
use Rattle.lk_run.proofs.call.Queued.arrive.Goals as goal

pub enter-requires-clause-node : goal.enter-requires-clause-node
enter-requires-clause-node c = c.requires.node

pub enter-requires-clause-waits : goal.enter-requires-clause-waits
enter-requires-clause-waits c = c.requires.waits

pub look_again-met-requires : goal.look_again-met-requires
look_again-met-requires c = on.stepped c.enter.ensures c.requires.waits

pub swap_again-met-requires : goal.swap_again-met-requires
swap_again-met-requires c = on.stepped (c.look_again-met.ensures.free c.if-met-eq0.true) (on.stepped c.enter.ensures c.requires.waits)

pub returns-then-met-eq0-2 : goal.returns-then-met-eq0-2
returns-then-met-eq0-2 c = turn.step_turns (on.step_both c.enter.ensures (c.look_again-met.ensures.free c.if-met-eq0.true)) (turn.takes_turns (c.swap_again-met.ensures.taken c.if-met-eq0-2.true))

pub queue-requires : goal.queue-requires
queue-requires c = on.stepped (c.swap_again-met.ensures.held c.if-met-eq0-2.false) (on.stepped (on.step_both c.enter.ensures (c.look_again-met.ensures.free c.if-met-eq0.true)) c.requires.waits)

pub returns-then-met-eq0 : goal.returns-then-met-eq0
returns-then-met-eq0 c = turn.step_turns (on.step_both c.enter.ensures (c.look_again-met.ensures.free c.if-met-eq0.true)) (turn.step_turns (c.swap_again-met.ensures.held c.if-met-eq0-2.false) c.queue.ensures)

pub queue-requires-2 : goal.queue-requires-2
queue-requires-2 c = on.stepped (on.step_both c.enter.ensures (c.look_again-met.ensures.held c.if-met-eq0.false)) c.requires.waits

pub returns : goal.returns
returns c = turn.step_turns (on.step_both c.enter.ensures (c.look_again-met.ensures.held c.if-met-eq0.false)) c.queue-2.ensures
