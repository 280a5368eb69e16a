use Rattle.lk_run.specs.declared.rest.Rest.TheVariants as rest
use Rattle.lk_run.proofs.Calling as on
use Rattle.lk_run.proofs.Turning as turn
use Rattle.lk_run.proofs.call.Call.wait_as_next.Goals as goal

pub watch-requires : goal.watch-requires
watch-requires c = c.requires

pub take_pending-requires : goal.take_pending-requires
take_pending-requires c = on.stepped (c.watch.ensures.free c.if-watch.true) c.requires

pub returns-then-watch : goal.returns-then-watch
returns-then-watch c = turn.step_turns (c.watch.ensures.free c.if-watch.true) (turn.takes_turns c.take_pending.ensures)

pub returns : goal.returns
returns c = turn.look_turns rest.Pends (c.watch.ensures.held c.if-watch.false) (record { nodes = tt; knows = tt })
