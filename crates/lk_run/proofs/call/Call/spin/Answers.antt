use Rattle.lk_run.specs.declared.rest.Rest.TheVariants as rest
use Rattle.lk_run.proofs.Calling as on
use Rattle.lk_run.proofs.Turning as turn
use Rattle.lk_run.proofs.call.Call.spin.Goals as goal

pub loop_look-requires : goal.loop_look-requires
loop_look-requires c = c.requires

pub loop_swap-requires : goal.loop_swap-requires
loop_swap-requires c = on.stepped (c.loop_look.ensures.free c.if-loop_look.true) c.requires

pub returns-then-loop_swap : goal.returns-then-loop_swap
returns-then-loop_swap c = turn.step_turns (c.loop_look.ensures.free c.if-loop_look.true) (turn.takes_turns (c.loop_swap.ensures.taken c.if-loop_swap.true))

pub returns-then-loop_look : goal.returns-then-loop_look
returns-then-loop_look c = turn.goes_turns rest.Spins (on.step_both (c.loop_look.ensures.free c.if-loop_look.true) (c.loop_swap.ensures.held c.if-loop_swap.false)) (record { nodes = tt; knows = tt })

pub returns : goal.returns
returns c = turn.look_turns rest.Spins (c.loop_look.ensures.held c.if-loop_look.false) (record { nodes = tt; knows = tt })
