use Rattle.lk_run.specs.declared.rest.Rest.TheVariants as rest
use Rattle.lk_run.proofs.Calling as on
use Rattle.lk_run.proofs.Turning as turn
use Rattle.lk_run.proofs.call.Call.wait_bare.Goals as goal

pub look_bare-requires : goal.look_bare-requires
look_bare-requires c = c.requires

pub swap_bare-requires : goal.swap_bare-requires
swap_bare-requires c = on.stepped (c.look_bare.ensures.free c.if-look_bare.true) c.requires

pub returns-then-swap_bare : goal.returns-then-swap_bare
returns-then-swap_bare c = turn.step_turns (c.look_bare.ensures.free c.if-look_bare.true) (turn.takes_turns (c.swap_bare.ensures.taken c.if-swap_bare.true))

pub returns-then-look_bare : goal.returns-then-look_bare
returns-then-look_bare c = turn.goes_turns rest.Bare (on.step_both (c.look_bare.ensures.free c.if-look_bare.true) (c.swap_bare.ensures.held c.if-swap_bare.false)) (record { nodes = tt; knows = tt })

pub returns : goal.returns
returns c = turn.look_turns rest.Bare (c.look_bare.ensures.held c.if-look_bare.false) (record { nodes = tt; knows = tt })
