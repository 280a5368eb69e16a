use Rattle.std.proofs.Common.{arith, subst, sym, ◌<◌}
use Rattle.lk_domain.specs.Plans.{cpus_of}
use Rattle.lk_run.proofs.Calling as on
use Rattle.lk_run.proofs.Turning as turn
use Rattle.lk_run.proofs.call.Call.slow.Goals as goal

pub invariant_of-queued : goal.invariant_of-queued
invariant_of-queued c = record { node = record { cpu = subst (λ n. n < cpus_of c.args.self.now.domain.now.plan) (sym c.number.ensures) c.requires.domain.low; index = c.if-has_node.true } }

pub arrive-requires-clause-node : goal.arrive-requires-clause-node
arrive-requires-clause-node c = record { cpu_is = c.number.ensures; index = c.queued.ensures }

pub arrive-requires-clause-waits : goal.arrive-requires-clause-waits
arrive-requires-clause-waits c = c.requires

pub returns-then-has_node : goal.returns-then-has_node
returns-then-has_node c = c.arrive.ensures

pub enter_bare-requires-clause-full : goal.enter_bare-requires-clause-full
enter_bare-requires-clause-full c = let is = c.queued.ensures in let high = c.if-has_node.false in omega (arith, is, high)

pub enter_bare-requires-clause-waits : goal.enter_bare-requires-clause-waits
enter_bare-requires-clause-waits c = c.requires

pub wait_bare-requires : goal.wait_bare-requires
wait_bare-requires c = on.stepped c.enter_bare.ensures c.requires

pub returns : goal.returns
returns c = turn.step_turns c.enter_bare.ensures c.wait_bare.ensures
