use Rattle.lk_run.proofs.Names.{IsNode}
use Rattle.lk_run.proofs.Calling as on
use Rattle.lk_run.proofs.call.Queued.lead.Goals as goal

pub invariant_of-front : goal.invariant_of-front
invariant_of-front c = record { node = c.args.self.now.node; aside = on.for_some (IsNode c.args.self.now.call.domain.now.plan) c.args.second c.requires.second }

pub wait_open-requires : goal.wait_open-requires
wait_open-requires c = c.requires.waits

pub returns : goal.returns
returns c = c.wait_open.ensures
