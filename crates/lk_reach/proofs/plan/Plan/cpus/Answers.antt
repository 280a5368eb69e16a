use Rattle.std.proofs.Common.{◌∙◌, subst, sym}
use Rattle.lk_reach.proofs.Names.{Machine, IsReached}
use Rattle.lk_reach.proofs.Closed as closed
use Rattle.lk_reach.proofs.plan.Plan.cpus.Goals as goal

pub returns : goal.returns
returns c =
    let p = c.args.self.now in
    let m = c.args.machine.now in
    let start = c.requires in
    let laws : closed.Laws = record { runs = c.runs_keep.ensures.run; setup = c.acts_change_little.ensures.setup } in
    let reached : IsReached p m.setup m =
    subst (λ (q : Machine). IsReached p m.setup q) (sym start.there) (closed.reached_start laws p m.setup start.begun) in
    c.cpus.ensures ∙ (closed.reached_such laws p m.setup start.begun m reached).cpus
