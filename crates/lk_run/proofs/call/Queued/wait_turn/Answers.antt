use Rattle.std.proofs.Common.{subst, sym, ◌∙◌, ◌≡◌}
use Rattle.lk_run.proofs.Names.{Go, Second, Unset, G6, G7, node_in, IsFlagNode, Fronts, Owns, Steps}
use Rattle.lk_run.specs.declared.rest.Rest.TheVariants as rest
use Rattle.lk_run.proofs.Calling as on
use Rattle.lk_run.proofs.Turning as turn
use Rattle.lk_run.proofs.call.Queued.wait_turn.Goals as goal

pub wait-requires : goal.wait-requires
wait-requires c = c.requires

pub lead-requires-clause-second : goal.lead-requires-clause-second
lead-requires-clause-second c = tt

pub lead-requires-clause-waits : goal.lead-requires-clause-waits
lead-requires-clause-waits c =
    let n = c.args.self.now in
    let step = subst (λ x. Steps n.call G6 (Owns n.own) G7 (Fronts n.own (node_in x)) c.args.cpu.now c.wait.new.cpu) c.in-Go.is
    (c.wait.ensures.leads (λ e. let z : Go ≡ Unset = sym c.in-Go.is ∙ e in cc z)) in
    on.stepped step c.requires

pub returns-in-Go : goal.returns-in-Go
returns-in-Go c =
    let n = c.args.self.now in
    let step = subst (λ x. Steps n.call G6 (Owns n.own) G7 (Fronts n.own (node_in x)) c.args.cpu.now c.wait.new.cpu) c.in-Go.is
    (c.wait.ensures.leads (λ e. let z : Go ≡ Unset = sym c.in-Go.is ∙ e in cc z)) in
    turn.step_turns step c.lead.ensures

pub lead-requires-in-Second-clause-second : goal.lead-requires-in-Second-clause-second
lead-requires-in-Second-clause-second c = subst (IsFlagNode c.args.self.now.call.domain.now.plan) c.in-Second.is c.wait.ensures.node

pub lead-requires-in-Second-clause-waits : goal.lead-requires-in-Second-clause-waits
lead-requires-in-Second-clause-waits c =
    let n = c.args.self.now in
    let step = subst (λ x. Steps n.call G6 (Owns n.own) G7 (Fronts n.own (node_in x)) c.args.cpu.now c.wait.new.cpu) c.in-Second.is
    (c.wait.ensures.leads (λ e. let z : Second c.in-Second.first ≡ Unset = sym c.in-Second.is ∙ e in cc z)) in
    on.stepped step c.requires

pub returns-in-Second : goal.returns-in-Second
returns-in-Second c =
    let n = c.args.self.now in
    let step = subst (λ x. Steps n.call G6 (Owns n.own) G7 (Fronts n.own (node_in x)) c.args.cpu.now c.wait.new.cpu) c.in-Second.is
    (c.wait.ensures.leads (λ e. let z : Second c.in-Second.first ≡ Unset = sym c.in-Second.is ∙ e in cc z)) in
    turn.step_turns step c.lead-in-Second.ensures

pub returns-in-Unset : goal.returns-in-Unset
returns-in-Unset c =
    let n = c.args.self.now in
    turn.look_turns (rest.Queues n.own) (c.wait.ensures.waits c.in-Unset.is) (record { nodes = n.node; knows = tt })
