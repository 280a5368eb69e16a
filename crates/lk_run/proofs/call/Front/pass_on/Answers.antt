use Rattle.std.proofs.Common.{IfSome, subst}
use Rattle.lk_run.proofs.Names.{G10, G11, IsNode, Fronts, Precedes, Steps}
use Rattle.lk_run.specs.declared.rest.Rest.TheVariants as rest
use Rattle.lk_run.proofs.Calling as on
use Rattle.lk_run.proofs.Turning as turn
use Rattle.lk_run.proofs.call.Front.pass_on.Goals as goal

pub wait_for_next-requires : goal.wait_for_next-requires
wait_for_next-requires c = c.requires

pub hand_on-requires-clause-next : goal.hand_on-requires-clause-next
hand_on-requires-clause-next c = subst (λ o. IfSome o (IsNode c.args.self.now.call.domain.now.plan)) c.in-Some.is c.wait_for_next.ensures.node

pub hand_on-requires-clause-waits : goal.hand_on-requires-clause-waits
hand_on-requires-clause-waits c =
    let n = c.args.self.now in
    let step = subst (λ o. IfSome o (λ next. Steps n.call G10 (Fronts n.own n.second) G11 (Precedes n.own n.second next) c.args.cpu.now c.wait_for_next.new.cpu)) c.in-Some.is c.wait_for_next.ensures.next in
    on.stepped step c.requires

pub returns-in-Some : goal.returns-in-Some
returns-in-Some c =
    let n = c.args.self.now in
    let step = subst (λ o. IfSome o (λ next. Steps n.call G10 (Fronts n.own n.second) G11 (Precedes n.own n.second next) c.args.cpu.now c.wait_for_next.new.cpu)) c.in-Some.is c.wait_for_next.ensures.next in
    turn.step_turns step (turn.takes_turns c.hand_on.ensures)

pub returns : goal.returns
returns c = turn.look_turns (rest.Hands (record { own = c.args.self.now.own; second = c.args.self.now.second })) (c.wait_for_next.ensures.stays c.in_default.is) (record { nodes = record { own = c.args.self.now.node; second = c.args.self.now.aside }; knows = tt })
