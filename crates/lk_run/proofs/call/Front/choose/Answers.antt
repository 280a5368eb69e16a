use Rattle.std.proofs.Common.{Option, subst, sym}
use Rattle.lk_run.proofs.Names.{NodeName, C1, C3, IsNode, IsFirstNode, Fronts, Promotes, Steps}
use Rattle.lk_run.specs.declared.rest.Rest.TheVariants as rest
use Rattle.lk_run.proofs.Calling as on
use Rattle.lk_run.proofs.Turning as turn
use Rattle.lk_run.proofs.call.Front.choose.Goals as goal

pub look_first-behind-requires : goal.look_first-behind-requires
look_first-behind-requires c = c.requires

pub returns-in-Waits : goal.returns-in-Waits
returns-in-Waits c = turn.look_turns (rest.Chooses (record { own = c.args.self.now.own; second = c.args.self.now.second })) (c.look_first-behind.ensures.waits c.in-Waits.is) (record { nodes = record { own = c.args.self.now.node; second = c.args.self.now.aside }; knows = tt })

pub find_tail-t-requires-clause-first : goal.find_tail-t-requires-clause-first
find_tail-t-requires-clause-first c = subst (IsFirstNode c.args.self.now.call.domain.now.plan) c.in-Promotes.is c.look_first-behind.ensures.node

pub find_tail-t-requires-clause-waits : goal.find_tail-t-requires-clause-waits
find_tail-t-requires-clause-waits c =
    let at = on.stepped (c.look_first-behind.ensures.promotes c.in-Promotes.first c.in-Promotes.is) c.requires in
    on.weaker at at.waits.looked.at.has.fronts

pub promote-requires-clause-t : goal.promote-requires-clause-t
promote-requires-clause-t c = c.find_tail-t.ensures.node

pub promote-requires-clause-waits : goal.promote-requires-clause-waits
promote-requires-clause-waits c = record { second = c.in-Promotes.first; at = on.stepped c.find_tail-t.ensures.promotes (on.stepped (c.look_first-behind.ensures.promotes c.in-Promotes.first c.in-Promotes.is) c.requires) }

pub give-requires-clause-y : goal.give-requires-clause-y
give-requires-clause-y c = subst (IsFirstNode c.args.self.now.call.domain.now.plan) c.in-Promotes.is c.look_first-behind.ensures.node

pub give-requires-clause-waits : goal.give-requires-clause-waits
give-requires-clause-waits c =
    on.stepped (c.promote.ensures.promoted c.if-promote.true c.in-Promotes.first)
    (on.stepped c.find_tail-t.ensures.promotes (on.stepped (c.look_first-behind.ensures.promotes c.in-Promotes.first c.in-Promotes.is) c.requires))

pub returns-then-promote : goal.returns-then-promote
returns-then-promote c =
    let taken = on.step_takes c.find_tail-t.ensures.promotes (on.step_takes (c.promote.ensures.promoted c.if-promote.true c.in-Promotes.first) c.give.ensures) in
    turn.step_turns (c.look_first-behind.ensures.promotes c.in-Promotes.first c.in-Promotes.is) (turn.takes_turns taken)

pub returns-else-promote : goal.returns-else-promote
returns-else-promote c =
    let q = c.args.self.now in
    let named = sym (c.look_first-behind.ensures.named c.in-Promotes.first c.in-Promotes.is) in
    let tried = on.step_both c.find_tail-t.ensures.promotes (c.promote.ensures.others c.if-promote.false c.in-Promotes.first) in
    let back = subst (λ (o : Option NodeName). Steps q.call C3 (Promotes q.own c.in-Promotes.first) C1 (Fronts q.own o) c.look_first-behind.new.cpu c.promote.new.cpu) named tried in
    turn.goes_turns (rest.Chooses (record { own = c.args.self.now.own; second = c.args.self.now.second })) (on.step_both (c.look_first-behind.ensures.promotes c.in-Promotes.first c.in-Promotes.is) back) (record { nodes = record { own = c.args.self.now.node; second = c.args.self.now.aside }; knows = tt })

pub give-requires-in-Chooses-clause-second : goal.give-requires-in-Chooses-clause-second
give-requires-in-Chooses-clause-second c = let q = c.args.self.now in on.if_some (IsNode q.call.domain.now.plan) q.second q.aside

pub give-requires-in-Chooses-clause-y : goal.give-requires-in-Chooses-clause-y
give-requires-in-Chooses-clause-y c = subst (IsFirstNode c.args.self.now.call.domain.now.plan) c.in-Chooses.is c.look_first-behind.ensures.node

pub give-requires-in-Chooses-clause-waits : goal.give-requires-in-Chooses-clause-waits
give-requires-in-Chooses-clause-waits c = on.stepped (c.look_first-behind.ensures.chooses c.in-Chooses.y c.in-Chooses.is) c.requires

pub returns-in-Chooses : goal.returns-in-Chooses
returns-in-Chooses c = turn.step_turns (c.look_first-behind.ensures.chooses c.in-Chooses.y c.in-Chooses.is) (turn.takes_turns c.give-in-Chooses.ensures)

pub pass_over-requires-clause-first : goal.pass_over-requires-clause-first
pass_over-requires-clause-first c = subst (IsFirstNode c.args.self.now.call.domain.now.plan) c.in-Skips.is c.look_first-behind.ensures.node

pub pass_over-requires-clause-last : goal.pass_over-requires-clause-last
pass_over-requires-clause-last c = subst (IsFirstNode c.args.self.now.call.domain.now.plan) c.in-Skips.is c.look_first-behind.ensures.node

pub pass_over-requires-clause-waits : goal.pass_over-requires-clause-waits
pass_over-requires-clause-waits c = on.stepped (c.look_first-behind.ensures.skips c.in-Skips.a c.in-Skips.is) c.requires

pub pass_over-requires-clause-knows : goal.pass_over-requires-clause-knows
pass_over-requires-clause-knows c = c.look_first-behind.ensures.skipped c.in-Skips.a c.in-Skips.is

pub returns-in-Skips : goal.returns-in-Skips
returns-in-Skips c = turn.step_turns (c.look_first-behind.ensures.skips c.in-Skips.a c.in-Skips.is) c.pass_over.ensures

pub flush-requires-clause-first : goal.flush-requires-clause-first
flush-requires-clause-first c = (subst (IsFirstNode c.args.self.now.call.domain.now.plan) c.in-Flushes.is c.look_first-behind.ensures.node).0

pub flush-requires-clause-a : goal.flush-requires-clause-a
flush-requires-clause-a c = (subst (IsFirstNode c.args.self.now.call.domain.now.plan) c.in-Flushes.is c.look_first-behind.ensures.node).1

pub flush-requires-clause-waits : goal.flush-requires-clause-waits
flush-requires-clause-waits c = on.stepped (c.look_first-behind.ensures.flushes c.in-Flushes.first c.in-Flushes.a c.in-Flushes.is) c.requires

pub flush-requires-clause-knows : goal.flush-requires-clause-knows
flush-requires-clause-knows c = c.look_first-behind.ensures.flushed c.in-Flushes.first c.in-Flushes.a c.in-Flushes.is

pub returns-in-Flushes : goal.returns-in-Flushes
returns-in-Flushes c = turn.step_turns (c.look_first-behind.ensures.flushes c.in-Flushes.first c.in-Flushes.a c.in-Flushes.is) (turn.takes_turns c.flush.ensures)
