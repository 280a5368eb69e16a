use Rattle.std.proofs.Common.{subst}
use Rattle.lk_run.proofs.Names.{IsNode, IsMoreNode}
use Rattle.lk_run.specs.declared.rest.Rest.TheVariants as rest
use Rattle.lk_run.proofs.Calling as on
use Rattle.lk_run.proofs.Turning as turn
use Rattle.lk_run.proofs.call.Front.pass_over.Goals as goal

pub look_more-requires-clause-b : goal.look_more-requires-clause-b
look_more-requires-clause-b c = c.requires.last

pub look_more-requires-clause-waits : goal.look_more-requires-clause-waits
look_more-requires-clause-waits c = record { skipped = c.args.skipped.first; at = c.requires.waits }

pub returns-in-Skips : goal.returns-in-Skips
returns-in-Skips c =
    let x = c.args.skipped in
    turn.look_turns (rest.Passes (record { head = (record { own = c.args.self.now.own; second = c.args.self.now.second }); skipped = record { first = x.first; mark = x.mark; last = c.in-Skips.next } })) (c.look_more.ensures.skips x.first c.in-Skips.next c.in-Skips.is)
    (record { nodes = (record { own = c.args.self.now.node; second = c.args.self.now.aside }, c.requires.first, subst (IsMoreNode c.args.self.now.call.domain.now.plan) c.in-Skips.is c.look_more.ensures.node); knows = c.look_more.ensures.knows c.args.skipped.first c.args.skipped.mark c.requires.knows })

pub append-requires-clause-first : goal.append-requires-clause-first
append-requires-clause-first c = (subst (IsMoreNode c.args.self.now.call.domain.now.plan) c.in-Appends.is c.look_more.ensures.node).0

pub append-requires-clause-y : goal.append-requires-clause-y
append-requires-clause-y c = (subst (IsMoreNode c.args.self.now.call.domain.now.plan) c.in-Appends.is c.look_more.ensures.node).1

pub append-requires-clause-waits : goal.append-requires-clause-waits
append-requires-clause-waits c = on.stepped (c.look_more.ensures.appends c.args.skipped.first c.in-Appends.first c.in-Appends.y c.in-Appends.is) c.requires.waits

pub append-requires-clause-knows : goal.append-requires-clause-knows
append-requires-clause-knows c = c.look_more.ensures.knows c.args.skipped.first c.args.skipped.mark c.requires.knows

pub returns-in-Appends : goal.returns-in-Appends
returns-in-Appends c = turn.step_turns (c.look_more.ensures.appends c.args.skipped.first c.in-Appends.first c.in-Appends.y c.in-Appends.is) (turn.takes_turns c.append.ensures)

pub part-requires-clause-y : goal.part-requires-clause-y
part-requires-clause-y c = subst (IsMoreNode c.args.self.now.call.domain.now.plan) c.in-Begins.is c.look_more.ensures.node

pub part-requires-clause-waits : goal.part-requires-clause-waits
part-requires-clause-waits c = on.stepped (c.look_more.ensures.begins c.args.skipped.first c.in-Begins.y c.in-Begins.is) c.requires.waits

pub returns-in-Begins : goal.returns-in-Begins
returns-in-Begins c = turn.step_turns (c.look_more.ensures.begins c.args.skipped.first c.in-Begins.y c.in-Begins.is) (turn.takes_turns c.part.ensures)

pub flush-requires-clause-first : goal.flush-requires-clause-first
flush-requires-clause-first c = subst (IsMoreNode c.args.self.now.call.domain.now.plan) c.in-Flushes.is c.look_more.ensures.node

pub flush-requires-clause-waits : goal.flush-requires-clause-waits
flush-requires-clause-waits c = on.stepped (c.look_more.ensures.flushes c.args.skipped.first c.in-Flushes.first c.in-Flushes.is) c.requires.waits

pub flush-requires-clause-knows : goal.flush-requires-clause-knows
flush-requires-clause-knows c = c.look_more.ensures.knows c.args.skipped.first c.args.skipped.mark c.requires.knows

pub returns-in-Flushes : goal.returns-in-Flushes
returns-in-Flushes c = turn.step_turns (c.look_more.ensures.flushes c.args.skipped.first c.in-Flushes.first c.in-Flushes.is) (turn.takes_turns c.flush.ensures)

pub give-requires-clause-second : goal.give-requires-clause-second
give-requires-clause-second c = let q = c.args.self.now in on.if_some (IsNode q.call.domain.now.plan) q.second q.aside

pub give-requires-clause-waits : goal.give-requires-clause-waits
give-requires-clause-waits c = on.stepped (c.look_more.ensures.chooses c.args.skipped.first c.in-Chooses.is) c.requires.waits

pub returns-in-Chooses : goal.returns-in-Chooses
returns-in-Chooses c = turn.step_turns (c.look_more.ensures.chooses c.args.skipped.first c.in-Chooses.is) (turn.takes_turns c.give.ensures)
