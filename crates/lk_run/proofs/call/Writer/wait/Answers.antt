use Rattle.lk_run.proofs.Steps.{still_of, rest_both}
use Rattle.lk_run.proofs.RwTurning as on
use Rattle.lk_run.proofs.Turning as turn
use Rattle.lk_run.specs.declared.write_waiter.WritePlace.TheVariants as place
use Rattle.lk_run.proofs.RwCalling as row
use Rattle.lk_run.proofs.call.Writer.wait.Goals as goal

pub watch-requires : goal.watch-requires
watch-requires c = on.at_row c.requires

pub claim-requires : goal.claim-requires
claim-requires c = row.stepped (c.watch.ensures.cleared c.if-watch.true) (on.at_row c.requires)

pub leave-requires-clause-domain : goal.leave-requires-clause-domain
leave-requires-clause-domain c =
    let passed = row.step_gets (c.watch.ensures.cleared c.if-watch.true) (c.claim.ensures.passed c.if-claim.true) in
    still_of c.args.self.now.domain.now c.args.cpu.now c.claim.new.cpu passed.rest c.requires.domain

pub leave-requires-clause-passed : goal.leave-requires-clause-passed
leave-requires-clause-passed c =
    let h = c.requires in
    (h.start, h.told, (row.step_gets (c.watch.ensures.cleared c.if-watch.true) (c.claim.ensures.passed c.if-claim.true)).has h.start h.told h.at)

pub returns-then-claim : goal.returns-then-claim
returns-then-claim c =
    let passed = row.step_gets (c.watch.ensures.cleared c.if-watch.true) (c.claim.ensures.passed c.if-claim.true) in
    turn.ends (rest_both c.args.cpu.now c.claim.new.cpu c.leave.new.cpu passed.rest c.leave.ensures.rest)
    (λ s t h. c.leave.ensures.came s t (passed.has s t h))

pub returns-then-watch : goal.returns-then-watch
returns-then-watch c =
    let missed = row.step_both (c.watch.ensures.cleared c.if-watch.true) (c.claim.ensures.biased c.if-claim.false) in
    turn.rests place.Watches missed.rest tt (λ s t h. (missed.goes s t h).looked)

pub returns : goal.returns
returns c =
    let held = c.watch.ensures.held c.if-watch.false in
    turn.rests place.Watches held.rest tt held.stays
