use Rattle.lk_run.proofs.Steps.{still_of, rest_both}
use Rattle.lk_run.proofs.RwTurning as on
use Rattle.lk_run.proofs.Turning as turn
use Rattle.lk_run.proofs.RwCalling as row
use Rattle.lk_run.proofs.call.Writer.enter.Goals as goal

pub seize-requires : goal.seize-requires
seize-requires c = on.at_row c.requires

pub leave-requires-clause-domain : goal.leave-requires-clause-domain
leave-requires-clause-domain c =
    still_of c.args.self.now.domain.now c.args.cpu.now c.seize.new.cpu (c.seize.ensures.passed c.if-seize.true).rest c.requires.domain

pub leave-requires-clause-passed : goal.leave-requires-clause-passed
leave-requires-clause-passed c =
    let h = c.requires in
    (h.start, h.told, (c.seize.ensures.passed c.if-seize.true).has h.start h.told h.at)

pub returns-then-seize : goal.returns-then-seize
returns-then-seize c =
    let passed = c.seize.ensures.passed c.if-seize.true in
    turn.ends (rest_both c.args.cpu.now c.seize.new.cpu c.leave.new.cpu passed.rest c.leave.ensures.rest)
    (λ s t h. c.leave.ensures.came s t (passed.has s t h))

pub announce-requires : goal.announce-requires
announce-requires c = row.stepped (c.seize.ensures.others c.if-seize.false) (on.at_row c.requires)

pub wait-requires : goal.wait-requires
wait-requires c =
    let h = c.requires in
    let others = row.step_both (c.seize.ensures.others c.if-seize.false) c.announce.ensures in
    record {
      domain = still_of c.args.self.now.domain.now c.args.cpu.now c.announce.new.cpu others.rest h.domain;
      start = h.start;
      told = h.told;
      at = others.goes h.start h.told h.at;
    }

pub returns : goal.returns
returns c =
    let others = row.step_both (c.seize.ensures.others c.if-seize.false) c.announce.ensures in
    turn.after others.rest others.goes c.wait.ensures
