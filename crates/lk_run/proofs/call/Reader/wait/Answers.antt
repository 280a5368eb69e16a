use Rattle.lk_run.proofs.Steps.{still_of, rest_both}
use Rattle.lk_run.proofs.RwTurning as on
use Rattle.lk_run.proofs.Turning as turn
use Rattle.lk_run.specs.declared.read_waiter.ReadPlace.TheVariants as place
use Rattle.lk_run.proofs.call.Reader.wait.Goals as goal

pub watch-requires-clause-alone : goal.watch-requires-clause-alone
watch-requires-clause-alone c = on.one_call c.requires.at

pub watch-requires-clause-waits : goal.watch-requires-clause-waits
watch-requires-clause-waits c = on.at_alone c.requires

pub leave-requires-clause-domain : goal.leave-requires-clause-domain
leave-requires-clause-domain c =
    still_of c.args.self.now.domain.now c.args.cpu.now c.watch.new.cpu (c.watch.ensures.passed c.if-watch.true).rest c.requires.domain

pub leave-requires-clause-passed : goal.leave-requires-clause-passed
leave-requires-clause-passed c =
    let h = c.requires in
    (h.start, h.told, (c.watch.ensures.passed c.if-watch.true).has h.start h.told h.at.1)

pub returns-then-watch : goal.returns-then-watch
returns-then-watch c =
    let passed = c.watch.ensures.passed c.if-watch.true in
    turn.ends (rest_both c.args.cpu.now c.watch.new.cpu c.leave.new.cpu passed.rest c.leave.ensures.rest)
    (λ s t h. c.leave.ensures.came s t (passed.has s t h.1))

pub returns : goal.returns
returns c =
    let held = c.watch.ensures.held c.if-watch.false in
    turn.rests place.Watches held.rest tt (λ s t h. (h.0, held.stays s t h.1))
