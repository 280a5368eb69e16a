use Rattle.lk_run.proofs.Steps.{still_of}
use Rattle.lk_polled_tests.proofs.writing.polls.Goals as goal

pub returns-clause-domain : goal.returns-clause-domain
returns-clause-domain c = still_of c.args.domain.now c.args.cpu.now c.poll_write.new.cpu c.poll_write.ensures.rest c.requires.0

-- and in the same call after a turn
pub returns-clause-waits : goal.returns-clause-waits
returns-clause-waits c w is =
    let had = c.requires in
    let still = still_of c.args.domain.now c.args.cpu.now c.poll_write.new.cpu c.poll_write.ensures.rest had.0 in
    (still, had.1, c.poll_write.ensures.waits w is had.1 had.2)
