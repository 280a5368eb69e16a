use Rattle.std.proofs.Common.{None, false}
use Rattle.lk_run.proofs.Steps.{still_of}
use Rattle.lk_run.specs.Phases.{starting}
use Rattle.lk_polled_tests.proofs.writing.begins.Goals as goal

-- it stands in the call that began where the processor was
pub returns : goal.returns
returns c w is =
    let still = still_of c.args.domain.now c.args.cpu.now c.begin_write.new.cpu c.begin_write.ensures.rest c.requires.domain_is in
    (still, starting c.args.cpu.now false None, c.begin_write.ensures.waits w is false)
