use Rattle.std.proofs.Common.{None, false}
use Rattle.lk_run.proofs.Steps.{still_of}
use Rattle.lk_run.specs.Phases.{starting}
use Rattle.lk_polled_tests.proofs.reading.begins.Goals as goal

-- it stands in the call that began where the processor was
pub returns : goal.returns
returns c w is =
    let still = still_of c.args.domain.now c.args.cpu.now c.begin_read.new.cpu c.begin_read.ensures.rest c.requires.domain_is in
    (still, starting c.args.cpu.now false None, c.begin_read.ensures.waits w is false)
