use Rattle.std.proofs.Common.{None, true}
use Rattle.lk_run.proofs.Names.{starting}
use Rattle.lk_run.proofs.Steps.{still_of, rest_both}
use Rattle.lk_run.proofs.polled_read.begin_read.Goals as goal

pub begin_read_slowpath-requires-clause-domain : goal.begin_read_slowpath-requires-clause-domain
begin_read_slowpath-requires-clause-domain c = still_of c.args.domain.now c.args.cpu.now c.first.new.cpu c.first.ensures.rest c.requires.domain

pub begin_read_slowpath-requires-clause-begun : goal.begin_read_slowpath-requires-clause-begun
begin_read_slowpath-requires-clause-begun c = (starting c.args.cpu.now true None, c.first.ensures.begins.waits c.if-first.false true None)

pub returns-clause-rest : goal.returns-clause-rest
returns-clause-rest c =
    rest_both c.args.cpu.now c.first.new.cpu c.begin_read_slowpath.new.cpu c.first.ensures.rest c.begin_read_slowpath.ensures.rest

pub returns-clause-entered : goal.returns-clause-entered
returns-clause-entered c e nests =
    c.begin_read_slowpath.ensures.entered e (starting c.args.cpu.now nests None) (c.first.ensures.begins.waits c.if-first.false nests None)

pub returns-clause-waits : goal.returns-clause-waits
returns-clause-waits c w e nests =
    c.begin_read_slowpath.ensures.waits w e (starting c.args.cpu.now nests None) (c.first.ensures.begins.waits c.if-first.false nests None)
