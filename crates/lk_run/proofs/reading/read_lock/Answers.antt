use Rattle.std.proofs.Common.{refl}
use Rattle.lk_run.proofs.Names.{starting}
use Rattle.lk_run.proofs.Steps.{still_of, rest_both}
use Rattle.lk_run.proofs.reading.read_lock.Goals as goal

pub returns-then-first-clause-entered : goal.returns-then-first-clause-entered
returns-then-first-clause-entered g c = c.first.ensures.begins.entered c.if-first.true g.I.Irq.nests (g.I.Irq.polls c.args.irq.now)

pub read_slowpath-requires-clause-domain : goal.read_slowpath-requires-clause-domain
read_slowpath-requires-clause-domain g c = still_of c.args.domain.now c.args.cpu.now c.first.new.cpu c.first.ensures.rest c.requires.domain

pub read_slowpath-requires-clause-begun : goal.read_slowpath-requires-clause-begun
read_slowpath-requires-clause-begun g c =
    let told = g.I.Irq.polls c.args.irq.now in
    record {
      start = starting c.args.cpu.now g.I.Irq.nests told;
      nests_is = refl;
      at = c.first.ensures.begins.waits c.if-first.false g.I.Irq.nests told;
    }

pub returns-clause-rest : goal.returns-clause-rest
returns-clause-rest g c = rest_both c.args.cpu.now c.first.new.cpu c.read_slowpath.new.cpu c.first.ensures.rest c.read_slowpath.ensures.rest

pub returns-clause-entered : goal.returns-clause-entered
returns-clause-entered g c =
    let told = g.I.Irq.polls c.args.irq.now in
    c.read_slowpath.ensures.has (starting c.args.cpu.now g.I.Irq.nests told) refl (c.first.ensures.begins.waits c.if-first.false g.I.Irq.nests told)
