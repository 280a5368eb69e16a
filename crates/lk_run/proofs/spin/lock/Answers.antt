use Rattle.std.proofs.Common.{refl}
use Rattle.lk_run.proofs.Names.{starting}
use Rattle.lk_run.proofs.Steps.{still_of, rest_both}
use Rattle.lk_run.proofs.spin.lock.Goals as goal

pub returns-then-met-eq0-clause-taken : goal.returns-then-met-eq0-clause-taken
returns-then-met-eq0-clause-taken g c =
    (c.fast-met.ensures.taken c.if-met-eq0.true g.I.Irq.nests (g.I.Irq.polls c.args.irq.now)).taken

pub returns-then-met-eq0-clause-look : goal.returns-then-met-eq0-clause-look
returns-then-met-eq0-clause-look g c =
    (c.fast-met.ensures.taken c.if-met-eq0.true g.I.Irq.nests (g.I.Irq.polls c.args.irq.now)).look

pub returns-then-met-eq0-clause-polls : goal.returns-then-met-eq0-clause-polls
returns-then-met-eq0-clause-polls g c =
    (c.fast-met.ensures.taken c.if-met-eq0.true g.I.Irq.nests (g.I.Irq.polls c.args.irq.now)).polled

pub returns-then-met-eq0-clause-once : goal.returns-then-met-eq0-clause-once
returns-then-met-eq0-clause-once g c =
    (c.fast-met.ensures.taken c.if-met-eq0.true g.I.Irq.nests (g.I.Irq.polls c.args.irq.now)).once

pub lock_slowpath-requires-clause-domain : goal.lock_slowpath-requires-clause-domain
lock_slowpath-requires-clause-domain g c =
    still_of c.args.domain.now c.args.cpu.now c.fast-met.new.cpu c.fast-met.ensures.rest c.requires.domain

pub lock_slowpath-requires-clause-begun : goal.lock_slowpath-requires-clause-begun
lock_slowpath-requires-clause-begun g c =
    let told = g.I.Irq.polls c.args.irq.now in
    record {
      start = starting c.args.cpu.now g.I.Irq.nests told;
      nests_is = refl;
      at = c.fast-met.ensures.waits c.if-met-eq0.false g.I.Irq.nests told;
    }

pub returns-clause-rest : goal.returns-clause-rest
returns-clause-rest g c =
    rest_both c.args.cpu.now c.fast-met.new.cpu c.lock_slowpath.new.cpu c.fast-met.ensures.rest c.lock_slowpath.ensures.rest

pub returns-clause-taken : goal.returns-clause-taken
returns-clause-taken g c =
    let told = g.I.Irq.polls c.args.irq.now in
    (c.lock_slowpath.ensures.has (starting c.args.cpu.now g.I.Irq.nests told) refl
    (c.fast-met.ensures.waits c.if-met-eq0.false g.I.Irq.nests told)).taken

pub returns-clause-look : goal.returns-clause-look
returns-clause-look g c =
    let told = g.I.Irq.polls c.args.irq.now in
    (c.lock_slowpath.ensures.has (starting c.args.cpu.now g.I.Irq.nests told) refl
    (c.fast-met.ensures.waits c.if-met-eq0.false g.I.Irq.nests told)).look

pub returns-clause-polls : goal.returns-clause-polls
returns-clause-polls g c =
    let told = g.I.Irq.polls c.args.irq.now in
    (c.lock_slowpath.ensures.has (starting c.args.cpu.now g.I.Irq.nests told) refl
    (c.fast-met.ensures.waits c.if-met-eq0.false g.I.Irq.nests told)).polled

pub returns-clause-once : goal.returns-clause-once
returns-clause-once g c =
    let told = g.I.Irq.polls c.args.irq.now in
    (c.lock_slowpath.ensures.has (starting c.args.cpu.now g.I.Irq.nests told) refl
    (c.fast-met.ensures.waits c.if-met-eq0.false g.I.Irq.nests told)).once
