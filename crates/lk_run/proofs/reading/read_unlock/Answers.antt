use Rattle.std.proofs.Common.{refl}
use Rattle.lk_run.proofs.Names.{apart_of, quits_by, view_of}
use Rattle.lk_rows.specs.declared.setup.Verb.TheVariants.{RUnlock}
use Rattle.lk_domain.proofs.rw.Released.{reader, acts_leaving}
use Rattle.lk_run.proofs.Steps.{seat_of}
use Rattle.lk_run.proofs.RwTries as try
use Rattle.lk_run.proofs.reading.read_unlock.Goals as goal

pub subtract_bias-requires-clause-row : goal.subtract_bias-requires-clause-row
subtract_bias-requires-clause-row c =
    let d = c.args.domain.now in
    let a = c.args.cpu.now in
    acts_leaving d.plan a.number c.args.lock.index (view_of a) (seat_of d a c.requires.domain) (apart_of a d c.requires.domain) c.requires.few
    c.requires.kind reader (quits_by RUnlock) refl c.requires.held

pub returns-clause-left : goal.returns-clause-left
returns-clause-left c = try.leaves reader c.args.domain.now c.args.lock.index c.args.cpu.now c.subtract_bias.new.cpu c.requires.domain c.subtract_bias.ensures.step.by
