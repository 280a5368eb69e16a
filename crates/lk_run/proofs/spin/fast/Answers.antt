use Rattle.std.proofs.Common.{refl}
use Rattle.lk_run.proofs.Names.{Lock, takes_by, view_of}
use Rattle.lk_run.proofs.Steps.{plain_in, seat_of}
use Rattle.lk_domain.proofs.Ways as seat
use Rattle.lk_run.proofs.Fast as fast
use Rattle.lk_run.proofs.spin.fast.Goals as goal

pub take_first-requires-clause-row : goal.take_first-requires-clause-row
take_first-requires-clause-row c =
    let d = c.args.domain.now in
    let a = c.args.cpu.now in
    let may = c.requires.may in
    plain_in (takes_by Lock) (view_of a) Lock c.args.lock c.requires.plain refl
    (seat.acts_first (takes_by Lock) d.plan a.number Lock c.args.lock.index (view_of a) (seat_of d a c.requires.domain) refl may.fresh may.free may.few c.requires.kind refl)

pub returns-clause-taken : goal.returns-clause-taken
returns-clause-taken c is nests told =
    fast.takes c.args.domain.now c.args.lock c.requires.plain c.args.cpu.now c.take_first.new.cpu c.take_first.ensures.rest
    c.requires.domain c.requires.may.fresh c.take_first.result c.take_first.ensures.step nests told is

pub returns-clause-waits : goal.returns-clause-waits
returns-clause-waits c other nests told =
    fast.arrives c.args.domain.now c.args.lock c.requires.plain c.args.cpu.now c.take_first.new.cpu c.take_first.ensures.rest
    c.requires.domain c.requires.may.fresh c.take_first.result c.take_first.ensures.step nests told other
