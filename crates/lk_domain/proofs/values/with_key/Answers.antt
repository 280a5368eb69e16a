use Rattle.lk_domain.proofs.seats.Homes.{alone_at}
use Rattle.lk_domain.proofs.values.with_key.Goals as goal

pub work_at-requires-clause-held : goal.work_at-requires-clause-held
work_at-requires-clause-held g c =
    alone_at c.args.domain.now.plan c.args.lock.index c.args.cpu.now.seat.me.0 c.requires.lock c.requires.held
