use Rattle.std.proofs.Common.{ℕ, sym, subst}
use Rattle.lk_domain.proofs.Names.{IsHomeAt}
use Rattle.lk_domain.proofs.seats.Homes.{copy_held}
use Rattle.lk_domain.proofs.values.with_copy.Goals as goal

pub work_at-requires-clause-held : goal.work_at-requires-clause-held
work_at-requires-clause-held g c =
    let d = c.args.domain.now in
    let cpu = c.args.cpu.now in
    subst (λ (q : ℕ). IsHomeAt d.plan q cpu.seat.me.0.who.number cpu.seat.me.0.calls.holds) (sym c.copy_home-copy.ensures.home)
    (copy_held d.plan c.args.lock.index c.args.number cpu.seat.me.0 c.requires.lock c.requires.held)
