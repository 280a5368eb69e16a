use Rattle.std.proofs.Common.{ℕ, sym, subst}
use Rattle.lk_domain.proofs.Names.{IsHomeAt}
use Rattle.lk_domain.proofs.FreeTurns.{within_reach}
use Rattle.lk_domain.proofs.free_turns.work_held.Goals as goal

pub work_at-requires-clause-held : goal.work_at-requires-clause-held
work_at-requires-clause-held g c =
    let d = c.args.domain.now in
    let cpu = c.args.cpu.now in
    subst (λ (q : ℕ). IsHomeAt d.plan q cpu.seat.me.0.who.number cpu.seat.me.0.calls.holds) (sym c.home_of-home.ensures)
    (within_reach c.args.manner d.plan c.args.lock.index cpu.number cpu.seat.me.0 c.requires.lock cpu.numbered c.requires.held)
