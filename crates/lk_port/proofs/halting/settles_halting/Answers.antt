use Rattle.std.proofs.Common.{refl, ap, subst}
use Rattle.lk_rows.specs.declared.parts.Pc.TheVariants.{G1}
use Rattle.lk_domain.specs.Paths.{Any}
use Rattle.lk_pvdomain.specs.PvPaths.{At}
use Rattle.lk_pvdomain.specs.PvTurns.{waiter_in}
use Rattle.lk_port.proofs.Names.{Domain, Lock, own_node}
use Rattle.lk_port.proofs.Shares.{halts_by, same_domain}
use Rattle.lk_port.proofs.halting.settles_halting.Goals as goal

pub returns-in-Waits-clause-pending : goal.returns-in-Waits-clause-pending
returns-in-Waits-clause-pending c ne s begun =
    let d = c.halting.result.now in
    let cpu = c.args.cpu.now in
    let share = c.args.share.now in
    let w = c.in-Waits.waiter in
    let at = subst (λ (e : Domain). At e Lock c.args.lock.index (own_node cpu) s G1 Any cpu.seat) (same_domain share d c.halting.ensures) begun in
    halts_by _ _ share d c.halting.ensures (w, refl, c.pv_settle.ensures.waits w (ap waiter_in c.in-Waits.is) s at)

pub returns-in-Halts-clause-pending : goal.returns-in-Halts-clause-pending
returns-in-Halts-clause-pending c ne s begun =
    let d = c.halting.result.now in
    let cpu = c.args.cpu.now in
    let share = c.args.share.now in
    let w = c.in-Halts.waiter in
    let at = subst (λ (e : Domain). At e Lock c.args.lock.index (own_node cpu) s G1 Any cpu.seat) (same_domain share d c.halting.ensures) begun in
    halts_by _ _ share d c.halting.ensures (w, refl, c.pv_settle.ensures.waits w (ap waiter_in c.in-Halts.is) s at)
