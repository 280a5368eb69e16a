use Rattle.std.proofs.Common.{ℕ, arith, subst}
use Rattle.lk_reach.proofs.Names.{IsPlaced, cpus_of}
use Rattle.lk_reach.proofs.apart.Orders.{fits_at_rest, own_fitting, placed_fitting}
use Rattle.lk_reach.proofs.folding.order_for.Goals as goal

pub returns-then-fits : goal.returns-then-fits
returns-then-fits c =
    let p = c.args.plan.now in
    let z = c.args.machine.now.setup in
    let begun = c.requires.begun in
    let size = c.cpus.ensures in
    let cpus = c.requires.such.cpus in
    let few = c.requires.few in
    fits_at_rest p z _ begun c.requires.folds
    (placed_fitting z p.peers.firsts c.order_of-order.result (begun.folds c.requires.folds).peers (omega (arith, cpus, few))
    (λ q low. subst (λ (n : ℕ). IsPlaced p.peers.firsts n c.order_of-order.result q) (omega (arith, size, cpus))
    (c.fits.ensures c.if-fits.true q low)))

pub returns-else-fits : goal.returns-else-fits
returns-else-fits c =
    let p = c.args.plan.now in
    let z = c.args.machine.now.setup in
    fits_at_rest p z _ c.requires.begun c.requires.folds (own_fitting z (cpus_of z) c.none.result c.none.ensures.to c.none.ensures.back)
