use Rattle.std.proofs.Common.{arith, ℕ, subst, sym, inl, inr}
use Rattle.lk_reach.proofs.Names.{cases_eq, IsPlaced}
use Rattle.lk_reach.proofs.order.Order.fits.Goals as goal

pub loop-cpu-preserved : goal.loop-cpu-preserved
loop-cpu-preserved c =
    let now = c.is_placed.ensures c.if-not-is_placed.false in
    λ p low.
    elim (cases_eq p c.loop-cpu.cpu) [
      | inl e ↦ subst (λ (q : ℕ). IsPlaced c.args.peers.now.firsts c.args.cpus c.args.self.now q) (sym e) now
      | inr ne ↦ c.loop-cpu.invariant p (omega (arith, low, ne))
    ]

pub returns : goal.returns
returns c =
    let end = c.loop-cpu-test.false in
    λ yes p low. c.loop-cpu.invariant p (omega (arith, low, end))
