use Rattle.std.proofs.Common.{ℕ, arith, get_or, inl, inr, length-set, set, subst, sym, ◌∙◌}
use Rattle.std.proofs.lemmas.List.{get_or-set_other, get_or-set_same}
use Rattle.lk_reach.proofs.Names.{cases_eq, IsPeer}
use Rattle.lk_reach.proofs.apart.Alike.{first_all}
use Rattle.lk_reach.proofs.peers.Peers.new.Goals as goal

pub loop-cpu-preserved : goal.loop-cpu-preserved
loop-cpu-preserved c =
    let inv = c.loop-cpu.invariant in
    let z = c.args.setup.now in
    let xs = c.loop-cpu.firsts in
    let n = c.loop-cpu.cpu in
    let i = c.first_peer.result in
    let low = c.loop-cpu-test.true in
    let size = inv.size in
    record {
      size = length-set xs n i ∙ size;
      each = λ p under. elim (cases_eq p n) [
        | inl e ↦ subst (λ (k : ℕ). IsPeer z (get_or (set xs n i) k k) k) (sym e)
            (subst (λ (k : ℕ). IsPeer z k n) (sym (get_or-set_same xs n i n (omega (arith, low, size)))) c.first_peer.ensures)
        | inr ne ↦ subst (λ (k : ℕ). IsPeer z k p) (sym (get_or-set_other xs n p i p ne)) (inv.each p (omega (arith, under, ne)))
      ];
    }

pub returns : goal.returns
returns c =
    let end = c.loop-cpu-test.false in
    first_all c.args.setup.now c.loop-cpu.firsts (λ p low. c.loop-cpu.invariant.each p (omega (arith, low, end)))
