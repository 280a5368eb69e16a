use Rattle.std.proofs.Common.{arith, ◌≡◌, ◌∙◌, ℕ, Some, ap, inl, inr, refl, subst, sym, true}
use Rattle.std.proofs.Common.{slice_get}
use Rattle.lk_reach.proofs.Names.{cases_eq, is_over, SpaceValue}
use Rattle.lk_rows.specs.Machine.{cpu_at}
use Rattle.lk_reach.proofs.Kept.{one_value, part_there}
use Rattle.lk_reach.proofs.space.Space.are_over_at.Goals as goal

pub loop-cpu-preserved : goal.loop-cpu-preserved
loop-cpu-preserved c = λ s has count p low.
    let v = c.args.self.now in
    let key = has.key in
    let n = c.loop-cpu.cpu in
    let inside = c.loop-cpu-test.true in
    let number = c.part.ensures key (subst (λ (u : SpaceValue). slice_get u.keys c.args.state ≡ Some key) (sym c.self.view_is) has.is) in
    let there = part_there v c.args.state s key has refl n c.part.result (omega (arith, inside, count)) number in
    let is = c.requires.overs.each c.part.result (cpu_at s n) there in
    elim (cases_eq p n) [
      | inl e ↦ subst (λ (q : ℕ). is_over (cpu_at s q) ≡ true) (sym e)
          (one_value (slice_get c.args.overs.now.items c.part.result) (is_over (cpu_at s n)) true is
          (c.is_marked.ensures.yes c.if-not-is_marked.false))
      | inr ne ↦ c.loop-cpu.invariant s has count p (omega (arith, low, ne))
    ]

pub returns-then-not-is_marked-clause-no : goal.returns-then-not-is_marked-clause-no
returns-then-not-is_marked-clause-no c = λ no s has count over.
    let v = c.args.self.now in
    let key = has.key in
    let n = c.loop-cpu.cpu in
    let inside = c.loop-cpu-test.true in
    let number = c.part.ensures key (subst (λ (u : SpaceValue). slice_get u.keys c.args.state ≡ Some key) (sym c.self.view_is) has.is) in
    let there = part_there v c.args.state s key has refl n c.part.result (omega (arith, inside, count)) number in
    let is = c.requires.overs.each c.part.result (cpu_at s n) there in
    c.is_marked.ensures.no c.if-not-is_marked.true (is ∙ ap Some (over n (omega (arith, inside, count))))
