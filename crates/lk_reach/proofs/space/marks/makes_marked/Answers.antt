use Rattle.std.proofs.Common.{arith, ℕ, subst, inl, inr}
use Rattle.lk_reach.proofs.Names.{cases_eq, slice_get_within}
use Rattle.lk_reach.specs.Rows.{MakesAt}
use Rattle.lk_reach.proofs.space.marks.makes_marked.Goals as goal

pub loop-at-preserved : goal.loop-at-preserved
loop-at-preserved c = λ i low makes.
    elim (cases_eq i c.loop-at.«at») [
      | inl e ↦ c.makes_at.ensures.no c.if-makes_at.false
          (subst (λ (k : ℕ). MakesAt c.args.parts.now c.args.marks.now.items c.args.row k) e makes)
      | inr ne ↦ c.loop-at.invariant i (omega (arith, low, ne)) makes
    ]

pub returns-then-makes_at : goal.returns-then-makes_at
returns-then-makes_at c = record {
  yes = λ yes. (c.loop-at.«at», c.makes_at.ensures.yes c.if-makes_at.true);
  no = λ no. cc;
}

pub returns : goal.returns
returns c =
    let end = c.loop-at-test.false in
    record {
      yes = λ yes. cc;
      no = λ no makes.
          let low = slice_get_within c.args.parts.now makes.0 makes.1.part makes.1.is in
          c.loop-at.invariant makes.0 (omega (arith, low, end)) makes.1;
    }
