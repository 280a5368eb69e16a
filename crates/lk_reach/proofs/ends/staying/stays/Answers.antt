use Rattle.std.proofs.Common.{arith, ℕ, subst, inl, inr}
use Rattle.lk_reach.proofs.Names.{cases_eq, slice_get_within, LeadsTo}
use Rattle.lk_reach.proofs.ends.staying.stays.Goals as goal

pub loop-act-preserved : goal.loop-act-preserved
loop-act-preserved c =
    let inv = c.loop-act.invariant in
    let none = c.is_edge.ensures c.if-is_edge.false in
    let b = c.args.book.now in
    λ i j low leads.
    elim (cases_eq i c.loop-act.act) [
      | inl e ↦ none j (subst (λ (h : ℕ). LeadsTo b c.args.state h j) e leads)
      | inr ne ↦ inv i j (omega (arith, low, ne)) leads
    ]

pub returns : goal.returns
returns c =
    let end = c.loop-act-test.false in
    let size = c.acts-act-end.ensures in
    let b = c.args.book.now in
    λ all i j leads.
    let low = slice_get_within b.thens.items i leads.column leads.is in
    c.loop-act.invariant i j (omega (arith, low, end, size)) leads
