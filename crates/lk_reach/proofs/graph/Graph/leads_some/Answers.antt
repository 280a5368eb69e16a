use Rattle.std.proofs.Common.{arith, ℕ, subst, inl, inr}
use Rattle.lk_reach.proofs.Names.{cases_eq, slice_get_within, LeadsTo}
use Rattle.lk_reach.proofs.graph.Graph.leads_some.Goals as goal

pub loop-act-preserved : goal.loop-act-preserved
loop-act-preserved c =
    let inv = c.loop-act.invariant in
    let none = c.leads_marked.ensures.no c.if-leads_marked.false in
    let b = c.args.self.now.book in
    λ i j low leads.
    elim (cases_eq i c.loop-act.act) [
      | inl e ↦ none j (subst (λ (h : ℕ). LeadsTo b c.args.state h j) e leads)
      | inr ne ↦ inv i j (omega (arith, low, ne)) leads
    ]

pub returns : goal.returns
returns c =
    let end = c.loop-act-test.false in
    let size = c.acts-act-end.ensures in
    let b = c.args.self.now.book in
    record {
      yes = λ yes. cc;
      no = λ none i j leads.
          let low = slice_get_within b.thens.items i leads.column leads.is in
          c.loop-act.invariant i j (omega (arith, low, end, size)) leads;
    }
