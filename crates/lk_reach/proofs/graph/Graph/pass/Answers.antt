use Rattle.std.proofs.Common.{refl}
use Rattle.lk_reach.proofs.graph.Graph.pass.Goals as goal

pub returns-then-not-leads_some : goal.returns-then-not-leads_some
returns-then-not-leads_some c = record {
  moved = λ yes. cc;
  marked = λ yes. cc;
  same = λ no. refl;
  closed = λ no i j leads to. absurd (c.leads_some.ensures.no c.if-not-leads_some.true i j leads to);
}
