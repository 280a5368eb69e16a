use Rattle.std.proofs.Common.{arith, ◌-◌, length}
use Rattle.lk_reach.proofs.{Closed.Laws, Columns.leads_low}
use Rattle.lk_reach.proofs.Ending.{closed_more, neither, passed_good}
use Rattle.lk_reach.proofs.graph.Graph.spread.Goals as goal

pub loop-at-init : goal.loop-at-init
loop-at-init c =
    let g = c.args.self.now in
    let is = c.requires.graph in
    let within = is.within in
    let count = c.states-count.ensures in
    record {
      good = c.requires.good;
      closed = λ still k i j high leads.
          let low = leads_low g.book (length g.plan.acts.items) g.left k i j is.columns leads in
          absurd (omega (arith, high, low, within, count));
    }

pub loop-at-preserved : goal.loop-at-preserved
loop-at-preserved c =
    let laws : Laws = record { runs = c.runs_keep.ensures.run; setup = c.acts_change_little.ensures.setup } in
    let g = c.args.self.now in
    let inv = c.loop-at.invariant in
    let old = c.loop-at.marks.items in
    let new = c.pass-passes.new.marks.items in
    let n = c.states-count.result - 1 - c.loop-at.«at» in
    let passed = c.pass-passes.ensures in
    let inside = c.loop-at-test.true in
    record {
      good = passed_good laws g c.requires.graph n old new c.pass-passes.result passed inv.good;
      closed = λ still k i j high leads to.
          closed_more laws g c.requires.graph n old new c.pass-passes.result (neither _ _ still).1 passed
          (λ h a b above there now. inv.closed (neither _ _ still).0 h a b (omega (arith, above, inside)) there now)
          k i j (omega (arith, high, inside)) leads to;
    }

pub returns : goal.returns
returns c =
    let inv = c.loop-at.invariant in
    let end = c.loop-at-test.false in
    record {
      good = inv.good;
      closed = λ still k i j leads to. inv.closed still k i j (omega (arith, end)) leads to;
    }
