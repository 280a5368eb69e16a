use Rattle.std.proofs.Common.{Bool, List, sym, subst, inl, inr}
use Rattle.std.proofs.lemmas.Bool.{cases_Bool}
use Rattle.lk_reach.proofs.Names.{AreGoing}
use Rattle.lk_reach.proofs.apart.Going.{going_more}
use Rattle.lk_reach.proofs.graph.Graph.mark_shown.Goals as goal

pub loop-state-preserved : goal.loop-state-preserved
loop-state-preserved c =
    let g = c.args.self.now in
    let inv = c.loop-state.invariant in
    elim (cases_Bool c.shows_going-on.result) [
      | inl on ↦
          going_more g.plan g.machine.setup g.space c.loop-state.state c.loop-state.marks.items c.mark_if.new.marks.items
          (c.mark_if.ensures.yes on) (c.shows_going-on.ensures on) inv
      | inr off ↦ subst (λ (ms : List Bool). AreGoing g.plan g.machine.setup g.space ms) (sym (c.mark_if.ensures.no off)) inv
    ]
