use Rattle.std.proofs.Common.{arith, ◌≡◌, ℕ, Some, subst, slice_get}
use Rattle.lk_reach.proofs.{Closed.Laws, apart.Deepest.deepest_is}
use Rattle.lk_reach.proofs.graph.Graph.deepest.Goals as goal

pub returns : goal.returns
returns c =
    let laws : Laws = record { runs = c.runs_keep.ensures.run; setup = c.acts_change_little.ensures.setup } in
    let g = c.args.self.now in
    let count = c.states.ensures in
    let before = c.saturating_sub.ensures in
    deepest_is laws g c.requires.graph c.level.result
    (λ o at. c.level.ensures o (subst (λ (h : ℕ). slice_get g.book.origins h ≡ Some o) (omega (arith, count, before)) at))
