use Rattle.std.proofs.Common.{◌≡◌, ◌∙◌, List, None, ap, arith, length, subst, sym, slice_get}
use Rattle.lk_reach.proofs.Names.{origin_at, Origin}
use Rattle.lk_reach.proofs.Listed.{listed_length, listed_past}
use Rattle.lk_reach.proofs.origins.Origins.get.Goals as goal

pub at-requires : goal.at-requires
at-requires c =
    let o = c.self.inside in
    let size = sym (listed_length o.count (λ i. origin_at o.states o.acts o.levels i)) ∙ ap length c.self.view_is in
    let low = c.if-state-self.true in
    omega (arith, size, low)

pub returns-else-state-self-clause-none : goal.returns-else-state-self-clause-none
returns-else-state-self-clause-none c =
    let o = c.self.inside in
    let high = c.if-state-self.false in
    subst (λ (xs : List Origin). slice_get xs c.args.state ≡ None) c.self.view_is
    (listed_past o.count (λ i. origin_at o.states o.acts o.levels i) c.args.state (omega (arith, high)))
