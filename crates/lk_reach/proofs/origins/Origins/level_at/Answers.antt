use Rattle.std.proofs.Common.{◌≡◌, ap, arith, length, subst, List, Some, slice_get}
use Rattle.lk_reach.proofs.Names.{origin_at, Origin}
use Rattle.lk_reach.proofs.Listed.{listed_get, listed_length}
use Rattle.lk_reach.proofs.origins.Origins.level_at.Goals as goal

pub returns : goal.returns
returns c =
    let o = c.self.inside in
    let n = c.args.state in
    let size = listed_length o.count (λ i. origin_at o.states o.acts o.levels i) in
    let count = ap length c.self.view_is in
    let low = c.requires in (
      origin_at o.states o.acts o.levels n,
      subst (λ (xs : List Origin). slice_get xs n ≡ Some (origin_at o.states o.acts o.levels n)) c.self.view_is
          (listed_get o.count (λ i. origin_at o.states o.acts o.levels i) n (omega (arith, low, size, count))),
      c.get.ensures,
    )
