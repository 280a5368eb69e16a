use Rattle.std.proofs.Common.{◌∙◌, ap, length, sym}
use Rattle.lk_reach.proofs.Names.{origin_at}
use Rattle.lk_reach.proofs.Listed.{listed_length}
use Rattle.lk_reach.proofs.origins.Origins.len.Goals as goal

pub returns : goal.returns
returns c =
    let o = c.self.inside in
    sym (listed_length o.count (λ i. origin_at o.states o.acts o.levels i)) ∙ ap length c.self.view_is
