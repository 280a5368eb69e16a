use Rattle.std.proofs.Common.{◌∙◌, ap, arith, length, sym}
use Rattle.lk_reach.proofs.Names.{key_at}
use Rattle.lk_reach.proofs.Listed.{listed_length}
use Rattle.lk_reach.proofs.keys.Keys.get.Goals as goal

pub at-requires : goal.at-requires
at-requires c =
    let k = c.self.inside in
    let size = sym (listed_length k.count (λ i. key_at k.shared k.first k.others i)) ∙ ap length c.self.view_is in
    let low = c.if-number-self.true in
    omega (arith, size, low)
