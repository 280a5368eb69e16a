use Rattle.std.proofs.Common.{◌∙◌, ap, length, sym}
use Rattle.lk_reach.proofs.Names.{key_at}
use Rattle.lk_reach.proofs.Listed.{listed_length}
use Rattle.lk_reach.proofs.keys.Keys.len.Goals as goal

pub returns : goal.returns
returns c =
    let k = c.self.inside in
    sym (listed_length k.count (λ i. key_at k.shared k.first k.others i)) ∙ ap length c.self.view_is
