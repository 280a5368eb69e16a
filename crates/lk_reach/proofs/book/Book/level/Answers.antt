use Rattle.std.proofs.Common.{◌∙◌, ap, slice_get}
use Rattle.lk_reach.proofs.Names.{Origin}
use Rattle.lk_reach.proofs.Kept.{one_value}
use Rattle.lk_reach.proofs.book.Book.level.Goals as goal

pub returns-then-state-len : goal.returns-then-state-len
returns-then-state-len c o here =
    let x = c.level_at.ensures in
    x.2 ∙ ap (λ (p : Origin). p.level) (one_value (slice_get c.args.self.now.origins c.args.state) x.0 o x.1 here)
