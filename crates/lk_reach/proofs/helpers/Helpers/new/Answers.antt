use Rattle.std.proofs.Common.{List, sym, subst}
use Rattle.lk_reach.proofs.Names.{tight_setup, AreFresh, Helper}
use Rattle.lk_reach.proofs.apart.Helped.{fresh_more}
use Rattle.lk_reach.proofs.helpers.Helpers.new.Goals as goal

pub loop-made-preserved : goal.loop-made-preserved
loop-made-preserved g c =
    let z = tight_setup c.args.setup.now in
    subst (λ (hs : List Helper). AreFresh z hs) (sym c.in_ok-add.ensures)
    (fresh_more z c.loop-made.list.items c.in_ok-new.field-0 c.loop-made.invariant c.in_ok-new.ensures)
