use Rattle.std.proofs.Common.{sym, subst}
use Rattle.lk_rows.specs.declared.setup.Setup.{Setup}
use Rattle.lk_reach.specs.Helped.{AreFresh}
use Rattle.lk_explore.proofs.answered.Goals as goal

pub tell-requires-clause-helpers : goal.tell-requires-clause-helpers
tell-requires-clause-helpers g c κs outlives =
    subst (λ (z : Setup). AreFresh z c.in_ok-helpers.helpers.list.items) (sym c.requires.setup) c.in_ok-helpers.ensures
