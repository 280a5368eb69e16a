use Rattle.std.proofs.Common.{List, IfOk, subst}
use Rattle.lk_names.specs.declared.events.Act.{Act as ActValue}
use Rattle.lk_reach.specs.Reach.{AreMoves, state_after}
use Rattle.lk_reach.specs.Explored.{KnowsLike}
use Rattle.lk_reach.specs.Told.{IsWhole}
use Rattle.lk_explore.proofs.explored.Goals as goal

pub returns-clause-all : goal.returns-clause-all
returns-clause-all g c =
    let s = c.args.start in
    subst (λ extras. IfOk c.explore.result (λ graph. IsWhole graph → (acts : List ActValue)
    → AreMoves extras s.machine.setup acts
    → KnowsLike s.plan s.machine.setup graph.space (state_after s.plan s.machine.setup acts)))
    c.requires.extras c.explore.ensures.all
