use Rattle.std.proofs.Common.{List, subst}
use Rattle.lk_reach.proofs.Names.{Helper}
use Rattle.lk_reach.specs.Helped.{IsOneOf}
use Rattle.lk_reach.proofs.crew.Crew.take.Goals as goal

pub returns-clause-one : goal.returns-clause-one
returns-clause-one g c =
    subst (λ (hs : List Helper). IsOneOf hs c.in_ok-finding.finding) c.turn.ensures.helpers c.in_ok-finding.ensures
