use Rattle.std.proofs.Common.{◌∙◌, List, ap, subst}
use Rattle.lk_reach.proofs.Names.{CpuState, SpaceValue}
use Rattle.lk_reach.specs.Ends.{AreOvers}
use Rattle.lk_reach.proofs.space.Space.overs.Goals as goal

pub returns : goal.returns
returns c =
    subst (λ (xs : List CpuState). AreOvers xs c.in_ok-marks.marks.items)
    (c.deref.ensures.value ∙ ap (λ (v : SpaceValue). v.parts) c.self.view_is) c.in_ok-marks.ensures
