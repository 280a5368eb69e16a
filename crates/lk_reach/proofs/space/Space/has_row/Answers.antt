use Rattle.std.proofs.Common.{◌≡◌, ◌∙◌, ap, sym, subst, List, Some, slice_get}
use Rattle.lk_reach.proofs.Names.{CpuState, SpaceValue}
use Rattle.lk_reach.proofs.space.Space.has_row.Goals as goal

pub returns : goal.returns
returns c = λ no i x here.
    let e = c.deref.ensures.value ∙ ap (λ (v : SpaceValue). v.parts) c.self.view_is in
    c.has_row.ensures no i x (subst (λ (xs : List CpuState). slice_get xs i ≡ Some x) (sym e) here)
