use Rattle.std.proofs.Common.{◌∙◌, Some, ap, inl, inr, sym}
use Rattle.lk_reach.proofs.Names.{Made}
use Rattle.lk_reach.proofs.steps.pass_on.Goals as goal

pub returns-in-Some : goal.returns-in-Some
returns-in-Some c i d is = elim (c.put.ensures i d is) [
  | inl same ↦ (c.args.«at», c.in-Some.ensures ∙ ap (λ (e : Made). Some (Some e)) (sym same))
  | inr old ↦ old
]
