use Rattle.std.proofs.Common.{ap, ◌∙◌, subst, sym}
use Rattle.lk_reach.proofs.Names.{Machine, rested_frame, Rests}
use Rattle.lk_rows.specs.Machine.{set_top}
use Rattle.lk_reach.proofs.Formed.{rests_self, rests_top}
use Rattle.lk_reach.proofs.forms.rest_top.Goals as goal

pub returns-then-has_top : goal.returns-then-has_top
returns-then-has_top c =
    let m = c.args.machine.now in
    let p = c.args.cpu in
    subst (λ (k : Machine). Rests m k p)
    (sym (c.set_frame.ensures ∙ ap (λ f. set_top m p f)
    (c.rested.ensures ∙ ap (λ f. rested_frame f) c.frame-frame.ensures)))
    (rests_top m p)

pub returns-else-has_top : goal.returns-else-has_top
returns-else-has_top c = rests_self c.args.machine.now c.args.cpu
