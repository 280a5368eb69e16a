use Rattle.std.proofs.Common.{ap, ◌∙◌, false, subst, sym}
use Rattle.lk_reach.proofs.Names.{Machine, Rests}
use Rattle.lk_rows.specs.Machine.{set_node}
use Rattle.lk_idle.specs.Free.{freed_node}
use Rattle.lk_reach.proofs.Formed.{rests_node, rests_self}
use Rattle.lk_reach.proofs.forms.free_node.Goals as goal

pub returns-then-not-has_owner : goal.returns-then-not-has_owner
returns-then-not-has_owner c =
    let m = c.args.machine.now in
    let p = c.args.cpu in
    let j = c.args.index in
    subst (λ (k : Machine). Rests m k p)
    (sym (c.set_node.ensures ∙ ap (λ x. set_node m (record { cpu = p; index = j }) x)
    (c.freed.ensures ∙ ap (λ x. freed_node false x) c.node.ensures)))
    (rests_node m p j (c.has_owner.ensures c.if-not-has_owner.true))

pub returns-else-not-has_owner : goal.returns-else-not-has_owner
returns-else-not-has_owner c = rests_self c.args.machine.now c.args.cpu
