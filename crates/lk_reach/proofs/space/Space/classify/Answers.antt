use Rattle.std.proofs.Common.{◌≡◌, arith, is_ok, Some, subst, sym, slice_get}
use Rattle.lk_reach.proofs.Names.{SpaceValue}
use Rattle.lk_rows.specs.Machine.{cpu_at}
use Rattle.lk_reach.proofs.{Formed.{formed_grown, formed_more}, Kept.front_self}
use Rattle.lk_reach.proofs.space.Space.classify.Goals as goal

pub invariant_of-self : goal.invariant_of-self
invariant_of-self c =
    let s = c.self.inside in
    formed_grown s.parts.items.items s.parts.items.items s.forms.items.items c.form_number.new.forms.items.items
    s.classes.items (front_self s.parts.items.items) c.in_err-form.ensures.front c.self.invariant

pub invariant_of-self-2 : goal.invariant_of-self-2
invariant_of-self-2 c =
    let s = c.self.inside in
    let part = cpu_at c.args.machine.now c.args.cpu in
    let same = c.if-part-len.false in
    let len = c.len.ensures in
    formed_more s.parts.items.items s.forms.items.items c.form_number.new.forms.items.items s.classes.items
    c.push.new.self.items c.args.part c.in_ok-form.form part (is_ok c.push.result)
    (subst (λ (v : SpaceValue). slice_get v.parts c.args.part ≡ Some part) (sym c.self.view_is) c.requires.part)
    c.in_ok-form.ensures.front c.in_ok-form.ensures.form (omega (arith, same, len)) c.push.ensures.items
    c.self.invariant
