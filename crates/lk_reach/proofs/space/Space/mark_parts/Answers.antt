use Rattle.std.proofs.Common.{◌≡◌, Some, subst, sym, slice_get}
use Rattle.lk_reach.proofs.Names.{SpaceValue}
use Rattle.lk_reach.proofs.apart.Used.{used_more, used_none}
use Rattle.lk_reach.proofs.space.Space.mark_parts.Goals as goal

pub loop-cpu-init : goal.loop-cpu-init
loop-cpu-init c = λ key is. used_none key c.args.marks.now.items

pub loop-cpu-preserved : goal.loop-cpu-preserved
loop-cpu-preserved c = λ key is.
    used_more key c.args.marks.now.items c.loop-cpu.marks.items c.mark.new.marks.items c.loop-cpu.cpu c.part.result
    (c.part.ensures key (subst (λ (u : SpaceValue). slice_get u.keys c.args.state ≡ Some key) (sym c.self.view_is) is))
    (c.loop-cpu.invariant key is) c.mark.ensures
