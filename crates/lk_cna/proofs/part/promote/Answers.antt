use Rattle.std.proofs.Common.{ap, sym, subst, Option}
use Rattle.lk_word.specs.SpinWord.{IsTailInRange}
use Rattle.lk_word.specs.declared.spin_word.NodeName.{NodeName}
use Rattle.lk_rows.specs.Layouts.{layout_of}
use Rattle.lk_rows.specs.declared.parts.Frame.{Frame}
use Rattle.lk_rows.specs.declared.parts.Pc.TheVariants.{C10}
use Rattle.lk_cna.proofs.part.promote.Goals as goal

pub set_tail-requires-clause-tail : goal.set_tail-requires-clause-tail
set_tail-requires-clause-tail c =
    subst (λ (o : Option NodeName). IsTailInRange (layout_of c.args.machine.now.setup.format) o)
    (sym (ap (λ (f : Frame). f.t) c.frame-frame.ensures))
    (c.requires.ready.ready.stores C10 c.requires.here)
