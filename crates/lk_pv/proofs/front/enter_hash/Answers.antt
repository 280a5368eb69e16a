use Rattle.std.proofs.Common.{ap, sym, subst, ◌∙◌, Option}
use Rattle.lk_word.specs.SpinWord.{IsTailInRange}
use Rattle.lk_word.specs.declared.spin_word.NodeName.{NodeName}
use Rattle.lk_rows.specs.Layouts.{layout_of}
use Rattle.lk_rows.specs.declared.parts.Frame.{Frame}
use Rattle.lk_rows.specs.declared.parts.Pc.TheVariants.{E6}
use Rattle.lk_pv.proofs.front.enter_hash.Goals as goal

pub hash_enter-requires-clause-node : goal.hash_enter-requires-clause-node
hash_enter-requires-clause-node c =
    subst (λ (o : Option NodeName). IsTailInRange (layout_of c.args.machine.now.setup.format) o)
    (sym (ap (λ (f : Frame). f.me) c.frame-frame.ensures) ∙ c.known.ensures)
    (c.requires.ready.ready.stores E6 c.requires.here)
