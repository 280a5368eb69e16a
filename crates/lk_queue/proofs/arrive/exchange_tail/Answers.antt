use Rattle.std.proofs.Common.{ap, sym, subst, Option}
use Rattle.lk_word.specs.SpinWord.{IsTailInRange}
use Rattle.lk_word.specs.declared.spin_word.NodeName.{NodeName}
use Rattle.lk_rows.specs.Layouts.{layout_of}
use Rattle.lk_rows.specs.declared.parts.Frame.{Frame}
use Rattle.lk_rows.specs.declared.parts.Pc.TheVariants.{G4}
use Rattle.lk_rows.specs.Machine.{top_frame, word_at, set_word}
use Rattle.lk_queue.proofs.Leads.{arrived-is}
use Rattle.lk_queue.proofs.arrive.exchange_tail.Goals as goal

pub set_tail-requires-clause-tail : goal.set_tail-requires-clause-tail
set_tail-requires-clause-tail c =
    subst (λ (o : Option NodeName). IsTailInRange (layout_of c.args.machine.now.setup.format) o)
    (sym (ap (λ (f : Frame). f.me) c.frame-frame.ensures))
    (c.requires.ready.stores G4 c.requires.here)

pub returns-clause-next : goal.returns-clause-next
returns-clause-next c =
    let m = c.args.machine.now in
    let f = top_frame m c.args.cpu in
    let x = word_at m f.lock in
    rw (c.requires.here, c.set_frame.ensures, c.set_tail.ensures, c.arrived.ensures, c.mode-mode.ensures, c.word-word.ensures.fields, c.frame-frame.ensures)
    (sym (arrived-is (set_word m f.lock (record x { tail = f.me })) c.args.cpu f m.setup.mode x.tail))
