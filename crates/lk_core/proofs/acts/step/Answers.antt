use Rattle.std.proofs.Common.{sym, ◌∙◌}
use Rattle.lk_core.proofs.ActDone.{row_ready, choice_ready, shared_ready, halting_ready, has_top}
use Rattle.lk_core.proofs.acts.step.Goals as goal

pub wake-requires : goal.wake-requires
wake-requires c = has_top c.args.machine.now c.args.cpu c.requires.range c.requires.sound

pub spin_row-requires-clause-ready : goal.spin_row-requires-clause-ready
spin_row-requires-clause-ready c =
    row_ready c.args.machine.now c.args.cpu c.requires.range c.requires.sound c.in_ok-place.place
    (sym c.place.ensures ∙ c.in_ok-place.was) c.requires.counts

pub queue_row-requires-clause-ready : goal.queue_row-requires-clause-ready
queue_row-requires-clause-ready c =
    row_ready c.args.machine.now c.args.cpu c.requires.range c.requires.sound c.in_ok-place.place
    (sym c.place.ensures ∙ c.in_ok-place.was) c.requires.counts

pub cna_row-requires-clause-ready : goal.cna_row-requires-clause-ready
cna_row-requires-clause-ready c =
    choice_ready c.args.machine.now c.args.cpu c.requires.range c.requires.sound c.in_ok-place.place
    (sym c.place.ensures ∙ c.in_ok-place.was) (sym c.family.ensures ∙ c.in-Cna.is)
    c.requires.counts

pub pv_row-requires-clause-ready : goal.pv_row-requires-clause-ready
pv_row-requires-clause-ready c =
    halting_ready c.args.machine.now c.args.cpu c.requires.range c.requires.sound
    c.in_ok-place.place (sym c.place.ensures ∙ c.in_ok-place.was)
    (sym c.family.ensures ∙ c.in-Pv.is) c.requires.counts

pub rw_row-requires-clause-ready : goal.rw_row-requires-clause-ready
rw_row-requires-clause-ready c =
    shared_ready c.args.machine.now c.args.cpu c.requires.range c.requires.sound c.in_ok-place.place
    (sym c.place.ensures ∙ c.in_ok-place.was) (sym c.family.ensures ∙ c.in-Rw.is)
    c.requires.counts
