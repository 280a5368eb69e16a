use Rattle.lk_queue.proofs.Own.{enter_row}
use Rattle.lk_queue.proofs.arrive.enter.Goals as goal

pub returns-clause-next : goal.returns-clause-next
returns-clause-next c =
    rw (c.requires.here, c.set_frame.ensures, c.reset.ensures, c.set_counts.ensures, c.set_queued.ensures, c.entry_counts-counts.ensures, c.counts.ensures, c.after_entry.ensures, c.own_node-me.ensures, c.queued-queued.ensures, c.mode-mode.ensures, c.frame-frame.ensures)
    (enter_row c.args.machine.now c.args.cpu)
