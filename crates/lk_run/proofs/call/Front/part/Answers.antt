use Rattle.lk_run.proofs.Calling as on
use Rattle.lk_run.proofs.call.Front.part.Goals as goal

pub cut-requires-clause-waits : goal.cut-requires-clause-waits
cut-requires-clause-waits c = record { second = c.args.first; next = c.args.y; at = c.requires.waits }

pub set_tail-requires-clause-waits : goal.set_tail-requires-clause-waits
set_tail-requires-clause-waits c = record { next = c.args.y; at = on.stepped (c.cut.ensures.goes c.args.first c.args.y) c.requires.waits }

pub give-requires-clause-waits : goal.give-requires-clause-waits
give-requires-clause-waits c = on.stepped (c.set_tail.ensures.goes c.args.y) (on.stepped (c.cut.ensures.goes c.args.first c.args.y) c.requires.waits)

pub returns : goal.returns
returns c = on.step_takes (c.cut.ensures.goes c.args.first c.args.y) (on.step_takes (c.set_tail.ensures.goes c.args.y) c.give.ensures)
