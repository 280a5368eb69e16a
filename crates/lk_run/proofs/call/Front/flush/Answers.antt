use Rattle.lk_run.proofs.Calling as on
use Rattle.lk_run.proofs.call.Front.flush.Goals as goal

pub find_tail-t-requires-clause-waits : goal.find_tail-t-requires-clause-waits
find_tail-t-requires-clause-waits c = on.weaker c.requires.waits c.requires.waits.waits.looked.at.has.fronts

pub append_rest-requires-clause-t : goal.append_rest-requires-clause-t
append_rest-requires-clause-t c = c.find_tail-t.ensures.node

pub append_rest-requires-clause-waits : goal.append_rest-requires-clause-waits
append_rest-requires-clause-waits c = record { second = c.args.first; at = on.stepped (c.find_tail-t.ensures.flushes c.args.a) c.requires.waits }

pub append_rest-requires-clause-knows : goal.append_rest-requires-clause-knows
append_rest-requires-clause-knows c = c.find_tail-t.ensures.knows c.args.a c.args.mark c.requires.knows

pub give-requires-clause-waits : goal.give-requires-clause-waits
give-requires-clause-waits c = on.stepped (c.append_rest.ensures.goes c.args.first) (on.stepped (c.find_tail-t.ensures.flushes c.args.a) c.requires.waits)

pub returns : goal.returns
returns c = on.step_takes (c.find_tail-t.ensures.flushes c.args.a) (on.step_takes (c.append_rest.ensures.goes c.args.first) c.give.ensures)
