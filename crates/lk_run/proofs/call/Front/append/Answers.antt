use Rattle.lk_run.proofs.Calling as on
use Rattle.lk_run.proofs.call.Front.append.Goals as goal

pub find_tail-t-requires-clause-waits : goal.find_tail-t-requires-clause-waits
find_tail-t-requires-clause-waits c = on.weaker c.requires.waits c.requires.waits.waits.looked.at.has.skips.fronts

pub append_moved-requires-clause-t : goal.append_moved-requires-clause-t
append_moved-requires-clause-t c = c.find_tail-t.ensures.node

pub append_moved-requires-clause-waits : goal.append_moved-requires-clause-waits
append_moved-requires-clause-waits c =
    let x = c.args.skipped in
    record { second = c.args.first; last = x.last; next = c.args.y; at = on.stepped (c.find_tail-t.ensures.appends x.first x.last c.args.y) c.requires.waits }

pub append_moved-requires-clause-knows : goal.append_moved-requires-clause-knows
append_moved-requires-clause-knows c = c.find_tail-t.ensures.knows c.args.skipped.first c.args.skipped.mark c.requires.knows

pub part-requires-clause-waits : goal.part-requires-clause-waits
part-requires-clause-waits c =
    let x = c.args.skipped in
    on.stepped (c.append_moved.ensures.goes c.args.first x.last c.args.y) (on.stepped (c.find_tail-t.ensures.appends x.first x.last c.args.y) c.requires.waits)

pub returns : goal.returns
returns c =
    let x = c.args.skipped in
    on.step_takes (c.find_tail-t.ensures.appends x.first x.last c.args.y) (on.step_takes (c.append_moved.ensures.goes c.args.first x.last c.args.y) c.part.ensures)
