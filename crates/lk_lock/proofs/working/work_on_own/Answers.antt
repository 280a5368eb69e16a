use Rattle.lk_lock.proofs.Names.{names_of}
use Rattle.lk_lock.proofs.Laid.{name_at, own_under}
use Rattle.lk_lock.proofs.working.work_on_own.Goals as goal

pub work_under-requires-clause-cell : goal.work_under-requires-clause-cell
work_under-requires-clause-cell g c =
    let cells = c.args.shared.now.cells.items in
    let cell = c.get-cell.result.now in
    (own_under c.args.domain.now.plan c.args.shared.now.id.index (names_of cells) cell.table.shared.table_id c.requires.lock
    (name_at cells 0 cell c.get-cell.ensures)).cell_is
