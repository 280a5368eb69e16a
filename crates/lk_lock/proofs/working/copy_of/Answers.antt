use Rattle.std.proofs.Common.{arith, ◌+◌}
use Rattle.lk_lock.proofs.Laid.{many_names, name_at}
use Rattle.lk_lock.proofs.working.copy_of.Goals as goal

pub get-requires : goal.get-requires
get-requires g c =
    let low = c.requires.number in
    let many = c.requires.lock.many in
    let names = many_names c.args.shared.now.cells.items in
    omega (arith, low, many, names)

pub returns : goal.returns
returns g c =
    c.requires.lock.cells_are (1 + c.args.number) c.get.result.now.table.shared.table_id
    (name_at c.args.shared.now.cells.items (1 + c.args.number) c.get.result.now c.get.ensures)
