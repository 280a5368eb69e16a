use Rattle.lk_lock.proofs.locks.Spin.into_value.Goals as goal

pub into_value-requires : goal.into_value-requires
into_value-requires g c = c.take.ensures.key c.args.self.cell.table.shared.table_id c.requires.key
