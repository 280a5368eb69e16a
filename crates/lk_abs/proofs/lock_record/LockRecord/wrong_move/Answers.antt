-- No queue is longer than there are waiters.
use Rattle.std.proofs.Common.{◌≤◌, List, length, sym, subst}
use Rattle.lk_names.specs.declared.names.Waiter.{Waiter}
use Rattle.lk_abs.proofs.QueueRoom.{main_small}
use Rattle.lk_abs.proofs.lock_record.LockRecord.wrong_move.Goals as goal

pub lawful_moves-lawful-requires : goal.lawful_moves-lawful-requires
lawful_moves-lawful-requires c =
    subst (λ (us : List Waiter). length us ≤ 6144) (sym c.as_slice.ensures) (main_small c.self.inside.lists c.self.invariant.0)
