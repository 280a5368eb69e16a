-- Empty lists are in order.
use Rattle.std.proofs.Common.{[], ap, sym, ◌∙◌}
use Rattle.lk_abs.proofs.Holding.{held-empty}
use Rattle.lk_abs.proofs.QueueRoom.{in_order-empty}
use Rattle.lk_abs.proofs.lock_record.LockRecord.new.Goals as goal

pub invariant_of-result : goal.invariant_of-result
invariant_of-result c = (
  in_order-empty _ c.args.waiters c.requires c.in_ok-main.ensures c.in_ok-second.ensures c.in_ok-passes.ensures,
  held-empty _ _ (c.in_ok-holders.ensures ∙ ap (λ n. record { items = []; room = n }) (sym (ap (λ l. l.room) c.in_ok-main.ensures))),
)
