use Rattle.std.proofs.Common.{◌∙◌, ap, sym}
use Rattle.std.specs.List.{slice_get}
use Rattle.lk_abs.proofs.QueueRoom.{front_in_room}
use Rattle.lk_abs.proofs.lock_record.LockRecord.free_front.Goals as goal

pub returns-then-len-eq0-clause-in_range : goal.returns-then-len-eq0-clause-in_range
returns-then-len-eq0-clause-in_range c =
    rw (← c.self.view_is) (front_in_room c.self.inside.lists c.self.invariant.0 c.main_at.result (c.main_at.ensures ∙ ap (λ k. slice_get k.history.main 0) (sym c.self.view_is)))
