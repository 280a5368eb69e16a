use Rattle.std.proofs.Common.{◌≡◌, ◌*◌}
use Rattle.lk_abs.specs.Remembered.{IsRoused}
use Rattle.lk_abs.proofs.kick_record.rouse.Given as goal

abbrev pub invariant-loop-ctx : goal.invariant-loop-ctx
invariant-loop-ctx l = record {
  roused : IsRoused l.fn.asleep.items l.asleep.items (l.cpu * 6) l.ctx;
  room : l.asleep.room ≡ l.fn.asleep.room;
}
