use Rattle.std.proofs.Common.{◌≡◌}
use Rattle.std.specs.Prelude.{is_some}
use Rattle.lk_rows.specs.Programs.{way_at}
use Rattle.lk_order.specs.Checked.{rank_in, NestsSoFar}
use Rattle.lk_order.proofs.check.nests.Given as goal

abbrev pub invariant-loop-at : goal.invariant-loop-at
invariant-loop-at l = record {
  nests : NestsSoFar (rank_in l.ranks) l.ops.items l.lock l.«at»;
  held : l.is_held ≡ is_some (way_at l.ops.items l.«at» l.lock);
}
