use Rattle.std.proofs.Common.{ap, sym, ◌∙◌}
use Rattle.std.specs.Prelude.{is_some}
use Rattle.lk_rows.specs.Programs.{way_at}
use Rattle.lk_law.proofs.common.HeldAfter.{way_next}
use Rattle.lk_order.specs.Checked.{rank_in}
use Rattle.lk_order.proofs.Nesting.{nests_more}
use Rattle.lk_order.proofs.check.nests.Goals as goal

pub loop-at-preserved : goal.loop-at-preserved
loop-at-preserved c =
    let so_far = c.loop-at.invariant in
    let ops = c.args.ops.now.items in
    let here = c.get-op.ensures in record {
      nests = nests_more (rank_in c.args.ranks.now) ops c.args.lock c.loop-at.«at» c.get-op.result.now c.loop-at.is_held here so_far.held so_far.nests (c.keeps_order.ensures c.if-not-keeps_order.false);
      held = c.held_behind-is_held.ensures (way_at ops c.loop-at.«at» c.args.lock) so_far.held
          ∙ ap is_some (sym (way_next ops c.loop-at.«at» c.args.lock c.get-op.result.now here));
    }
