use Rattle.std.proofs.Common.{◌≡◌, ℕ, true}
use Rattle.lk_rows.specs.declared.setup.Op.{Op}
use Rattle.lk_progress.specs.Ordered.{only_reads}
use Rattle.lk_order.proofs.Nesting.{one_more}
use Rattle.lk_order.proofs.check.reads_only.Goals as goal

pub loop-at-preserved : goal.loop-at-preserved
loop-at-preserved c =
    one_more (λ (_ : ℕ) (r : Op). r.lock ≡ c.args.lock → only_reads r.verb ≡ true) c.args.ops.now.items c.loop-at.«at» c.get-op.result.now
    c.get-op.ensures c.loop-at.invariant (c.is_reader_of.ensures c.if-not-is_reader_of.false)
