-- Those who stand aside are asked before those who are moved now, as they then stand behind them.
use Rattle.std.proofs.Common.{refl}
use Rattle.lk_names.specs.Lists.{history_of_lists}
use Rattle.lk_abs.proofs.Steps.{over-passed}
use Rattle.lk_abs.proofs.lock_record.LockRecord.over_threshold.Goals as goal

pub returns-in-Pass : goal.returns-in-Pass
returns-in-Pass c =
    rw (c.in-Pass.is, c.or.ensures, c.first_over.ensures, c.moved_over.ensures, c.threshold.ensures, c.as_slice.ensures, c.as_slice-in-Pass.ensures, ← c.self.view_is)
    (over-passed c.in-Pass.lock c.args.rules.now.threshold (history_of_lists c.self.inside.holders.items c.self.inside.lists) c.args.by c.in-Pass.to c.in-Pass.moved c.args.rules.now refl c.self.invariant.0.counted)
