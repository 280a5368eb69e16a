use Rattle.std.proofs.Common.{◌+◌, ◌∙◌, arith}
use Rattle.std.proofs.lemmas.Result.{err_from_is_err_and}
use Rattle.lk_text.proofs.Conveyed.{Conveys-nothing}
use Rattle.lk_text.specs.Block.{waiting}
use Rattle.lk_ledger.proofs.LineTexts.{entry_goes, entries_cut}
use Rattle.lk_ledger.proofs.outcome_text.write_entries.Goals as goal

pub loop-at-init : goal.loop-at-init
loop-at-init g c = record { conveyed = Conveys-nothing _ _; later = omega arith }

pub loop-at-preserved : goal.loop-at-preserved
loop-at-preserved g c =
    let so_far = c.loop-at.invariant in
    let text = c.bytes.ensures.text ∙ c.entry_line-line.ensures in record {
      conveyed =
          entry_goes _ _ _ _ _ _ _ 1 c.args.journal.now c.loop-at.at (c.loop-at.at + 1) _
          (omega (arith, c.loop-at-test.true)) (omega arith) text so_far.conveyed c.in_ok-push.ensures.ok;
      later = omega (arith, so_far.later, c.push.ensures.cause.later);
    }

pub returns-in_err-push-clause-err : goal.returns-in_err-push-clause-err
returns-in_err-push-clause-err g c =
    let p = err_from_is_err_and c.from_residual.result c.from_residual.ensures.1 in
    rw p.1 (entries_cut _ _ _ (waiting c.args.block.now) _ 1 c.args.journal.now c.loop-at.at
    c.loop-at.invariant.conveyed c.in_err-push.ensures.err)
