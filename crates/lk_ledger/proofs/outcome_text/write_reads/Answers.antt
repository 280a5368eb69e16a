use Rattle.std.proofs.Common.{◌∙◌, arith}
use Rattle.std.proofs.lemmas.Result.{err_from_is_err_and}
use Rattle.lk_text.proofs.Conveyed.{Conveys-nothing}
use Rattle.lk_text.specs.Block.{waiting}
use Rattle.lk_ledger.proofs.LineTexts.{read_goes, reads_cut}
use Rattle.lk_ledger.proofs.outcome_text.write_reads.Goals as goal

pub loop-seen-init : goal.loop-seen-init
loop-seen-init g c = record { conveyed = Conveys-nothing _ _; later = omega arith }

pub loop-seen-preserved : goal.loop-seen-preserved
loop-seen-preserved g c =
    let so_far = c.loop-seen.invariant in
    let text = c.bytes.ensures.text ∙ c.seen_line-line.ensures in record {
      conveyed =
          read_goes _ _ _ _ _ _ _ c.args.reads.now c.loop-seen.seen-index _
          (omega (arith, c.loop-seen-test.true)) text so_far.conveyed c.in_ok-push.ensures.ok;
      later = omega (arith, so_far.later, c.push.ensures.cause.later);
    }

pub returns-in_err-push-clause-err : goal.returns-in_err-push-clause-err
returns-in_err-push-clause-err g c =
    let p = err_from_is_err_and c.from_residual.result c.from_residual.ensures.1 in
    rw p.1 (reads_cut _ _ _ (waiting c.args.block.now) _ c.args.reads.now c.loop-seen.seen-index
    c.loop-seen.invariant.conveyed c.in_err-push.ensures.err)
