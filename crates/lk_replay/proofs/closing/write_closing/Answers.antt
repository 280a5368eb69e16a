use Rattle.std.proofs.Common.{◌∙◌, sym, arith}
use Rattle.std.proofs.lemmas.Result.{err_from_is_err_and}
use Rattle.lk_text.proofs.Conveyed.{Conveys-trans, front_of_more}
use Rattle.lk_text.specs.Block.{waiting}
use Rattle.lk_forms.specs.Texts.{closing}
use Rattle.lk_replay.proofs.ClosingLines.{front_none, front_more, front_of_closing, closing_put, closing_cut}
use Rattle.lk_replay.proofs.closing.write_closing.Goals as goal

pub returns-in_err-push-clause-err : goal.returns-in_err-push-clause-err
returns-in_err-push-clause-err g c =
    let p = err_from_is_err_and c.from_residual.result c.from_residual.ensures.1 in
    rw p.1 (front_of_more _ _ (waiting c.args.block.now) (closing c.args.acts c.args.counts.now) c.in_err-push.ensures.err)

pub loop-which-init : goal.loop-which-init
loop-which-init g c =
    let text = c.bytes.ensures.text ∙ c.end_line.ensures ∙ sym (front_none c.args.acts c.args.counts.now) in record {
      conveyed = rw text at c.in_ok-push.ensures.ok;
      later = c.push.ensures.cause.later;
    }

pub returns-in_err-push-2-clause-err : goal.returns-in_err-push-2-clause-err
returns-in_err-push-2-clause-err g c =
    let p = err_from_is_err_and c.from_residual-in_err-push-2.result c.from_residual-in_err-push-2.ensures.1 in
    rw p.1 (front_of_closing _ _ _ _ _ c.args.acts c.args.counts.now c.loop-which.which c.loop-which.invariant.conveyed c.in_err-push-2.ensures.err)

pub loop-which-preserved : goal.loop-which-preserved
loop-which-preserved g c =
    let so_far = c.loop-which.invariant in
    let text = c.bytes-in-loop-which.ensures.text ∙ c.count_line.ensures in
    let added = rw text at c.in_ok-push-2.ensures.ok in record {
      conveyed = rw (front_more c.args.acts c.args.counts.now c.loop-which.which (omega arith)) (Conveys-trans _ _ _ _ _ _ _ _ so_far.conveyed added);
      later = omega (arith, so_far.later, c.push-in-loop-which.ensures.cause.later);
    }

pub returns-clause-ok : goal.returns-clause-ok
returns-clause-ok g c = closing_put _ _ _ _ _ c.args.acts c.args.counts.now c.loop-which.which c.loop-which.invariant.conveyed c.flush.result (omega arith) c.flush.ensures.ok

pub returns-clause-err : goal.returns-clause-err
returns-clause-err g c = closing_cut _ _ _ _ _ c.args.acts c.args.counts.now c.loop-which.which c.loop-which.invariant.conveyed c.flush.result c.flush.ensures.err
