use Rattle.std.proofs.Common.{◌∙◌}
use Rattle.std.proofs.lemmas.Result.{err_from_is_err_and}
use Rattle.lk_text.proofs.Conveyed.{front_of_more}
use Rattle.lk_text.specs.Block.{waiting}
use Rattle.lk_job_forms.specs.Texts.{total_text}
use Rattle.lk_ledger.proofs.LineTexts.{cut_behind}
use Rattle.lk_ledger.proofs.outcome_text.write_total.Goals as goal

pub returns-in_err-push-clause-err : goal.returns-in_err-push-clause-err
returns-in_err-push-clause-err g c =
    let p = err_from_is_err_and c.from_residual.result c.from_residual.ensures.1 in
    rw p.1 (front_of_more _ _ (waiting c.args.block.now)
    (total_text c.args.entries c.args.reads) c.in_err-push.ensures.err)

pub returns-clause-err : goal.returns-clause-err
returns-clause-err g c =
    let text = c.bytes.ensures.text ∙ c.total_line-line.ensures in
    cut_behind _ _ _ (waiting c.args.block.now) _ (total_text c.args.entries c.args.reads)
    c.flush.result (rw text at c.in_ok-push.ensures.ok) c.flush.ensures.err
