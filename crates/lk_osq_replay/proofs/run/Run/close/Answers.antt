use Rattle.std.proofs.lemmas.Result.{err_from_is_err_and}
use Rattle.lk_text.specs.Block.{waiting}
use Rattle.lk_text.proofs.Conveyed.{front_of_more}
use Rattle.lk_forms.specs.Texts.{end_text}
use Rattle.lk_osq_replay.proofs.RunLemmas.{cut_behind}
use Rattle.lk_osq_replay.proofs.run.Run.close.Goals as goal

pub returns-in_err-push-clause-err : goal.returns-in_err-push-clause-err
returns-in_err-push-clause-err g c =
    let p = err_from_is_err_and c.from_residual.result c.from_residual.ensures.1 in
    rw p.1 (front_of_more _ _ (waiting c.args.block.now)
    (end_text c.args.self.now.acts) c.in_err-push.ensures.err)

pub returns-clause-err : goal.returns-clause-err
returns-clause-err g c =
    cut_behind _ _ _ (waiting c.args.block.now) (end_text c.args.self.now.acts) _ c.flush.result
    (rw (c.bytes.ensures.text, c.end_line.ensures) at c.in_ok-push.ensures.ok) c.flush.ensures.err
