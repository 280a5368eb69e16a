use Rattle.std.proofs.Common.{◌∙◌, arith}
use Rattle.std.proofs.lemmas.Result.{err_from_is_err_and}
use Rattle.lk_text.proofs.Conveyed.{Conveys-nothing}
use Rattle.lk_text.specs.Block.{waiting}
use Rattle.lk_ledger.proofs.LineTexts.{balance_goes, balances_cut}
use Rattle.lk_ledger.proofs.outcome_text.write_balances.Goals as goal

pub loop-account-init : goal.loop-account-init
loop-account-init g c = record { conveyed = Conveys-nothing _ _; later = omega arith }

pub loop-account-preserved : goal.loop-account-preserved
loop-account-preserved g c =
    let so_far = c.loop-account.invariant in
    let text = c.bytes.ensures.text ∙ c.balance_line-line.ensures in record {
      conveyed =
          balance_goes _ _ _ _ _ _ _ 0 c.args.balances.now c.loop-account.account c.loop-account.account _
          (omega (arith, c.loop-account-test.true)) (omega arith) text so_far.conveyed c.in_ok-push.ensures.ok;
      later = omega (arith, so_far.later, c.push.ensures.cause.later);
    }

pub returns-in_err-push-clause-err : goal.returns-in_err-push-clause-err
returns-in_err-push-clause-err g c =
    let p = err_from_is_err_and c.from_residual.result c.from_residual.ensures.1 in
    rw p.1 (balances_cut _ _ _ (waiting c.args.block.now) _ 0 c.args.balances.now c.loop-account.account
    c.loop-account.invariant.conveyed c.in_err-push.ensures.err)
