use Rattle.std.proofs.Common.{ap, sym, arith, ◌+◌, subst}
use Rattle.lk_domain.proofs.seats.Openings.{IsOpened, opened_more, get_is}
use Rattle.lk_domain.proofs.making.opening_words.Goals as goal

pub loop-account-preserved : goal.loop-account-preserved
loop-account-preserved c =
    let k = c.args.plan.now in
    let n = c.loop-account.account in
    let len = c.len-account-end.ensures in
    let lt = c.loop-account-test.true in
    let first = c.first_balance-first.ensures in
    subst (IsOpened k (n + 1)) (sym (ap (λ l. l.items) c.write.ensures))
    (opened_more k n _ c.get.result.now c.loop-account.words.items c.requires.lawful c.loop-account.invariant (omega arith) (omega arith)
    (get_is k.balances.items n c.get.result.now c.get.ensures))
