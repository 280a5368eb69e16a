use Rattle.std.proofs.Common.{ap, arith, ◌+◌, ◌∙◌, ◌∷◌, [], length, length-append}
use Rattle.lk_domain.proofs.Names.{slots_items}
use Rattle.lk_domain.proofs.journals.Last.{read_more, some_inside}
use Rattle.lk_domain.proofs.ledger.steps.read.Goals as goal

pub loop-account-preserved : goal.loop-account-preserved
loop-account-preserved c =
    let ws = slots_items c.args.closed.now.words in
    let inv = c.loop-account.invariant in
    let lt = c.loop-account-test.true in
    record {
      items = ap (λ l. l.items) c.push.ensures ∙ read_more ws c.args.first c.loop-account.account c.word.result c.loop-account.balances.items (some_inside ws (c.args.first + c.loop-account.account) c.word.result c.word.ensures) c.word.ensures inv.items;
      long = (let a = ap (λ l. length l.items) c.push.ensures in let b = length-append c.loop-account.balances.items (c.word.result ∷ []) in let d = inv.long in omega (arith, a, b, d));
      room = ap (λ l. l.room) c.push.ensures ∙ inv.room;
    }
