use Rattle.std.proofs.Common.{◌+◌, arith}
use Rattle.lk_guard.proofs.Looks.{summed_more, summed_small, both_keep}
use Rattle.lk_guard.proofs.books.Books.load_all.Goals as goal

pub overflow_add-sum : goal.overflow_add-sum
overflow_add-sum c =
    let a = c.loop-account.seat.me.0 in
    let b = c.load-sum.new.seat.me.0 in
    let n = c.loop-account.account in
    let g = c.args.seat.now.me.0.ledger in
    let inv = c.loop-account.invariant in
    let more = summed_more n c.loop-account.sum c.load-sum.result g a.ledger b.ledger inv.summed c.load-sum.ensures.loaded.ledger in
    let less = summed_small c.args.self.now.plan.now c.args.self.now.stand.lawful b c.load-sum.ensures.seat.plan_is c.load-sum.ensures.loaded.one (n + 1) (c.loop-account.sum + c.load-sum.result) g c.requires.look more
    (let lt = c.loop-account-test.true in let len = c.accounts-account-end.ensures in omega arith) in
    omega (arith, less)

pub loop-account-preserved : goal.loop-account-preserved
loop-account-preserved c =
    let a = c.loop-account.seat in
    let b = c.load-sum.new.seat in
    let inv = c.loop-account.invariant in
    record {
      seat = c.load-sum.ensures.seat;
      rest = both_keep c.args.seat.now a b inv.rest c.load-sum.ensures.rest;
      summed = summed_more c.loop-account.account c.loop-account.sum c.load-sum.result c.args.seat.now.me.0.ledger a.me.0.ledger b.me.0.ledger inv.summed c.load-sum.ensures.loaded.ledger;
      one = c.load-sum.ensures.loaded.one;
    }
