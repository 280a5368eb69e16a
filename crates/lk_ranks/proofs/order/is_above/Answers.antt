use Rattle.std.proofs.Common.{arith, rules}
use Rattle.lk_ranks.proofs.Ranking.{above_all}
use Rattle.lk_ranks.proofs.order.is_above.Goals as goal

pub returns : goal.returns
returns c =
    let inv = c.loop-number.invariant in
    let past = c.loop-number-test.false in
    record {
      asks = (
        λ yes. above_all c.args.rank c.locks-number-end.result c.args.cpu.now c.requires.awake c.locks-number-end.ensures
            (λ n high low. inv.holds n high (omega (arith, low, past)))
            (λ n high low. inv.waits n high (omega (arith, low, past))),
        λ above. search rules,
      );
    }
