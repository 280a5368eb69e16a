use Rattle.lk_reach.proofs.Listed.{puts_four}
use Rattle.lk_reach.proofs.numbers.fours.Fours.put.Goals as goal

pub returns : goal.returns
returns c =
    puts_four c.args.self.now (record { lower = c.put.new.halves; upper = c.put-2.new.halves }) c.args.«at» c.args.four
    c.lower.result c.upper.result c.lower.ensures c.upper.ensures c.in_ok-put.ensures c.in_ok-put-2.ensures
