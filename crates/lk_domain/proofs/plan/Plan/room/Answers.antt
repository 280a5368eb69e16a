use Rattle.std.proofs.Common.{arith}
use Rattle.lk_domain.proofs.seats.Openings.{sum_more, get_is}
use Rattle.lk_domain.proofs.plan.Plan.room.Goals as goal

pub loop-cpu-preserved : goal.loop-cpu-preserved
loop-cpu-preserved c =
    let xs = c.args.self.now.shares.items in
    let n = c.loop-cpu.cpu in
    let is = get_is xs n c.get.result.now c.get.ensures in
    let len = c.len-cpu-end.ensures in
    let lt = c.loop-cpu-test.true in
    let more = sum_more xs n (omega arith) in
    let was = c.loop-cpu.invariant.0 in
    let most = c.loop-cpu.invariant.1 in
    (omega (arith, more, was, is), omega arith)
