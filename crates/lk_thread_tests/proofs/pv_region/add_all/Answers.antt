use Rattle.std.proofs.Common.{◌-◌, ◌+◌, arith}
use Rattle.lk_thread_tests.proofs.Written.{one_less}
use Rattle.lk_thread_tests.proofs.pv_region.add_all.Goals as goal

pub loop-done-preserved : goal.loop-done-preserved
loop-done-preserved g c =
    let l = c.loop-done in
    one_less c.args.region.now.domain l.cpu c.write.new.cpu (1000 - l.done) (1000 - (l.done + 1)) _ _ _ _ _ l.invariant
    (omega (arith, c.loop-done-test.true)) c.write.ensures.stays c.write.ensures.written
