use denote.Param.Send.{sendable}
use Rattle.std.proofs.Crossing.{crosses}
use Rattle.lk_pvdomain.proofs.PvSeating.{pv_domain_sync}
use Rattle.lk_thread_tests.proofs.pv_halts.Signs.TheSendSync as signs
use Rattle.lk_thread_tests.proofs.stage.Sign.TheSendSync as sign
use Rattle.lk_thread_tests.proofs.pv_halts.play_all.Goals as goal

pub for_each_mut-requires-sync-F : goal.for_each_mut-requires-sync-F
for_each_mut-requires-sync-F g c κs within =
    let host = c.type_bounds.sync-R in
    search (sendable, crosses, pv_domain_sync, signs.the_sync, signs.the_field_sync, sign.the_sync, sign.the_field_sync) depth 40
