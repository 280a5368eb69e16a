use denote.Param.Send.{sendable}
use Rattle.std.proofs.Crossing.{crosses}
use Rattle.lk_guard.proofs.Crossing.{pv_region_sync}
use Rattle.lk_thread_tests.proofs.pv_region.add_each.Goals as goal

pub for_each_mut-requires-sync-F : goal.for_each_mut-requires-sync-F
for_each_mut-requires-sync-F g c κs within =
    let host = c.type_bounds.sync-R in
    search (sendable, crosses, pv_region_sync) depth 40
