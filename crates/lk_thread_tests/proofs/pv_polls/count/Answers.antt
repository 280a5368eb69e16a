use denote.Param.Send.{sendable}
use Rattle.std.proofs.Crossing.{crosses}
use Rattle.lk_pvdomain.proofs.PvSeating.{pv_domain_sync, pv_domain_field_sync}
use Rattle.lk_thread_tests.proofs.pv_polls.count.Goals as goal

pub for_each_mut-requires-sync-F : goal.for_each_mut-requires-sync-F
for_each_mut-requires-sync-F g c κs within =
    let host = c.type_bounds.sync-typeof-rt in
    search (sendable, crosses, pv_domain_sync, pv_domain_field_sync) depth 40
