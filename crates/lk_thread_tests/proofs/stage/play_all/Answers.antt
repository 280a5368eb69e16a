use denote.Param.Send.{sendable}
use Rattle.std.proofs.Crossing.{crosses}
use Rattle.lk_domain.proofs.Crossing.{domain_sync, domain_field_sync}
use Rattle.lk_thread_tests.proofs.stage.play_all.Goals as goal

pub for_each_mut-requires-sync-F : goal.for_each_mut-requires-sync-F
for_each_mut-requires-sync-F g c κs within =
    let host = c.type_bounds.sync-R in
    let scene = c.type_bounds.sync-S in
    search (sendable, crosses, domain_sync, domain_field_sync) depth 40
