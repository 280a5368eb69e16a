use denote.Param.Send.{sendable}
use Rattle.std.proofs.Crossing.{crosses}
use Rattle.lk_lock.proofs.locks.Rw.TheSendSync as rw
use Rattle.lk_lock.proofs.locks.Spin.TheSendSync as spin
use Rattle.lk_lock.proofs.shared.Shared.TheSendSync as shared
use Rattle.lk_domain.proofs.Crossing.{domain_sync}
use Rattle.lk_shared_tests.proofs.looks.come_together.Goals as goal

pub for_each_mut-requires-sync-F : goal.for_each_mut-requires-sync-F
for_each_mut-requires-sync-F g c κs within =
    let host = c.type_bounds.sync-R in
    search (sendable, crosses, domain_sync, spin.the_sync, spin.the_field_sync, rw.the_sync, rw.the_field_sync, shared.the_sync, shared.the_field_sync) depth 40
