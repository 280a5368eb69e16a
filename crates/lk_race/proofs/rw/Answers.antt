use denote.Param.Send.{sendable}
use Rattle.std.proofs.Crossing.{crosses}
use Rattle.lk_lock.proofs.locks.Spin.TheSendSync as spin
use Rattle.lk_lock.proofs.shared.Shared.TheSendSync as shared
use Rattle.lk_domain.proofs.Crossing.{domain_sync}
use Rattle.lk_race.proofs.rw.Goals as goal

pub on_track-requires-sync-T : goal.on_track-requires-sync-T
on_track-requires-sync-T g c κs within =
    search (sendable, crosses, domain_sync, spin.the_sync, spin.the_field_sync, shared.the_sync, shared.the_field_sync) depth 40
