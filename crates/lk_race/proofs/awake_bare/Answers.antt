use denote.Param.Send.{sendable}
use Rattle.std.proofs.Crossing.{crosses}
use Rattle.lk_domain.proofs.Crossing.{domain_sync}
use Rattle.lk_race.proofs.awake_bare.Goals as goal

pub take_all_turns-time-requires-sync-T : goal.take_all_turns-time-requires-sync-T
take_all_turns-time-requires-sync-T g c κs within =
    search (sendable, crosses, domain_sync) depth 40

pub take_all_turns-time-requires-in-Rw-sync-T : goal.take_all_turns-time-requires-in-Rw-sync-T
take_all_turns-time-requires-in-Rw-sync-T g c κs within =
    search (sendable, crosses, domain_sync) depth 40
