use denote.Param.Send.{sendable}
use Rattle.std.proofs.Crossing.{crosses}
use Rattle.lk_pvdomain.proofs.PvSeating.{pv_domain_sync}
use Rattle.lk_race.proofs.pv_bare.Goals as goal

pub take_all_turns-time-requires-sync-T : goal.take_all_turns-time-requires-sync-T
take_all_turns-time-requires-sync-T g c κs within =
    search (sendable, crosses, pv_domain_sync) depth 40
