use denote.Param.Send.{sendable}
use Rattle.std.proofs.Crossing.{crosses}
use Rattle.lk_guard.proofs.Crossing.{pv_region_sync, region_sync}
use Rattle.lk_workers.proofs.running.run_jobs.Goals as goal

pub run-requires-sync-D : goal.run-requires-sync-D
run-requires-sync-D g c κs within = search (sendable, crosses, pv_region_sync) depth 40

pub run-requires-in-Virt-sync-D : goal.run-requires-in-Virt-sync-D
run-requires-in-Virt-sync-D g c κs within = search (sendable, crosses, region_sync) depth 40
