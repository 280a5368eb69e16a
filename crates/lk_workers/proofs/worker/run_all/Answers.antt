use denote.Param.Send.{sendable}
use Rattle.std.proofs.Crossing.{crosses}
use Rattle.lk_names.proofs.list.List.TheSendSync as list
use Rattle.lk_names.proofs.names.Topology.TheSendSync as topology
use Rattle.lk_names.proofs.names.Format.TheSendSync as format
use Rattle.lk_names.proofs.names.Mode.TheSendSync as mode
use Rattle.lk_names.proofs.names.Kind.TheSendSync as kind
use Rattle.lk_workers.proofs.worker.run_all.Goals as goal

pub for_each_mut-requires-sync-F : goal.for_each_mut-requires-sync-F
for_each_mut-requires-sync-F g c κs within =
    let gate = c.type_bounds.sync-G in
    let host = c.type_bounds.sync-R in
    let region = c.type_bounds.sync-D in
    search (sendable, crosses, list.the_sync, topology.the_sync, format.the_sync, mode.the_sync, kind.the_sync) depth 40
