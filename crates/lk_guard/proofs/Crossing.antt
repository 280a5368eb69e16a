-- A region may be seen by all threads at once.
use denote.Param.Send.{IsSync, sendable}
use Rattle.std.proofs.Crossing.{crosses}
use Rattle.lk_names.proofs.names.Kind.TheSendSync as kind
use Rattle.lk_domain.proofs.Crossing.{domain_sync, domain_field_sync}
use Rattle.lk_guard.specs.contracts.region.Region as Region
use Rattle.lk_guard.specs.contracts.pv_region.PvRegion as PvRegion
use Rattle.lk_pvdomain.proofs.PvSeating.{pv_domain_sync, pv_domain_field_sync}

pub region_sync : IsSync Region.the_row
region_sync = search (sendable, crosses, domain_sync, domain_field_sync, kind.the_sync) depth 40

pub pv_region_sync : IsSync PvRegion.the_row
pv_region_sync = search (sendable, crosses, pv_domain_sync, pv_domain_field_sync) depth 40
