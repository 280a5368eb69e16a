-- A domain may be seen by several threads at once. Its plan has a `Snapshot`, so that this is not found
-- without a hint.
use Rattle.std.proofs.Crossing.{crosses}
use denote.Param.Send.{IsSync, sendable}
use Rattle.std.proofs.option.Option.TheSendSync as option
use Rattle.std.proofs.alloc.Global.TheSendSync as global
use Rattle.atomic_table.proofs.owned.Table.TheSendSync as table
use Rattle.lk_names.proofs.list.List.TheSendSync as list
use Rattle.lk_names.proofs.names.Topology.TheSendSync as topology
use Rattle.lk_names.proofs.names.Format.TheSendSync as format
use Rattle.lk_names.proofs.names.Mode.TheSendSync as mode
use Rattle.lk_names.proofs.names.Kind.TheSendSync as kind
use Rattle.lk_domain.proofs.rule.Order.TheSendSync as order
use Rattle.lk_domain.proofs.slot.Stowed.TheSendSync as stowed
use Rattle.lk_domain.specs.contracts.domain.Domain as Domain
use Rattle.lk_domain.specs.contracts.plan.Plan as Plan

pub plan_sync : IsSync Plan.the_row
plan_sync = search (sendable, crosses, list.the_sync, topology.the_sync, format.the_sync, mode.the_sync, kind.the_sync) depth 40

pub domain_sync : IsSync Domain.the_row
domain_sync =
    search (sendable, crosses, plan_sync, table.the_sync, table.the_field_sync, stowed.the_send, stowed.the_field_send, option.the_send, option.the_field_send, global.the_send, global.the_sync, order.the_send, order.the_sync) depth 40

-- as a field of another type
pub domain_field_sync : IsSync Domain.the_field.row
domain_field_sync =
    search (sendable, crosses, plan_sync, domain_sync, table.the_sync, table.the_field_sync, stowed.the_send, stowed.the_field_send, option.the_send, option.the_field_send, global.the_send, global.the_sync, order.the_send, order.the_sync) depth 40
