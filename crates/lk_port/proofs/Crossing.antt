-- A port may go to another thread, of whatever family. Its domain's plan has a `Snapshot`, so that this is not found without
-- hints.
use Rattle.std.proofs.Crossing.{crosses}
use denote.Param.Send.{IsSend, sendable}
use Rattle.lk_domain.proofs.Crossing.{domain_sync}
use Rattle.lk_pvdomain.proofs.PvSeating.{pv_domain_sync}
use Rattle.std.proofs.option.Option.TheSendSync as option
use Rattle.std.proofs.alloc.Global.TheSendSync as global
use Rattle.atomic_table.proofs.owned.Table.TheSendSync as table
use Rattle.lk_names.proofs.list.List.TheSendSync as list
use Rattle.lk_names.proofs.names.Topology.TheSendSync as topology
use Rattle.lk_names.proofs.names.Format.TheSendSync as format
use Rattle.lk_names.proofs.names.Mode.TheSendSync as mode
use Rattle.lk_names.proofs.names.Kind.TheSendSync as kind
use Rattle.lk_domain.proofs.rule.Order.TheSendSync as order
use Rattle.lk_domain.proofs.slot.Stowed.TheSendSync as stowed
use Rattle.lk_domain.proofs.cpu.Cpu.TheSendSync as cpu
use Rattle.lk_run.proofs.waiter.Waiter.TheSendSync as waiter
use Rattle.lk_run.proofs.read_waiter.ReadWaiter.TheSendSync as reader
use Rattle.lk_run.proofs.write_waiter.WriteWaiter.TheSendSync as writer
use Rattle.lk_port.proofs.pending.Pending.TheSendSync as pending
use Rattle.lk_domain.specs.contracts.domain.Domain as Domain
use Rattle.lk_domain.specs.contracts.plan.Plan as Plan
use Rattle.lk_pvdomain.proofs.waiter.PvWaiter.TheSendSync as pv_waiter
use Rattle.lk_pvdomain.specs.contracts.domain.PvDomain as PvDomain
use Rattle.lk_port.specs.contracts.port.Port as Port
use Rattle.lk_port.specs.contracts.share.Share as Share

pub plan_send : IsSend Plan.the_row
plan_send = search (sendable, crosses, list.the_send, topology.the_send, format.the_send, mode.the_send, kind.the_send) depth 40

pub domain_send : IsSend Domain.the_row
domain_send =
    search (sendable, crosses, plan_send, table.the_send, table.the_field_send, stowed.the_send, stowed.the_field_send, option.the_send, option.the_field_send, global.the_send, global.the_sync, order.the_send, order.the_sync) depth 40

domain_field_send : IsSend Domain.the_field.row
domain_field_send =
    search (sendable, crosses, domain_send, plan_send, table.the_send, table.the_field_send, stowed.the_send, stowed.the_field_send, option.the_send, option.the_field_send, global.the_send, global.the_sync, order.the_send, order.the_sync) depth 40

pub pv_domain_send : IsSend PvDomain.the_row
pv_domain_send = search (sendable, crosses, domain_send, domain_field_send) depth 40

pub share_send : IsSend Share.the_row
share_send = search (sendable, crosses, domain_send, domain_sync, pv_domain_send, pv_domain_sync, global.the_send, global.the_sync) depth 40

-- as a field of another type
pub share_field_send : IsSend Share.the_field.row
share_field_send = search (sendable, crosses, share_send, domain_send, domain_sync, pv_domain_send, pv_domain_sync, global.the_send, global.the_sync) depth 40

pub port_send : IsSend Port.the_row
port_send =
    search (sendable, crosses, share_send, share_field_send, cpu.the_send, cpu.the_field_send, waiter.the_send, waiter.the_field_send, reader.the_send, reader.the_field_send, writer.the_send, writer.the_field_send, pv_waiter.the_send, pv_waiter.the_field_send, pending.the_send, pending.the_field_send, list.the_send, option.the_send, option.the_field_send) depth 40
