use Rattle.std.proofs.Common.{length, subst}
use Rattle.lk_port.proofs.Names.{domain_of}
use Rattle.lk_names.specs.declared.names.Mode.{Mode}
use Rattle.lk_port.proofs.Opened.{opens}
use Rattle.lk_port.specs.Opened.{IsPlanFor, mode_of}
use Rattle.lk_port.proofs.opening.open.Goals as goal

pub returns : goal.returns
returns c =
    let is_for = λ (m : Mode). IsPlanFor m c.args.locks.items c.args.sockets.items c.args.threshold c.in-Ok.domain.plan in
    opens (mode_of c.args.family) c.args.locks.items c.args.sockets.items c.args.threshold c.in-Ok.domain (domain_of c.in_ok-share.share)
    (length c.in-Ok.cpus.items) (λ ports. ports.items) c.ports_of.result
    (subst is_for c.mode.ensures c.in-Ok.ensures.plan) c.in_ok-share.ensures.domain c.in-Ok.ensures.many c.ports_of.ensures.many c.ports_of.ensures.each
