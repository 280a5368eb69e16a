use Rattle.std.proofs.Common.{◌∷◌, [], length, length-append, ap, ◌∙◌, arith}
use Rattle.lk_port.proofs.Names.{domain_of}
use Rattle.lk_port.proofs.Opened as opened
use Rattle.lk_port.proofs.Ports as port
use Rattle.lk_port.proofs.opening.ports_of.Goals as goal

pub port-requires-clause-dealt : goal.port-requires-clause-dealt
port-requires-clause-dealt c =
    (length c.pop.new.self.items, port.dealt_last (domain_of c.args.share.now) c.loop-alloc.cpus.items c.pop.new.self.items c.pop.result c.loop-alloc.invariant.dealt c.pop.ensures.items)

pub loop-alloc-preserved : goal.loop-alloc-preserved
loop-alloc-preserved c =
    let inv = c.loop-alloc.invariant in
    let domain = domain_of c.args.share.now in
    let last = port.dealt_last domain c.loop-alloc.cpus.items c.pop.new.self.items c.pop.result inv.dealt c.pop.ensures.items in
    let fewer = ap length c.pop.ensures.items ∙ length-append c.pop.new.self.items (c.pop.result ∷ []) in
    let many = inv.many in
    let is = c.in-Ok.ensures.items in
    let more = ap length is ∙ length-append c.loop-alloc.ports.items (c.in_ok-port.port ∷ []) in
    record {
      dealt = port.dealt_rest domain c.loop-alloc.cpus.items c.pop.new.self.items c.pop.result inv.dealt c.pop.ensures.items;
      many = omega (arith, fewer, many, more);
      each = opened.ports_more domain (length c.args.cpus.items) (length c.pop.new.self.items) c.loop-alloc.ports.items c.push.new.self.items
          c.in_ok-port.port is inv.each c.in_ok-port.ensures.domain (c.in_ok-port.ensures.cpu ∙ last.number) (omega (arith, fewer, many));
    }
