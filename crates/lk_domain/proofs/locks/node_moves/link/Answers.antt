use Rattle.std.proofs.Common.{arith}
use Rattle.lk_domain.proofs.queue.NodeAsks.{link_up}
use Rattle.lk_domain.proofs.locks.node_moves.link.Goals as goal

pub swap-met-requires : goal.swap-met-requires
swap-met-requires c =
    let t = c.args.table.now in
    let z = t.shared.table_id in
    let on = c.requires.table in
    let i = c.node_of-word.result in (
      c.requires.seat,
      (let a = c.requires.prev.cpu in let b = c.requires.prev.index in omega (arith, c.node_of-word.ensures, on.words, a, b)),
      link_up t.shared.key c.args.plan.now z.slots c.args.seat.now.id c.args.seat.now.me c.requires.number c.requires.row.0 i on.key_is
          c.args.prev c.args.own.node c.args.own.mark c.requires.prev c.node_of-word.ensures c.requires.row.1 c.link_of-name.result c.link_of-name.ensures,
    )
