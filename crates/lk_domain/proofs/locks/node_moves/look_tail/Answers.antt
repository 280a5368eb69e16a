use Rattle.std.proofs.Common.{arith}
use Rattle.lk_domain.proofs.queue.ChoicePlays.{looks_tail}
use Rattle.lk_domain.proofs.locks.node_moves.look_tail.Goals as goal

pub load-met-requires : goal.load-met-requires
load-met-requires c =
    let d = c.args.domain.now in
    let z = d.table.shared.table_id in
    let i = c.node_of-word.result in (
      c.requires.table,
      (let a = c.requires.node.cpu in let b = c.requires.node.index in omega (arith, c.node_of-word.ensures, d.words, a, b)),
      looks_tail d.table.shared.key d.plan z.slots c.args.seat.now.id c.args.seat.now.me c.requires.number c.requires.row.0 i d.key
          c.args.node c.requires.node c.node_of-word.ensures c.requires.row.1,
    )
