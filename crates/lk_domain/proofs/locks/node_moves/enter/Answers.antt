use Rattle.std.proofs.Common.{arith}
use Rattle.lk_domain.proofs.{queue.NodeAsks.reset_last, words.NodeWords.low}
use Rattle.lk_domain.proofs.locks.node_moves.enter.Goals as goal

pub swap-requires : goal.swap-requires
swap-requires c =
    let d = c.args.domain.now in
    let k = d.table.shared.key in
    let z = d.table.shared.table_id in
    let i = c.node_of-word.result in
    let seat = c.args.seat.now in (
      c.requires.table,
      (let a = c.requires.own.cpu in let b = c.requires.own.index in let e = low c.args.part in omega (arith, c.node_of-word.ensures, d.words, a, b, e)),
      reset_last k d.plan z.slots seat.id seat.me c.requires.number c.requires.row.0 i d.key c.args.own c.args.part c.node_of-word.ensures c.requires.row.1 c.requires.last c.requires.part c.requires.ready,
    )
