use Rattle.std.proofs.Common.{arith}
use Rattle.lk_domain.proofs.{queue.NodeAsks.bare_look, words.Locks.word_below}
use Rattle.lk_domain.proofs.locks.node_moves.enter_bare.Goals as goal

pub load-requires : goal.load-requires
load-requires c =
    let d = c.args.domain.now in
    let z = d.table.shared.table_id in
    let i = c.word_of-word.result in (
      c.requires.table,
      (let few = d.lawful.locks in let below = word_below d.plan c.args.lock c.requires.lock in omega (arith, c.word_of-word.ensures, d.words, below)),
      bare_look d.table.shared.key d.plan z.slots c.args.seat.now.id c.args.seat.now.me c.requires.number c.requires.row.0 i d.key
          c.args.lock c.requires.lock c.word_of-word.ensures c.requires.row.1,
    )
