use Rattle.std.proofs.Common.{arith, ◌∙◌}
use Rattle.lk_pvdomain.proofs.Names.{far_words}
use Rattle.lk_pvdomain.proofs.plays.MarkPlays.{halt_asks}
use Rattle.lk_pvdomain.proofs.kicks.halt.Goals as goal

pub load-requires : goal.load-requires
load-requires c =
    let d = c.args.domain.now in
    let z = d.table.shared.table_id in (
      c.requires.of.table_is,
      (let few = d.lawful.cpus in let low = c.requires.of.near.cpu in omega (arith, c.kick_of-word.ensures, d.words ∙ far_words d.plan c.requires.of.halting, low)),
      halt_asks d.table.shared.key d.plan z.slots c.args.seat.now.id c.args.seat.now.me c.kick_of-word.result d.key c.requires.of.halting
          c.args.own.cpu c.kick_of-word.ensures c.requires.of.number c.requires.row c.requires.awake,
    )
