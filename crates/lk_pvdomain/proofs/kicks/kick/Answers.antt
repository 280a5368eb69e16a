use Rattle.std.proofs.Common.{arith, ◌∙◌}
use Rattle.lk_pvdomain.proofs.Names.{far_words}
use Rattle.lk_pvdomain.proofs.plays.MarkPlays.{kick_asks}
use Rattle.lk_pvdomain.proofs.kicks.kick.Goals as goal

pub swap-met-requires : goal.swap-met-requires
swap-met-requires c =
    let d = c.args.domain.now in
    let z = d.table.shared.table_id in (
      c.requires.on.1.table_is,
      (let few = d.lawful.cpus in let low = c.requires.target in omega (arith, c.kick_of-word.ensures, d.words ∙ far_words d.plan c.requires.on.1.halting, low)),
      kick_asks d.table.shared.key d.plan z.slots c.args.seat.now.id c.args.seat.now.me c.kick_of-word.result d.key c.requires.on.1.halting
          c.args.target c.kick_of-word.ensures (c.requires.on.0.cpu, c.requires.on.1.number) c.requires.target c.requires.row,
    )
