use Rattle.std.proofs.Common.{arith, ap, ◌∙◌}
use Rattle.lk_pvdomain.proofs.Names.{far_words, state_number}
use Rattle.lk_pvdomain.proofs.plays.StatePlays.{store_on}
use Rattle.lk_pvdomain.proofs.states.store_state.Goals as goal

pub swap-requires : goal.swap-requires
swap-requires c =
    let d = c.args.domain.now in
    let z = d.table.shared.table_id in (
      c.requires.on.1.table_is,
      (let a = c.requires.node.cpu in let b = c.requires.node.index in omega (arith, c.state_of-word.ensures, d.words ∙ far_words d.plan c.requires.on.1.halting, a, b)),
      store_on d.table.shared.key d.plan z.slots c.args.seat.now.id c.args.seat.now.me (c.requires.on.0.cpu, c.requires.on.1.number)
          c.state_of-word.result d.key c.requires.on.1.halting c.args.node c.requires.node c.state_of-word.ensures c.requires.row.at
          c.number_of-number.result (c.number_of-number.ensures ∙ ap state_number c.requires.row.told_is),
    )
