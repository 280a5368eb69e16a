use Rattle.std.proofs.Common.{arith, ◌∙◌}
use Rattle.lk_pvdomain.proofs.Names.{far_words}
use Rattle.lk_pvdomain.proofs.PvEntries.{enter_asks}
use Rattle.lk_pvdomain.proofs.states.store_entry.Goals as goal

pub swap-requires : goal.swap-requires
swap-requires c =
    let d = c.args.domain.now in
    let z = d.table.shared.table_id in
    let i = c.state_of-word.result in (
      c.requires.of.table_is,
      (let few = d.lawful.locks in let a = c.requires.of.near.cpu in let b = c.requires.of.near.index in omega (arith, c.state_of-word.ensures, d.words ∙ far_words d.plan c.requires.of.halting, few, a, b)),
      enter_asks d.table.shared.key d.plan z.slots c.args.seat.now.id c.args.seat.now.me (c.args.own.cpu, c.requires.of.number) i d.key c.requires.of.halting
          c.args.own c.state_of-word.ensures c.requires.row.0 c.requires.row.1 c.requires.ready,
    )
