use Rattle.std.proofs.Common.{arith, ◌∙◌}
use Rattle.lk_pvdomain.proofs.Names.{far_words, Enters}
use Rattle.lk_pvdomain.proofs.{PvEntries.enter_asks, Spared.spared}
use Rattle.lk_pvdomain.proofs.states.look_entry.Goals as goal

pub load-requires : goal.load-requires
load-requires c =
    let d = c.args.domain.now in
    let z = d.table.shared.table_id in
    let i = c.state_of-word.result in
    let seat = c.args.seat.now in (
      c.requires.of.table_is,
      (let few = d.lawful.locks in let a = c.requires.of.near.cpu in let b = c.requires.of.near.index in omega (arith, c.state_of-word.ensures, d.words ∙ far_words d.plan c.requires.of.halting, few, a, b)),
      spared d.table.shared.key z.slots seat.id seat.me i (Enters seat.me)
          (enter_asks d.table.shared.key d.plan z.slots seat.id seat.me (c.args.own.cpu, c.requires.of.number) i d.key c.requires.of.halting
          c.args.own c.state_of-word.ensures c.requires.row.0 c.requires.row.1 c.requires.ready),
    )

pub returns-clause-spares : goal.returns-clause-spares
returns-clause-spares c e = c.load.ensures.2.spares e

pub returns-clause-stays : goal.returns-clause-stays
returns-clause-stays c ne = c.load.ensures.2.stays ne
