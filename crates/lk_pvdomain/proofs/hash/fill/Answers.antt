use Rattle.std.proofs.Common.{arith, ◌∙◌}
use Rattle.lk_pvdomain.proofs.Names.{far_words}
use Rattle.lk_pvdomain.proofs.OnHash.{fill_asks}
use Rattle.lk_pvdomain.proofs.hash.fill.Goals as goal

pub compare_exchange-requires : goal.compare_exchange-requires
compare_exchange-requires c =
    let d = c.args.domain.now in
    let z = d.table.shared.table_id in (
      c.requires.on.1.table_is,
      (let few = d.lawful.locks in let low = c.requires.place in omega (arith, c.place_of-word.ensures, d.words ∙ far_words d.plan c.requires.on.1.halting, few, low)),
      fill_asks d.table.shared.key d.plan z.slots c.args.seat.now.id c.args.seat.now.me (c.requires.on.0.cpu, c.requires.on.1.number) c.place_of-word.result
          d.key c.requires.on.1.halting c.args.lock c.requires.lock c.args.node c.requires.node c.requires.row c.args.place c.requires.place
          c.place_of-word.ensures c.pair_of-pair.result c.pair_of-pair.ensures,
    )
