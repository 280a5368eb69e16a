use Rattle.std.proofs.Common.{arith, refl, ◌+◌}
use Rattle.lk_pvdomain.proofs.Names.{step, none}
use Rattle.lk_pvdomain.proofs.PvSwaps.{steal_told}
use Rattle.lk_pvdomain.proofs.tries.try_steal.Goals as goal

pub compare_exchange-met-requires : goal.compare_exchange-met-requires
compare_exchange-met-requires c =
    let d = c.args.domain.now in
    let z = d.table.shared.table_id in
    let i = c.lock_word-word.result in (
      c.requires.on.1.table_is,
      (let few = d.lawful.locks in let low = c.requires.lock in omega (arith, c.lock_word-word.ensures, d.words, low)),
      steal_told d.table.shared.key d.plan z.slots c.args.seat.now.id c.args.seat.now.me (c.requires.on.0.cpu, c.requires.on.1.number) c.args.lock i
          (step z.slots i c.args.expected (c.args.expected + 1) none) d.key c.requires.lock c.lock_word-word.ensures refl c.args.expected refl
          c.requires.expected c.requires.row,
    )

pub returns-clause-step : goal.returns-clause-step
returns-clause-step c = c.compare_exchange-met.ensures.2 c.args.lock c.lock_word-word.ensures
