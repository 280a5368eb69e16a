use Rattle.std.proofs.Common.{arith, subst, ◌∙◌}
use Rattle.lk_pvdomain.proofs.Names.{LockName, far_words, running, EmptiesAt}
use Rattle.lk_pvdomain.proofs.OnSeeks.{erase_asks}
use Rattle.lk_pvdomain.proofs.hash.erase.Goals as goal

pub swap-requires : goal.swap-requires
swap-requires c =
    let d = c.args.domain.now in
    let z = d.table.shared.table_id in
    let h = c.requires.row in (
      c.requires.on.1.table_is,
      (let few = d.lawful.locks in let low = c.requires.place in omega (arith, c.place_of-word.ensures, d.words ∙ far_words d.plan c.requires.on.1.halting, few, low)),
      erase_asks d.table.shared.key d.plan z.slots c.args.seat.now.id c.args.seat.now.me (c.requires.on.0.cpu, c.requires.on.1.number) c.place_of-word.result
          d.key c.requires.on.1.halting c.args.lock c.requires.lock h c.requires.found.0 c.requires.found.1 c.args.place c.requires.next
          c.place_of-word.ensures,
    )

pub returns-clause-step : goal.returns-clause-step
returns-clause-step c =
    let h = c.requires.row in
    subst (λ (z : LockName). EmptiesAt z.index c.args.seat.now.me c.swap.result c.swap.new.seat.me) h.stands.lock
    (c.swap.ensures.2 (running h.verb h.stands.frame h.stands.trail) h.stands.rest h.stands.is)
