use Rattle.std.proofs.Common.{arith, subst, ◌∙◌}
use Rattle.lk_pvdomain.proofs.Names.{LockName, far_words, running}
use Rattle.lk_pvdomain.proofs.OnSeeks.{look_asks}
use Rattle.lk_pvdomain.specs.PvPlays.{SeesPlace}
use Rattle.lk_pvdomain.proofs.hash.look_place.Goals as goal

pub load-requires : goal.load-requires
load-requires c =
    let d = c.args.domain.now in
    let z = d.table.shared.table_id in (
      c.requires.on.1.table_is,
      (let few = d.lawful.locks in let low = c.requires.place in omega (arith, c.place_of-word.ensures, d.words ∙ far_words d.plan c.requires.on.1.halting, few, low)),
      look_asks d.table.shared.key d.plan z.slots c.args.seat.now.id c.args.seat.now.me (c.requires.on.0.cpu, c.requires.on.1.number) c.place_of-word.result
          d.key c.requires.on.1.halting c.args.lock c.requires.lock c.requires.row c.args.place c.requires.place c.requires.next
          c.place_of-word.ensures,
    )

pub returns-clause-step : goal.returns-clause-step
returns-clause-step c =
    let h = c.requires.row in
    subst (λ (z : LockName). SeesPlace z.index c.args.seat.now.me c.load.result c.load.new.seat.me) h.stands.lock
    (c.load.ensures.2 (running h.verb h.stands.frame h.stands.trail) h.stands.rest h.stands.is)
