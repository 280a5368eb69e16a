use Rattle.std.proofs.Common.{sym, refl, ◌∙◌, arith}
use Rattle.lk_pvdomain.proofs.Names.{step, none}
use Rattle.lk_domain.proofs.{queue.NodeAsks.reset_one, words.NodeWords.low}
use Rattle.lk_domain.specs.{NodePlays.Readies, Words.node_at}
use Rattle.lk_pvdomain.proofs.Spared.{spared}
use Rattle.lk_pvdomain.proofs.nodes.look_reset.Goals as goal

pub load-requires : goal.load-requires
load-requires c =
    let d = c.args.domain.now in
    let k = d.table.shared.key in
    let z = d.table.shared.table_id in
    let i = c.node_of-word.result in
    let seat = c.args.seat.now in (
      c.requires.of.table_is,
      (let a = c.requires.of.near.cpu in let b = c.requires.of.near.index in let e = low c.args.part in omega (arith, c.node_of-word.ensures, d.words, a, b, e)),
      spared k z.slots seat.id seat.me i (Readies (step z.slots i 0 0 none) seat.me)
          (reset_one k d.plan z.slots seat.id seat.me (c.args.own.cpu, c.requires.of.number) c.requires.row.0 i d.key c.args.own c.args.part c.node_of-word.ensures
          c.requires.row.1 c.requires.ready c.requires.of.plan (step z.slots i 0 0 none) refl),
    )

pub returns-clause-spares : goal.returns-clause-spares
returns-clause-spares c e =
    c.load.ensures.2.spares e c.args.own c.args.part
    (c.node_of-word.ensures ∙ (λ j. node_at (sym c.requires.of.plan j) c.args.own c.args.part))

pub returns-clause-stays : goal.returns-clause-stays
returns-clause-stays c ne = c.load.ensures.2.stays ne
