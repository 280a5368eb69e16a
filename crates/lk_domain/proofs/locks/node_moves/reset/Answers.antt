use Rattle.std.proofs.Common.{sym, refl, ◌∙◌, arith}
use Rattle.lk_domain.proofs.Names.{step, none, node_at}
use Rattle.lk_domain.proofs.{queue.NodeAsks.reset_one, words.NodeWords.low}
use Rattle.lk_domain.proofs.locks.node_moves.reset.Goals as goal

pub swap-requires : goal.swap-requires
swap-requires c =
    let t = c.args.table.now in
    let k = t.shared.key in
    let z = t.shared.table_id in
    let on = c.requires.table in
    let i = c.node_of-word.result in
    let seat = c.args.seat.now in (
      c.requires.seat,
      (let a = c.requires.own.cpu in let b = c.requires.own.index in let e = low c.args.part in omega (arith, c.node_of-word.ensures, on.words, a, b, e)),
      reset_one k c.args.plan.now z.slots seat.id seat.me c.requires.number c.requires.row.0 i on.key_is c.args.own c.args.part c.node_of-word.ensures c.requires.row.1 c.requires.ready c.requires.plan
          (step z.slots i 0 0 none) refl,
    )

pub returns-clause-step : goal.returns-clause-step
returns-clause-step c =
    c.swap.ensures.2 c.args.own c.args.part
    (c.node_of-word.ensures ∙ (λ j. node_at (sym c.requires.plan j) c.args.own c.args.part))
