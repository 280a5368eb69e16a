use Rattle.std.proofs.Common.{arith, ⊎_elim}
use Rattle.lk_domain.proofs.{queue.FrontPlays.looks_link, queue.HaltPlays.behind_asks}
use Rattle.lk_domain.proofs.locks.node_moves.look_next.Goals as goal

pub load-met-requires : goal.load-met-requires
load-met-requires c =
    let t = c.args.table.now in
    let plan = c.args.plan.now in
    let z = t.shared.table_id in
    let on = c.requires.table in
    let i = c.node_of-word.result in
    let v = c.requires.row.0 in (
      c.requires.seat,
      (let a = c.requires.own.cpu in let b = c.requires.own.index in omega (arith, c.node_of-word.ensures, on.words, a, b)),
      ⊎_elim
          (λ h. looks_link t.shared.key plan z.slots c.args.seat.now.id c.args.seat.now.me c.requires.number v i on.key_is
          c.args.own c.requires.own c.node_of-word.ensures h)
          (λ h. behind_asks t.shared.key plan z.slots c.args.seat.now.id c.args.seat.now.me c.requires.number v i on.key_is
          c.args.own c.requires.own c.node_of-word.ensures h) c.requires.row.1,
    )
