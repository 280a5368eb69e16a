use Rattle.std.proofs.Common.{arith, ⊎_elim, ℕ, subst, sym, ap, ◌∙◌}
use Rattle.lk_domain.proofs.Names.{Allows, Hands, Stand, flag_number}
use Rattle.lk_domain.proofs.{queue.FrontPlays.hands_over, queue.HaltPlays.hand_asks}
use Rattle.lk_domain.proofs.locks.node_moves.hand.Goals as goal

pub swap-met-requires : goal.swap-met-requires
swap-met-requires c =
    let t = c.args.table.now in
    let plan = c.args.plan.now in
    let z = t.shared.table_id in
    let on = c.requires.table in
    let i = c.node_of-word.result in
    let id = c.args.seat.now.id in
    let m = c.args.seat.now.me in
    let v = c.requires.row.0 in
    let told = c.flag_of-told.result in (
      c.requires.seat,
      (let a = c.requires.to.cpu in let b = c.requires.to.index in omega (arith, c.node_of-word.ensures, on.words, a, b)),
      ⊎_elim
          (λ h. hands_over t.shared.key plan z.slots id m c.requires.number v i on.key_is
          c.args.to c.requires.to c.node_of-word.ensures c.args.flag h told c.flag_of-told.ensures)
          (λ h. subst (λ (x : ℕ). Allows (Stand t.shared.key) z.slots id m i (λ _. x) (Hands m)) (sym (c.flag_of-told.ensures ∙ ap flag_number h.0))
          (hand_asks t.shared.key plan z.slots id m c.requires.number v i on.key_is c.args.to c.requires.to c.node_of-word.ensures h.1)) c.requires.row.1,
    )
