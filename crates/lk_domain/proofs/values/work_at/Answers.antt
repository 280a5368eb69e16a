use Rattle.std.proofs.Common.{refl, sym, ap, subst, ◌∙◌, ◌≡◌, ◌+◌, ◌∷◌, Some, arith}
use Rattle.lk_domain.proofs.Names.{Me, rest, step, none, Slot, carried_of, IsKeyOf, IsNumbered}
use Rattle.lk_domain.proofs.Names.{quiet_at, Plan, CellKey, View}
use Rattle.lk_domain.proofs.seats.Takes.{takes_value, brings_value, cell_below}
use Rattle.lk_domain.proofs.seats.Worked.{came_back, head_is, same_head, same_key, taken_newest}
use Rattle.lk_domain.proofs.values.work_at.Goals as goal

pub quiet_word-word-requires-clause-low : goal.quiet_word-word-requires-clause-low
quiet_word-word-requires-clause-low g c = cell_below c.args.plan.now c.args.home c.requires.valued

pub load-requires : goal.load-requires
load-requires g c =
    let table = c.args.table.now.shared in
    let z = table.table_id in
    let of = c.requires.table in
    let at = c.requires.seat in
    let seat = c.args.seat.now in
    let i = c.quiet_word-word.result in (
      at.table_is,
      (let w = of.words in let e = c.quiet_word-word.ensures.word in omega (arith, w, e)),
      takes_value table.key c.args.plan.now z.slots seat.id seat.me c.args.home i (step z.slots i 0 0 none) of.key_is
          at.plan_is c.quiet_word-word.ensures.word refl at.number c.requires.valued c.requires.held,
    )

pub slot_mut-requires : goal.slot_mut-requires
slot_mut-requires g c =
    let t = c.load.ensures.2 c.args.home (c.quiet_word-word.ensures.word ∙ ap (λ (k : Plan). quiet_at k c.args.home) (sym c.requires.seat.plan_is)) in
    let at = ap (λ (x : Me Slot View). x.1) t.seat in (
      c.load.ensures.0 ∙ c.requires.seat.table_is,
      (Some (CellKey t.key), head_is at),
    )

pub load-requires-2 : goal.load-requires-2
load-requires-2 g c =
    let table = c.args.table.now.shared in
    let z = table.table_id in
    let of = c.requires.table in
    let at = c.requires.seat in
    let q = c.args.home in
    let k = c.args.plan.now in
    let seat = c.args.seat.now in
    let i = c.quiet_word-word.result in
    let t = c.load.ensures.2 q (c.quiet_word-word.ensures.word ∙ ap (λ (k : Plan). quiet_at k q) (sym at.plan_is)) in
    let view = ap (λ (x : Me Slot View). x.0) t.seat in
    let worked = c.work_in-done.ensures in
    let out = c.load.new.seat in
    let key : worked.0 ≡ t.key =
    same_key (sym worked.2 ∙ same_head (1 + q) c.slot_mut.ensures.value (ap (λ (x : Me Slot View). x.1) t.seat)) in
    let is : IsKeyOf k q worked.0 =
    subst (λ (k : Plan). IsKeyOf k q worked.0) at.plan_is (subst (IsKeyOf seat.me.0.who.plan q) (sym key) t.is) in (
      c.load.ensures.0 ∙ at.table_is,
      (let w = of.words in let e = c.quiet_word-word.ensures.word in omega (arith, w, e)),
      brings_value table.key k z.slots out.id (out.me.0, (1 + q, c.work_in-done.new.place) ∷ rest out.me.1) out.me.0
          (rest out.me.1) q i worked.1 (step z.slots i 0 0 none) of.key_is
          (ap (λ (x : Slot). let m : Me Slot View = (out.me.0, (1 + q, x) ∷ rest out.me.1) in m) worked.3)
          (ap (λ (v : View). v.who.plan) view ∙ at.plan_is) c.quiet_word-word.ensures.word refl
          (subst IsNumbered (sym view) at.number) c.requires.valued
          (c.requires.work.keeps worked.0 c.work_in-done.result worked.1 is worked.4)
          (taken_newest k q seat.me.0 out.me.0 at.plan_is view t.apart),
    )

pub returns-clause-view : goal.returns-clause-view
returns-clause-view g c =
    let at = c.requires.seat in
    let q = c.args.home in
    let seat = c.args.seat.now in
    let t = c.load.ensures.2 q (c.quiet_word-word.ensures.word ∙ ap (λ (k : Plan). quiet_at k q) (sym at.plan_is)) in
    let view = ap (λ (x : Me Slot View). x.0) t.seat in
    let plan = ap (λ (v : View). v.who.plan) view ∙ at.plan_is in
    let b = c.load-2.ensures.2 q c.work_in-done.new.place (rest c.load.new.seat.me.1)
    (c.quiet_word-word.ensures.word ∙ ap (λ (k : Plan). quiet_at k q) (sym plan)) refl in
    ap (λ (x : Me Slot View). x.0) b ∙ came_back c.args.plan.now q seat.me.0 c.load.new.seat.me.0 at.plan_is view c.requires.held

pub returns-clause-carried : goal.returns-clause-carried
returns-clause-carried g c =
    let at = c.requires.seat in
    let q = c.args.home in
    let seat = c.args.seat.now in
    let t = c.load.ensures.2 q (c.quiet_word-word.ensures.word ∙ ap (λ (k : Plan). quiet_at k q) (sym at.plan_is)) in
    let view = ap (λ (x : Me Slot View). x.0) t.seat in
    let plan = ap (λ (v : View). v.who.plan) view ∙ at.plan_is in
    let b = c.load-2.ensures.2 q c.work_in-done.new.place (rest c.load.new.seat.me.1)
    (c.quiet_word-word.ensures.word ∙ ap (λ (k : Plan). quiet_at k q) (sym plan)) refl in
    let same : c.load-2.new.seat.me.0 ≡ seat.me.0 =
    ap (λ (x : Me Slot View). x.0) b ∙ came_back c.args.plan.now q seat.me.0 c.load.new.seat.me.0 at.plan_is view c.requires.held in
    ap (λ (x : Me Slot View). x.1) b
    ∙ (ap (λ (x : Me Slot View). rest x.1) t.seat
    ∙ (at.carried ∙ ap carried_of (sym same)))
