use Rattle.std.proofs.Common.{refl, sym, ap, ◌∙◌, ◌≡◌, ◌+◌, ◌∷◌, List, ℕ, Some, None, arith, get_or}
use Rattle.lk_domain.proofs.Names.{Me, rest, step, none, Slot, carried_of, carried_with, bringing}
use Rattle.lk_domain.proofs.Names.{empty_places, lock_of, quiet_at, Plan, CellKey, View}
use Rattle.lk_domain.proofs.seats.Takes.{brings_value, cell_below}
use Rattle.lk_domain.specs.Values.{older}
use Rattle.lk_domain.proofs.values.bring.Goals as goal

pub quiet_word-word-requires-clause-low : goal.quiet_word-word-requires-clause-low
quiet_word-word-requires-clause-low c = cell_below c.args.plan.now c.args.home c.requires.valued

pub exchange-requires : goal.exchange-requires
exchange-requires c =
    let seat = c.args.seat.now in
    let new = c.requires.newest in
    let at : seat.me.1 ≡ (1 + c.args.home, None) ∷ empty_places new.others =
    c.requires.seat.carried ∙ (λ i. carried_with (new.is i) (c.requires.journal i)) in (
      c.requires.seat.table_is,
      (None, at ∙ ap (λ (l : List (ℕ × Slot)). (1 + c.args.home, None) ∷ rest l) (sym at)),
    )

pub unreachable-requires : goal.unreachable-requires
unreachable-requires c =
    let new = c.requires.newest in
    let at = c.requires.seat.carried ∙ (λ i. carried_with (new.is i) (c.requires.journal i)) in
    let no : Some c.in-Some.field-0 ≡ None =
    sym c.in-Some.is ∙ ap (λ (l : List (ℕ × Slot)). (get_or l 0 (0, None)).1) (sym c.exchange.ensures.2 ∙ at) in
    cc

pub load-requires : goal.load-requires
load-requires c =
    let table = c.args.table.now.shared in
    let z = table.table_id in
    let of = c.requires.table in
    let at = c.requires.seat in
    let seat = c.args.seat.now in
    let new = c.requires.newest in
    let i = c.quiet_word-word.result in
    let under : rest seat.me.1 ≡ empty_places new.others =
    ap rest (at.carried ∙ (λ i. carried_with (new.is i) (c.requires.journal i))) in
    let is = c.exchange.ensures.3
    ∙ ap (λ (l : List (ℕ × Slot)). let m : Me Slot View = (seat.me.0, (1 + c.args.home, Some (CellKey c.args.key)) ∷ l) in m) under in (
      c.exchange.ensures.0 ∙ at.table_is,
      (let w = of.words in let e = c.quiet_word-word.ensures.word in omega (arith, w, e)),
      brings_value table.key c.args.plan.now z.slots c.exchange.new.seat.id c.exchange.new.seat.me seat.me.0
          (empty_places new.others) c.args.home i c.args.key (step z.slots i 0 0 none) of.key_is is at.plan_is
          c.quiet_word-word.ensures.word refl at.number c.requires.valued c.requires.key new,
    )

pub returns-clause-view : goal.returns-clause-view
returns-clause-view c =
    let seat = c.args.seat.now in
    let new = c.requires.newest in
    let q = c.args.home in
    let under : rest seat.me.1 ≡ empty_places new.others =
    ap rest (c.requires.seat.carried ∙ (λ i. carried_with (new.is i) (c.requires.journal i))) in
    let is = c.exchange.ensures.3
    ∙ ap (λ (xs : List (ℕ × Slot)). let m : Me Slot View = (seat.me.0, (1 + q, Some (CellKey c.args.key)) ∷ xs) in m) under in
    let plan = ap (λ (x : Me Slot View). x.0.who.plan) is ∙ c.requires.seat.plan_is in
    let t = c.load.ensures.2 q (Some (CellKey c.args.key)) (empty_places new.others)
    (c.quiet_word-word.ensures.word ∙ ap (λ (k : Plan). quiet_at k q) (sym plan)) (ap (λ (x : Me Slot View). x.1) is) in
    let view = ap (λ (x : Me Slot View). x.0) t ∙ (λ i. bringing (lock_of (plan i) q) (is i).0) in
    view

pub returns-clause-carried : goal.returns-clause-carried
returns-clause-carried c =
    let seat = c.args.seat.now in
    let new = c.requires.newest in
    let q = c.args.home in
    let under : rest seat.me.1 ≡ empty_places new.others =
    ap rest (c.requires.seat.carried ∙ (λ i. carried_with (new.is i) (c.requires.journal i))) in
    let is = c.exchange.ensures.3
    ∙ ap (λ (xs : List (ℕ × Slot)). let m : Me Slot View = (seat.me.0, (1 + q, Some (CellKey c.args.key)) ∷ xs) in m) under in
    let plan = ap (λ (x : Me Slot View). x.0.who.plan) is ∙ c.requires.seat.plan_is in
    let t = c.load.ensures.2 q (Some (CellKey c.args.key)) (empty_places new.others)
    (c.quiet_word-word.ensures.word ∙ ap (λ (k : Plan). quiet_at k q) (sym plan)) (ap (λ (x : Me Slot View). x.1) is) in
    let view = ap (λ (x : Me Slot View). x.0) t ∙ (λ i. bringing (lock_of (plan i) q) (is i).0) in
    ap (λ (x : Me Slot View). x.1) t
    ∙ ((λ i. carried_with (ap older (sym new.is) i) (sym c.requires.journal i)) ∙ ap carried_of (sym view))
