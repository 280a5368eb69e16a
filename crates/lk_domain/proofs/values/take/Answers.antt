use Rattle.std.proofs.Common.{refl, sym, ap, subst, ◌∙◌, ◌≡◌, ◌+◌, ◌∷◌, List, ℕ, Some, None, arith}
use Rattle.lk_domain.proofs.Names.{Me, rest, step, none, Slot, carried_of, carried_with, IsClear}
use Rattle.lk_domain.proofs.Names.{IsKeyOf, empty_places, lock_of, taking, quiet_at, Plan, CellKey}
use Rattle.lk_domain.proofs.Names.{Entries, View}
use Rattle.lk_domain.proofs.seats.Takes.{takes_value, cell_below}
use Rattle.lk_domain.proofs.seats.Worked.{head_is, same_head, same_key}
use Rattle.lk_domain.proofs.values.take.Goals as goal

pub quiet_word-word-requires-clause-low : goal.quiet_word-word-requires-clause-low
quiet_word-word-requires-clause-low c = cell_below c.args.plan.now c.args.home c.requires.valued

pub load-requires : goal.load-requires
load-requires c =
    let table = c.args.table.now.shared in
    let z = table.table_id in
    let of = c.requires.table in
    let at = c.requires.seat in
    let seat = c.args.seat.now in
    let i = c.quiet_word-word.result in (
      at.table_is,
      (let w = of.words in let e = c.quiet_word-word.ensures.word in omega (arith, w, e)),
      takes_value table.key c.args.plan.now z.slots seat.id seat.me c.args.home i (step z.slots i 0 0 none) of.key_is
          at.plan_is c.quiet_word-word.ensures.word refl at.number c.requires.valued c.requires.held,
    )

pub slot_mut-place-requires : goal.slot_mut-place-requires
slot_mut-place-requires c =
    let t = c.load.ensures.2 c.args.home (c.quiet_word-word.ensures.word ∙ ap (λ (k : Plan). quiet_at k c.args.home) (sym c.requires.seat.plan_is)) in
    let at = ap (λ (x : Me Slot View). x.1) t.seat in (
      c.load.ensures.0 ∙ c.requires.seat.table_is,
      (Some (CellKey t.key), head_is at),
    )

pub unreachable-requires : goal.unreachable-requires
unreachable-requires c =
    let t = c.load.ensures.2 c.args.home (c.quiet_word-word.ensures.word ∙ ap (λ (k : Plan). quiet_at k c.args.home) (sym c.requires.seat.plan_is)) in
    let lain : c.slot_mut-place.result.now ≡ Some (CellKey t.key) =
    same_head (1 + c.args.home) c.slot_mut-place.ensures.value (ap (λ (x : Me Slot View). x.1) t.seat) in
    let no : Some (Entries c.in-Some-Entries.field-0-0) ≡ Some (CellKey t.key) =
    sym (c.in-Some-Entries.is ∙ ap Some c.in-Some-Entries.field-0-is) ∙ (c.take.ensures.value ∙ lain) in
    cc

pub unreachable-requires-in-None : goal.unreachable-requires-in-None
unreachable-requires-in-None c =
    let t = c.load.ensures.2 c.args.home (c.quiet_word-word.ensures.word ∙ ap (λ (k : Plan). quiet_at k c.args.home) (sym c.requires.seat.plan_is)) in
    let lain : c.slot_mut-place.result.now ≡ Some (CellKey t.key) =
    same_head (1 + c.args.home) c.slot_mut-place.ensures.value (ap (λ (x : Me Slot View). x.1) t.seat) in
    let no : None ≡ Some (CellKey t.key) = sym c.in-None.is ∙ (c.take.ensures.value ∙ lain) in
    cc

pub returns-clause-view : goal.returns-clause-view
returns-clause-view c =
    let t = c.load.ensures.2 c.args.home (c.quiet_word-word.ensures.word ∙ ap (λ (k : Plan). quiet_at k c.args.home) (sym c.requires.seat.plan_is)) in
    ap (λ (x : Me Slot View). x.0) t.seat
    ∙ ap (λ (k : Plan). taking (lock_of k c.args.home) c.args.home c.args.seat.now.me.0) c.requires.seat.plan_is

pub returns-clause-carried : goal.returns-clause-carried
returns-clause-carried c =
    let t = c.load.ensures.2 c.args.home (c.quiet_word-word.ensures.word ∙ ap (λ (k : Plan). quiet_at k c.args.home) (sym c.requires.seat.plan_is)) in
    let seat = c.args.seat.now in
    let l = c.args.home in
    let under : rest c.load.new.seat.me.1 ≡ empty_places seat.me.0.who.outs =
    ap (λ (x : Me Slot View). rest x.1) t.seat
    ∙ (c.requires.seat.carried ∙ ap (carried_with seat.me.0.who.outs) c.requires.journal) in
    ap (λ (v : Slot). (1 + l, v) ∷ rest c.load.new.seat.me.1) c.take.ensures.after
    ∙ (ap (λ (xs : List (ℕ × Slot)). (1 + l, None) ∷ xs) under
    ∙ (ap (carried_with (l ∷ seat.me.0.who.outs)) (sym c.requires.journal)
    ∙ ap carried_of (sym (ap (λ (x : Me Slot View). x.0) t.seat))))

pub returns-clause-key : goal.returns-clause-key
returns-clause-key c =
    let t = c.load.ensures.2 c.args.home (c.quiet_word-word.ensures.word ∙ ap (λ (k : Plan). quiet_at k c.args.home) (sym c.requires.seat.plan_is)) in
    let lain : c.slot_mut-place.result.now ≡ Some (CellKey t.key) =
    same_head (1 + c.args.home) c.slot_mut-place.ensures.value (ap (λ (x : Me Slot View). x.1) t.seat) in
    let key : c.in-Some-CellKey.key ≡ t.key =
    same_key (sym (c.in-Some-CellKey.is ∙ ap Some c.in-Some-CellKey.field-0-is) ∙ (c.take.ensures.value ∙ lain)) in
    subst (λ (k : Plan). IsKeyOf k c.args.home c.in-Some-CellKey.key) c.requires.seat.plan_is
    (subst (IsKeyOf c.args.seat.now.me.0.who.plan c.args.home) (sym key) t.is)

pub returns-clause-apart : goal.returns-clause-apart
returns-clause-apart c =
    let t = c.load.ensures.2 c.args.home (c.quiet_word-word.ensures.word ∙ ap (λ (k : Plan). quiet_at k c.args.home) (sym c.requires.seat.plan_is)) in
    subst (λ (k : Plan). IsClear k (lock_of k c.args.home) c.args.seat.now.me.0.who.outs) c.requires.seat.plan_is t.apart
