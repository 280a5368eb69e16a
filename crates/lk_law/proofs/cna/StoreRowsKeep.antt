-- The rows of the choice that store into a node keep every sound world.
use Rattle.std.proofs.Common.{◌≡◌, ◌≢◌, inl, inr, ℕ, suc, Option, Some, None, true, false, arith}
use Rattle.std.proofs.Common.{ap, refl, sym, ◌∙◌, if◌then◌else◌, is_some, ◌==◌, ◌+◌, ◌<◌, ◌≤◌}
use Rattle.lk_law.proofs.Names.{cases_Bool, NodeName, Waiter, node_of, Nothing, Frame, Node, Pc, C4}
use Rattle.lk_law.proofs.Names.{C5, C6, C7, C8, same_none, chooses, Holds, snapshot, stage_at}
use Rattle.lk_law.proofs.Names.{stage_if, ChoiceFits, Snapshot, SpinRowKeeps, passed_over, Counts}
use Rattle.lk_law.proofs.Names.{Hangs, Picked, Picks, put_node}
use Rattle.lk_law.proofs.cna.Front.{front_lead, owner_next, owner_last, owner_tail, owner_moved}
use Rattle.lk_law.proofs.{cna.Knows.run_is_short, cna.Laws.{away, law_search}}
use Rattle.lk_law.proofs.cna.RowsKeep.{After, choice_going, aside_here, holds_shown, stage_shown}
use Rattle.lk_law.proofs.cna.RowsKeep.{kept_shown, lists_here, front_here}
use Rattle.lk_law.proofs.cna.Store.{c4_tie, c5_cut, c6_hang, c7_count, c7_plain}
use Rattle.lk_law.proofs.common.Acting.{Acting, StandsAwake, Kept, spin_row_keeps, fit_here}
use Rattle.lk_law.proofs.common.Acting.{own_here, Going, gone_on, going_step, going_stays}
use Rattle.lk_law.proofs.{common.Acting.{goes_kept, awake_here}, common.Choices.choosing}
use Rattle.lk_law.proofs.{common.Families.Last, common.Puts.{if-true, if-false, put_rewrites}}
use Rattle.lk_law.proofs.common.TurnSteps.{node_plain, turn_stage, turn_kept}
use Rattle.lk_law.proofs.{common.Turns.node_turn, common.Users.some_is, queue.Laws.apart_on}

-- the front stores y into the node n, and goes on
module _ {a : Acting} {c : Pc} (at : StandsAwake a c) (on : chooses c ≡ true) (g : Frame) (d : Pc)
    (place : g.place ≡ Some d) (goes : chooses d ≡ true) (lock : g.lock ≡ a.frame.lock)
    (me : g.me ≡ a.frame.me) (fits : ChoiceFits a.world.mode g) (n : NodeName) (y : Node)
    (few : y.runs ≤ a.world.threshold) where
  abbrev s : Snapshot
  s = snapshot a.world

  abbrev s' : Snapshot
  s' = snapshot (gone_on a (put_node a.world n y) g)

  pub store_on : Going a (put_node a.world n y) g Holds Holds (a.world.word a.frame.lock)
  store_on =
      choice_going at on g d (node_turn at.live lock n y) refl
      (node_plain a.world n y at.sound.plain few
      (λ flat. absurd (let e = aside_here at on in grind (arith, e, flat)))) (λ p. refl) place
      goes me fits

  pub store_now : s'.stage a.frame.lock a.by ≡ stage_at d g
  store_now = turn_stage store_on.turn ∙ ap (λ (o : Option Pc). stage_if o g) place

  pub store_same : g.second ≡ a.frame.second → s'.kept a.by ≡ s.kept a.by
  store_same e = turn_kept store_on.turn ∙ e ∙ sym (kept_shown at on)

  pub store_others : (u : Waiter) → u ≢ a.by → s'.stage a.frame.lock u ≡ s.stage a.frame.lock u
  store_others = (going_step at store_on).stages a.frame.lock

  pub store_kept : Last (s.phase a.frame.lock) s.own n → After a (put_node a.world n y) g
      → Kept a (gone_on a (put_node a.world n y) g) Nothing
  store_kept owner lists =
      goes_kept at store_on Nothing
      (law_search at.sound.agrees (awake_here at) (aside_here at on) (going_step at store_on)
      (going_stays store_on) (away at.sound.agrees s' owner (put_rewrites a.world.node n y))
      lists) tt

-- C4

pub choice_append_keeps : SpinRowKeeps C4
choice_append_keeps =
    spin_row_keeps C4 refl (λ a at goes.
    let f = a.frame in
    let t = node_of f.t in
    let y : Node = record (a.world.node t) { next = f.a } in
    let g : Frame = record f { place = Some C5 } in
    let fits : ChoiceFits a.world.mode g =
    choosing g C5 refl refl (aside_here at refl)
    (λ q. (fit_here at).choice.second C4 at.place refl) (λ q. cc) (λ q. cc)
    (λ q. (fit_here at).choice.last C4 at.place refl) (λ q. cc) in
    let is = stage_shown at refl in
    store_kept at refl g C5 refl refl refl refl fits t y (at.sound.plain.runs t)
    (owner_tail (lists_here at refl) (front_here at refl) (holds_shown at refl) is t refl)
    (c4_tie {m = t} {x = y} _ (lists_here at refl) (front_here at refl) (holds_shown at refl)
    (store_others at refl g C5 refl refl refl refl fits t y (at.sound.plain.runs t))
    (store_same at refl g C5 refl refl refl refl fits t y (at.sound.plain.runs t) refl) (put_rewrites a.world.node t y)
    (apart_on at.sound.agrees.nodes f.lock)
    (node_of f.a) (node_of f.b) f.k (node_of f.y) is
    (store_now at refl g C5 refl refl refl refl fits t y (at.sound.plain.runs t))
    (ap (λ (o : Option NodeName). record (a.world.node t) { next = o })
    (some_is f.a ((fit_here at).choice.first C4 at.place refl)))))

-- C5

pub choice_cut_keeps : SpinRowKeeps C5
choice_cut_keeps =
    spin_row_keeps C5 refl (λ a at goes.
    let f = a.frame in
    let b = node_of f.b in
    let y : Node = record (a.world.node b) { next = None } in
    let g : Frame = record f { place = Some C6 } in
    let fits : ChoiceFits a.world.mode g =
    choosing g C6 refl refl (aside_here at refl)
    (λ q. (fit_here at).choice.second C5 at.place refl) (λ q. cc) (λ q. cc)
    (λ q. (fit_here at).choice.last C5 at.place refl) (λ q. cc) in
    let is = stage_shown at refl in
    store_kept at refl g C6 refl refl refl refl fits b y (at.sound.plain.runs b)
    (owner_last (lists_here at refl) (front_here at refl) (holds_shown at refl) is (node_of f.a)
    b f.k refl)
    (c5_cut {m = b} {x = y} _ (lists_here at refl) (front_here at refl) (holds_shown at refl)
    (store_others at refl g C6 refl refl refl refl fits b y (at.sound.plain.runs b))
    (store_same at refl g C6 refl refl refl refl fits b y (at.sound.plain.runs b) refl) (put_rewrites a.world.node b y)
    (apart_on at.sound.agrees.nodes f.lock)
    (node_of f.a) b f.k (node_of f.y) is
    (store_now at refl g C6 refl refl refl refl fits b y (at.sound.plain.runs b)) refl refl))

-- C6

not_zero : (k i : ℕ) → k ≡ suc i → (k == 0) ≡ false
not_zero k i e = grind (arith, e)

-- where waiters were passed over their number is not zero
some_passed : {a : Acting} {c : Pc} (at : StandsAwake a c) (on : chooses c ≡ true)
    (first last : NodeName) (k : ℕ)
    → passed_over (stage_at c a.frame) ≡ Some (first, last, k) → (k == 0) ≡ false
some_passed at on first last k e =
    let i =
    (front_lead (lists_here at on) (front_here at on) (holds_shown at on) (stage_shown at on)).some
    first last k e in
    not_zero k i.0 i.1

pub choice_set_tail_keeps : SpinRowKeeps C6
choice_set_tail_keeps =
    spin_row_keeps C6 refl (λ a at goes.
    let f = a.frame in
    let m = node_of f.second in
    let y : Node = record (a.world.node m) { second_tail = f.b } in
    let g : Frame = record f { place = Some C7 } in
    let fits : ChoiceFits a.world.mode g =
    choosing g C7 refl refl (aside_here at refl) (λ q. cc) (λ q. cc) (λ q. cc) (λ q. cc)
    (λ q. cc) in
    let is = stage_shown at refl in
    let named : (snapshot a.world).kept a.by ≡ Some m = kept_shown at refl
    ∙ some_is f.second ((fit_here at).choice.second C6 at.place refl) in
    let some = some_passed at refl (node_of f.a) (node_of f.b) f.k refl in
    store_kept at refl g C7 refl refl refl refl fits m y (at.sound.plain.runs m)
    (owner_moved (lists_here at refl) (front_here at refl) (holds_shown at refl) is
    (node_of f.a) (node_of f.b) f.k m refl refl named)
    (c6_hang {m = m} {x = y} _ (lists_here at refl) (front_here at refl) (holds_shown at refl)
    (store_others at refl g C7 refl refl refl refl fits m y (at.sound.plain.runs m))
    (store_same at refl g C7 refl refl refl refl fits m y (at.sound.plain.runs m) refl) (put_rewrites a.world.node m y)
    (apart_on at.sound.agrees.nodes f.lock)
    (node_of f.a) (node_of f.b) f.k (node_of f.y) is
    (store_now at refl g C7 refl refl refl refl fits m y (at.sound.plain.runs m)
    ∙ if-false (f.k == 0) (Picks (node_of f.y))
    (Hangs (node_of f.a) (node_of f.b) f.k (node_of f.y)) some) named
    (ap (λ (o : Option NodeName). record (a.world.node m) { second_tail = o })
    (some_is f.b ((fit_here at).choice.last C6 at.place refl)))))

-- C7

module _ {a : Acting} (at : StandsAwake a C7) where
  abbrev next : NodeName
  next = node_of a.frame.y

  abbrev count : ℕ
  count = if is_some a.frame.second then (a.world.node (node_of a.frame.me)).runs + 1 else 0

  abbrev told : Node
  told = record (a.world.node next) { runs = count }

  abbrev gone : Frame
  gone = record a.frame { place = Some C8 }

  fits_C8 : ChoiceFits a.world.mode gone
  fits_C8 =
      choosing gone C8 refl refl (aside_here at refl) (λ q. cc) (λ q. cc) (λ q. cc) (λ q. cc)
      (λ q. cc)

  count_as : (o : Option NodeName) (r : ℕ)
      → (if is_some o then r + 1 else 0) ≡ (if same_none o then 0 else (r + 1))
  count_as None r = refl
  count_as (Some n) r = refl

  -- a head with a secondary queue has counted fewer than the threshold
  few_told : told.runs ≤ a.world.threshold
  few_told = few a.frame.second (run_is_short a.world a.histories a.by a.frame at.sound at.live at.place)
    where
      few : (o : Option NodeName)
          → (is_some o ≡ true → (a.world.node (node_of a.frame.me)).runs < a.world.threshold)
          → (if is_some o then (a.world.node (node_of a.frame.me)).runs + 1 else 0)
          ≤ a.world.threshold
      few None short = omega arith
      few (Some n) short = let z = short refl in omega (arith, z)

  -- what it stores, as the laws say it
  count_is : told
      ≡ record (a.world.node next) {
        runs =
            if same_none
            ((snapshot a.world).kept
            a.by) then 0 else ((a.world.node ((snapshot a.world).own a.by)).runs + 1);
      }
  count_is =
      ap (λ (r : ℕ). record (a.world.node next) { runs = r })
      (rw (kept_shown at refl, own_here at)
      (count_as a.frame.second (a.world.node (node_of a.frame.me)).runs))

  abbrev RunsKept : Type 0
  RunsKept = Kept a (gone_on a (put_node a.world next told) gone) Nothing

  counts_none : (a.frame.k == 0) ≡ true → RunsKept
  counts_none zero =
      let is : (snapshot a.world).stage a.frame.lock a.by ≡ Picks next = stage_shown at refl
      ∙ if-true (a.frame.k == 0) (Picks next)
      (Hangs (node_of a.frame.a) (node_of a.frame.b) a.frame.k next) zero in
      store_kept at refl gone C8 refl refl refl refl fits_C8 next told few_told
      (owner_next (lists_here at refl) (front_here at refl) (holds_shown at refl) is 0 next
      refl)
      (c7_plain {m = next} {x = told} _ (lists_here at refl) (front_here at refl)
      (holds_shown at refl) (store_others at refl gone C8 refl refl refl refl fits_C8 next told few_told)
      (store_same at refl gone C8 refl refl refl refl fits_C8 next told few_told refl)
      (put_rewrites a.world.node next told) (apart_on at.sound.agrees.nodes a.frame.lock)
      next is (store_now at refl gone C8 refl refl refl refl fits_C8 next told few_told
      ∙ if-true (a.frame.k == 0) (Picked next)
      (Counts (node_of a.frame.a) (node_of a.frame.b) a.frame.k next) zero) refl count_is)

  counts_some : (a.frame.k == 0) ≡ false → RunsKept
  counts_some some =
      let is : (snapshot a.world).stage a.frame.lock a.by ≡ Hangs (node_of a.frame.a)
      (node_of a.frame.b) a.frame.k next =
      stage_shown at refl
      ∙ if-false (a.frame.k == 0) (Picks next)
      (Hangs (node_of a.frame.a) (node_of a.frame.b) a.frame.k next) some in
      store_kept at refl gone C8 refl refl refl refl fits_C8 next told few_told
      (owner_next (lists_here at refl) (front_here at refl) (holds_shown at refl) is a.frame.k
      next refl)
      (c7_count {m = next} {x = told} _ (lists_here at refl) (front_here at refl)
      (holds_shown at refl) (store_others at refl gone C8 refl refl refl refl fits_C8 next told few_told)
      (store_same at refl gone C8 refl refl refl refl fits_C8 next told few_told refl)
      (put_rewrites a.world.node next told) (apart_on at.sound.agrees.nodes a.frame.lock)
      (node_of a.frame.a) (node_of a.frame.b) a.frame.k next is
      (store_now at refl gone C8 refl refl refl refl fits_C8 next told few_told
      ∙ if-false (a.frame.k == 0) (Picked next)
      (Counts (node_of a.frame.a) (node_of a.frame.b) a.frame.k next) some) refl count_is)

pub choice_count_keeps : SpinRowKeeps C7
choice_count_keeps =
    spin_row_keeps C7 refl
    (λ a at goes.
    elim (cases_Bool (a.frame.k == 0)) [
      | inl zero ↦ counts_none at zero
      | inr some ↦ counts_some at some
    ])
