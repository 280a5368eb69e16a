-- The handover of the choice, and the return of the second queue, keep every sound world.
use Rattle.std.proofs.Common.{◌≡◌, inl, inr, ℕ, Option, Some, None, Bool, true, false, [], ◌∷◌}
use Rattle.std.proofs.Common.{arith, ap, refl, sym, ◌∙◌, subst, ◌==◌, ◌&&◌, not}
use Rattle.lk_law.proofs.Names.{cases_Bool, eqb-true, Fields, NodeName, is_local, Flush, Promote}
use Rattle.lk_law.proofs.Names.{Spins, is_node, node_of, Goes, Leaves, Passes, Says, Tell, Y, looks}
use Rattle.lk_law.proofs.Names.{Frame, Node, C1, C7, C8, C9, C10, flag_for, is_held, is_last, seeks}
use Rattle.lk_law.proofs.Names.{Holds, snapshot, Uses, ChoiceFits, SpinRowKeeps, Counts, Hangs}
use Rattle.lk_law.proofs.Names.{Picked, Picks, lead_on, led, put_node}
use Rattle.lk_rows.specs.Row.{Second}
use Rattle.lk_law.proofs.cna.Allowed.{allow_hand, allow_move, allow_flush, allow_promote}
use Rattle.lk_law.proofs.cna.Laws.{law_move, law_hand, law_flush, law_promote}
use Rattle.lk_law.proofs.cna.RowsKeep.{choice_going, aside_here, holds_shown, stage_shown}
use Rattle.lk_law.proofs.cna.RowsKeep.{kept_shown, lists_here, front_here, choice_kept, look_others}
use Rattle.lk_law.proofs.cna.RowsKeep.{look_now, look_kept}
use Rattle.lk_law.proofs.{cna.StoreRowsKeep.{store_on, store_now}, cna.Tails.c10_fail}
use Rattle.lk_law.proofs.common.Acting.{Acting, StandsAwake, Kept, spin_row_keeps, fit_here}
use Rattle.lk_law.proofs.common.Acting.{phase_here, own_here, held_not, left_place, going_step}
use Rattle.lk_law.proofs.common.Acting.{going_stays, goes_kept, Ending, ending_step, ending_leaves}
use Rattle.lk_law.proofs.common.Acting.{ends_kept, counted_off, awake_here}
use Rattle.lk_law.proofs.common.Choices.{choosing}
use Rattle.lk_law.proofs.common.Puts.{if_cases, if-true, if-false, put_word-here, put_rewrites}
use Rattle.lk_law.proofs.common.TurnSteps.{node_plain, word_plain, queued_plain, turn_stage}
use Rattle.lk_law.proofs.common.TurnSteps.{turn_kept}
use Rattle.lk_law.proofs.common.Turns.{node_turn, word_turn, queued_turn}
use Rattle.lk_law.proofs.common.Users.{some_is, is_node-true, used_noded, used_own}
use Rattle.lk_law.proofs.{queue.ArriveRowsKeep.both-true, spin.RowsKeep.WordKept}

-- C8

module _ {a : Acting} (at : StandsAwake a C8) where
  abbrev next : NodeName
  next = node_of a.frame.y

  abbrev flagged : Node
  flagged = record (a.world.node next) { flag = flag_for a.frame.second }

  abbrev HandKept : Tell → Type 0
  HandKept tell = Kept a (lead_on (put_node a.world next flagged) a.by a.frame Leaves) tell

  flagged_is : flagged
      ≡ record (a.world.node next) { flag = flag_for ((snapshot a.world).kept a.by) }
  flagged_is =
      ap (λ (o : Option NodeName). record (a.world.node next) { flag = flag_for o })
      (sym (kept_shown at refl))

  hand_ending : Ending a (counted_off a (put_node a.world next flagged)) (led a.frame Leaves) Holds
      (a.world.word a.frame.lock) (Some Spins)
  hand_ending =
      let n = put_node a.world next flagged in
      record {
        turn = queued_turn a.by.cpu _ (node_turn at.live refl next flagged);
        word = refl;
        plain = queued_plain n a.by.cpu _
            (node_plain a.world next flagged at.sound.plain (at.sound.plain.runs next)
            (λ flat. absurd (let e = aside_here at refl in grind (arith, e, flat))));
        was = phase_here at;
        place = left_place at;
        me = refl;
      }

  -- nobody is moved
  hand_kept : (a.frame.k == 0) ≡ true → Uses a.world a.to next → HandKept (Passes next 0)
  hand_kept zero uses =
      let is : (snapshot a.world).stage a.frame.lock a.by ≡ Picked next = stage_shown at refl
      ∙ if-true (a.frame.k == 0) (Picked next)
      (Counts (node_of a.frame.a) (node_of a.frame.b) a.frame.k next) zero in
      ends_kept at hand_ending (Passes next 0)
      (law_hand at.sound.agrees (awake_here at) (aside_here at refl) a.to
      (ending_step (awake_here at) hand_ending (held_not at (ap seeks (phase_here at))) refl)
      (ending_leaves at hand_ending refl (λ p. refl)) (put_rewrites a.world.node next flagged)
      flagged_is is)
      (allow_hand a.rules at.sound.agrees a.by a.frame.lock (holds_shown at refl)
      (aside_here at refl) a.to uses.0.lock (used_noded at.sound a.to next uses) next
      (used_own at.sound a.to next uses) is)

  -- k waiters are moved
  move_kept : (a.frame.k == 0) ≡ false → Uses a.world a.to next → HandKept (Passes next a.frame.k)
  move_kept some uses =
      let is : (snapshot a.world).stage a.frame.lock a.by ≡ Counts (node_of a.frame.a)
      (node_of a.frame.b) a.frame.k next =
      stage_shown at refl
      ∙ if-false (a.frame.k == 0) (Picked next)
      (Counts (node_of a.frame.a) (node_of a.frame.b) a.frame.k next) some in
      ends_kept at hand_ending (Passes next a.frame.k)
      (law_move at.sound.agrees (awake_here at) (aside_here at refl) a.to
      (ending_step (awake_here at) hand_ending (held_not at (ap seeks (phase_here at))) refl)
      (ending_leaves at hand_ending refl (λ p. refl)) (put_rewrites a.world.node next flagged)
      flagged_is is)
      (allow_move a.rules at.sound.agrees a.by a.frame.lock (holds_shown at refl)
      (aside_here at refl) a.to uses.0.lock (used_noded at.sound a.to next uses) next
      (used_own at.sound a.to next uses)
      (node_of a.frame.a) (node_of a.frame.b) a.frame.k at.follows.mode
      (λ u v i. is_local (sym at.follows.format i) (sym at.follows.sockets i) u.cpu v) is)

pub choice_hand_on_keeps : SpinRowKeeps C8
choice_hand_on_keeps =
    spin_row_keeps C8 refl (λ a at goes. elim (cases_Bool (a.frame.k == 0)) [
      | inl zero ↦
          subst (λ (k : ℕ). HandKept at (Passes (node_of a.frame.y) k))
          (sym (eqb-true a.frame.k 0 zero)) (hand_kept at zero goes)
      | inr some ↦ move_kept at some goes
    ])

-- C9

pub choice_flush_keeps : SpinRowKeeps C9
choice_flush_keeps =
    spin_row_keeps C9 refl (λ a at goes.
    let f = a.frame in
    let t = node_of f.t in
    let y : Node = record (a.world.node t) { next = f.a } in
    let g : Frame = record f { y = f.second; second = None; place = Some C7 } in
    let fits : ChoiceFits a.world.mode g =
    choosing g C7 refl refl (aside_here at refl) (λ q. cc) (λ q. cc) (λ q. cc) (λ q. cc)
    (λ q. cc) in
    let on = store_on at refl g C7 refl refl refl refl fits t y (at.sound.plain.runs t) in
    let nobody : (f.k == 0) ≡ true =
    ap (λ (k : ℕ). k == 0) ((fit_here at).choice.nobody C9 at.place refl) in
    goes_kept at on (Says (Flush f.lock))
    (law_flush at.sound.agrees (awake_here at) (aside_here at refl) (going_step at on)
    (going_stays on) (put_rewrites a.world.node t y)
    (ap (λ (o : Option NodeName). record (a.world.node t) { next = o })
    (some_is f.a ((fit_here at).choice.first C9 at.place refl)))
    (stage_shown at refl)
    (store_now at refl g C7 refl refl refl refl fits t y (at.sound.plain.runs t)
    ∙ if-true (f.k == 0) (Picks (node_of f.second))
    (Hangs (node_of f.a) (node_of f.b) f.k (node_of f.second)) nobody)
    (kept_shown at refl ∙ some_is f.second ((fit_here at).choice.second C9 at.place refl))
    (turn_kept on.turn))
    (allow_flush a.rules at.sound.agrees a.by f.lock (holds_shown at refl)))

-- C10

module _ {a : Acting} (at : StandsAwake a C10) where
  abbrev back : Fields
  back = record (a.world.word a.frame.lock) { tail = a.frame.t }

  abbrev returned : Frame
  returned = record a.frame { y = a.frame.second; second = None; place = Some C7 }

  back_is : back
      ≡ record {
        locked = (a.world.word a.frame.lock).locked;
        pending = (a.world.word a.frame.lock).pending;
        tail = Some (node_of a.frame.t);
      }
  back_is = ap (λ (o : Option NodeName). record (a.world.word a.frame.lock) { tail = o })
      (some_is a.frame.t ((fit_here at).choice.tail C10 at.place refl))

  promotes : is_last a.frame (a.world.word a.frame.lock) ≡ true
      → WordKept a
      (record {
        stores = Some back;
        leads = Goes C7 (Y a.frame.second ∷ Second None ∷ []);
        tells = Says (Promote a.frame.lock);
        counts = [];
      })
  promotes e =
      let f = a.frame in
      let x = a.world.word f.lock in
      let fits : ChoiceFits a.world.mode returned =
      choosing returned C7 refl refl (aside_here at refl) (λ q. cc) (λ q. cc) (λ q. cc)
      (λ q. cc) (λ q. cc) in
      let on = choice_going at refl returned C7 (word_turn at.live refl back)
      (put_word-here a.world.word f.lock back ∙ back_is)
      (word_plain a.world f.lock back at.sound.plain (at.sound.plain.byte at.kind f.lock))
      (λ p. refl) refl refl refl fits in
      let nobody : (f.k == 0) ≡ true =
      ap (λ (k : ℕ). k == 0) ((fit_here at).choice.nobody C10 at.place refl) in
      let mine : x.tail ≡ Some (node_of f.me) =
      is_node-true x.tail (node_of f.me)
      (both-true (is_held x.locked && not x.pending) (is_node x.tail (node_of f.me))
      (last_and (is_held x.locked) (not x.pending) (is_node x.tail (node_of f.me)) e)).1 in
      goes_kept at on (Says (Promote f.lock))
      (law_promote at.sound.agrees (awake_here at) (aside_here at refl) (going_step at on)
      (going_stays on) (λ n. refl) (mine ∙ ap Some (sym (own_here at)))
      (stage_shown at refl)
      (turn_stage on.turn
      ∙ if-true (f.k == 0) (Picks (node_of f.second))
      (Hangs (node_of f.a) (node_of f.b) f.k (node_of f.second)) nobody)
      (kept_shown at refl ∙ some_is f.second ((fit_here at).choice.second C10 at.place refl))
      (turn_kept on.turn))
      (allow_promote a.rules at.sound.agrees a.by f.lock (holds_shown at refl))
    where
      last_and : (p q r : Bool) → (p && q && r) ≡ true → ((p && q) && r) ≡ true
      last_and p q r h = grind (arith, h)

  fails : WordKept a (looks C1)
  fails =
      let g : Frame = record a.frame { place = Some C1 } in
      let fits : ChoiceFits a.world.mode g =
      choosing g C1 refl refl (aside_here at refl) (λ q. cc) (λ q. cc) (λ q. cc) (λ q. cc)
      (λ q. cc) in
      choice_kept at refl g C1 refl refl refl refl fits
      (c10_fail (lists_here at refl) (front_here at refl) (holds_shown at refl)
      (look_others at refl g C1 refl refl refl refl fits)
      (node_of a.frame.t) (stage_shown at refl) (look_now at refl g C1 refl refl refl refl fits)
      (look_kept at refl g C1 refl refl refl refl fits ∙ sym (kept_shown at refl)))

pub choice_promote_keeps : SpinRowKeeps C10
choice_promote_keeps =
    spin_row_keeps C10 refl (λ a at goes.
    if_cases (WordKept a) (is_last a.frame (a.world.word a.frame.lock))
    (record {
      stores = Some (back at);
      leads = Goes C7 (Y a.frame.second ∷ Second None ∷ []);
      tells = Says (Promote a.frame.lock);
      counts = [];
    }) (looks C1)
    (promotes at) (λ e. fails at))
