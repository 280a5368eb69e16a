-- The rows of the front of the queue keep every sound world: G7 to G11.
use Rattle.std.proofs.Common.{◌≡◌, ◌≢◌, inr, Option, Some, None, Bool, true, false, arith, ap, refl}
use Rattle.std.proofs.Common.{sym, ◌∙◌, slice_get, if◌then◌else◌, is_some, ◌&&◌, not}
use Rattle.lk_law.proofs.Names.{Fields, Locked, Free, Held, Slow, NodeName, Take, Spins, Mode, Cna}
use Rattle.lk_law.proofs.Names.{Native, Pv, Virt, Waiter, is_node, node_of, Effect, Leaves, Nothing}
use Rattle.lk_law.proofs.Names.{Passes, Says, looks, Frame, Node, Pc, C1, G5, G7, G8, G9, G10, G11}
use Rattle.lk_law.proofs.Names.{after_head, after_look, after_next, is_sole, takes_out, held_word}
use Rattle.lk_law.proofs.Names.{is_unlocked, halts, moves_aside, is_slow, seeks, Hands, Holds}
use Rattle.lk_law.proofs.Names.{Leads, Stakes, kept_in, phase_at, snapshot, stage_at, Uses}
use Rattle.lk_law.proofs.Names.{ChoiceFits, SpinRowKeeps, Rests, lead_on, led, put_node, put_word}
use Rattle.lk_law.proofs.Names.{stores_next}
use Rattle.lk_law.proofs.common.Acting.{Acting, StandsAwake, Kept, spin_row_keeps, fit_here}
use Rattle.lk_law.proofs.common.Acting.{phase_here, phase_shown, own_here, slow_here, held_not}
use Rattle.lk_law.proofs.common.Acting.{looks_kept, left_place, Going, going_step, going_stays}
use Rattle.lk_law.proofs.common.Acting.{goes_kept, Ending, ending_step, ending_leaves, ends_kept}
use Rattle.lk_law.proofs.common.Acting.{counted_off, LeadsTo, placed_kept, look_going, awake_here}
use Rattle.lk_law.proofs.common.Allowed.{allow_head, allow_sole, allow_pass, next_is}
use Rattle.lk_law.proofs.common.Choices.{fixed_choice, first_choice}
use Rattle.lk_law.proofs.common.Puts.{if_cases, put_word-here, put_rewrites}
use Rattle.lk_law.proofs.common.TurnSteps.{turn_kept, turn_stage, word_plain, node_plain}
use Rattle.lk_law.proofs.common.TurnSteps.{queued_plain}
use Rattle.lk_law.proofs.common.Turns.{same_turn, word_turn, node_turn, queued_turn}
use Rattle.lk_law.proofs.common.Users.{is_node-true, used_noded, used_own}
use Rattle.lk_law.proofs.queue.ArriveRowsKeep.{alike_self, both-true, none_second, not_true}
use Rattle.lk_law.proofs.queue.Laws.{law_lead, law_head, law_know, law_pass, law_sole}
use Rattle.lk_law.proofs.spin.RowsKeep.{WordKept, unlocked_free}
use Rattle.lk_names.specs.declared.events.How.TheVariants as how
use Rattle.lk_rows.specs.declared.parts.Flag.TheVariants as flag

-- G7

to_sole : {mode : Mode} (f : Frame) → f.second ≡ None → LeadsTo mode f G7 G8 Leads Stakes
to_sole f none =
    record {
      was = refl;
      now = refl;
      on_way = refl;
      noded = refl;
      slow = refl;
      unlinked = λ e. grind arith;
      unhanded = λ e. grind arith;
      fixed = refl;
      awake = refl;
      unaware = λ e. inr none;
      plainly = λ e. cc;
    }

to_take : {mode : Mode} (f : Frame) → LeadsTo mode f G7 G9 Leads Stakes
to_take f = record {
  was = refl;
  now = refl;
  on_way = refl;
  noded = refl;
  slow = refl;
  unlinked = λ e. grind arith;
  unhanded = λ e. grind arith;
  fixed = refl;
  awake = refl;
  unaware = λ e. cc;
  plainly = λ e. cc;
}

module _ {a : Acting} (at : StandsAwake a G7) where
  stake_kept : (d : Pc) → LeadsTo a.world.mode a.frame G7 d Leads Stakes
      → (is_unlocked (a.world.word a.frame.lock).locked && not (a.world.word a.frame.lock).pending)
      ≡ true
      → WordKept a (looks d)
  stake_kept d way free =
      let x = a.world.word a.frame.lock in
      let both = both-true (is_unlocked x.locked) (not x.pending) free in
      let on = look_going at way in
      goes_kept at on Nothing
      (law_lead at.sound.agrees (awake_here at) (going_step at on) (going_stays on) (λ n. refl) refl
      (placed_kept at way on.turn)
      (inr (refl, refl, unlocked_free x.locked both.0, not_true x.pending both.1))) tt

  front_look_kept : WordKept a (looks (after_look a.frame (a.world.word a.frame.lock)))
  front_look_kept =
      let x = a.world.word a.frame.lock in
      let alone = is_node x.tail (node_of a.frame.me) && not (is_some a.frame.second) in
      let P : Pc → Type 0 = λ d. WordKept a (looks d) in
      if_cases P (is_unlocked x.locked && not x.pending) (if alone then G8 else G9) G7
      (λ free. if_cases P alone G8 G9
      (λ e. stake_kept G8
      (to_sole a.frame
      (none_second a.frame.second
      (both-true (is_node x.tail (node_of a.frame.me)) (not (is_some a.frame.second)) e).1))
      free) (λ e. stake_kept G9 (to_take a.frame) free))
      (λ e.
      looks_kept at G7 (alike_self G7 (λ q. grind arith) (λ q. grind arith) refl refl (λ f. refl)))

pub wait_as_front_keeps : SpinRowKeeps G7
wait_as_front_keeps = spin_row_keeps G7 refl (λ a at goes. front_look_kept at)

-- G8

sole_word : (x : Fields) (n : NodeName)
    → (is_unlocked x.locked && not x.pending && is_node x.tail n) ≡ true
    → x ≡ record { locked = Free; pending = false; tail = Some n }
sole_word x n h = go x.locked x.pending x.tail h
  where
    go : (b : Locked) (p : Bool) (t : Option NodeName)
        → (is_unlocked b && not p && is_node t n) ≡ true
        → ◌≡◌ {A = Fields} (record { locked = b; pending = p; tail = t })
        (record { locked = Free; pending = false; tail = Some n })
    go Free false t h =
        ap (λ (o : Option NodeName). record { locked = Free; pending = false; tail = o })
        (is_node-true t n h)
    go Free true t h = cc
    go Held p t h = cc
    go Slow p t h = cc

module _ {a : Acting} (at : StandsAwake a G8) where
  sole_kept : is_sole a.frame (a.world.word a.frame.lock) ≡ true
      → WordKept a (takes_out a.frame how.Sole)
  sole_kept e =
      let m = a.world in
      let l = a.frame.lock in
      let n = put_word m l held_word in
      let g = led a.frame Leaves in
      let on : Ending a (counted_off a n) g Stakes held_word (Some Spins) =
      record {
        turn = queued_turn a.by.cpu _ (word_turn at.live refl held_word);
        word = put_word-here m.word l held_word;
        plain =
            queued_plain n a.by.cpu _ (word_plain m l held_word at.sound.plain (λ q. grind arith));
        was = phase_here at;
        place = left_place at;
        me = refl;
      } in
      let met = sole_word (m.word l) (node_of a.frame.me) e
      ∙ ap (λ (k : NodeName). record { locked = Free; pending = false; tail = Some k })
      (sym (own_here at)) in
      ends_kept at on (Says (Take l how.Sole))
      (law_sole at.sound.agrees (awake_here at)
      (ending_step (awake_here at) on (held_not at (ap seeks (phase_here at))) refl)
      (ending_leaves at on refl (λ p. refl)) (λ k. refl)
      (ap kept_in at.live ∙ (fit_here at).choice.unaware G8 at.place refl) met)
      (allow_sole a.rules at.sound.agrees a.by l (phase_shown at ∙ phase_here at))

pub take_sole_keeps : SpinRowKeeps G8
take_sole_keeps =
    spin_row_keeps G8 refl (λ a at goes.
    if_cases (WordKept a) (is_sole a.frame (a.world.word a.frame.lock)) (takes_out a.frame how.Sole)
    (looks G9) (sole_kept at)
    (λ e. looks_kept at G9
    (record {
      phase = λ b p y. refl;
      slow = refl;
      unlinked = λ q. grind arith;
      unhanded = λ q. grind arith;
      post = λ f. refl;
      was_fixed = refl;
      fixed = refl;
      awake = refl;
      unaware = λ q. cc;
      plainly = λ q. cc;
    })))

-- G9

-- a front goes on, holding the lock, where its family has it choose the next, or learn of it
record GoesOn (mode : Mode) (d : Pc) : Type 0 where
  phase : (b : Bool) (prev y : NodeName) → phase_at d b prev y ≡ Holds
  slow : is_slow (Some d) ≡ true
  unlinked : d ≢ G5
  unhanded : d ≢ G11
  choice : (f : Frame) → ChoiceFits mode (record f { place = Some d })
  calm : (f : Frame) → stage_at d f ≡ Rests

goes_G10 : (mode : Mode) → moves_aside mode ≡ false → halts mode ≡ false → GoesOn mode G10
goes_G10 mode plain wakes =
    record {
      phase = λ b p y. refl;
      slow = refl;
      unlinked = λ e. grind arith;
      unhanded = λ e. grind arith;
      choice = λ f.
          fixed_choice (record f { place = Some G10 }) G10 refl refl refl (λ e. wakes) (λ e. cc)
          (λ e. plain);
      calm = λ f. refl;
    }

goes_C1 : GoesOn Cna C1
goes_C1 =
    record {
      phase = λ b p y. refl;
      slow = refl;
      unlinked = λ e. grind arith;
      unhanded = λ e. grind arith;
      choice = λ f. first_choice (record f { place = Some C1 }) refl refl;
      calm = λ f. refl;
    }

fronted : (mode : Mode) → halts mode ≡ false → GoesOn mode (after_head mode)
fronted Virt awake = goes_G10 Virt refl refl
fronted Native awake = goes_G10 Native refl refl
fronted Cna awake = goes_C1
fronted Pv awake = cc

pub take_head_keeps : SpinRowKeeps G9
take_head_keeps =
    spin_row_keeps G9 refl (λ a at goes.
    let m = a.world in
    let l = a.frame.lock in
    let x : Fields = record (m.word l) { locked = Held } in
    let d = after_head m.mode in
    let way = fronted m.mode at.kind in
    let g : Frame = record a.frame { place = Some d } in
    let on : Going a (put_word m l x) g Stakes Holds x =
    record {
      turn = word_turn at.live refl x;
      word = put_word-here m.word l x;
      plain = word_plain m l x at.sound.plain (λ e. grind arith);
      was = phase_here at;
      now = way.phase (is_some a.frame.me) (node_of a.frame.prev) (node_of a.frame.y);
      on_way = refl;
      noded = refl;
      me = refl;
      met = λ q. absurd (way.unlinked (grind arith));
      next = λ q. absurd (way.unhanded (grind arith));
      choice = way.choice a.frame;
      slow = way.slow ∙ sym (slow_here at);
      queued = λ p. refl;
    } in
    goes_kept at on (Says (Take l how.Head))
    (law_head at.sound.agrees (awake_here at) (going_step at on) (going_stays on) (λ n. refl)
    (turn_stage on.turn ∙ way.calm g) (turn_kept on.turn ∙ sym (ap kept_in at.live)))
    (allow_head a.rules at.sound.agrees a.by l (phase_shown at ∙ phase_here at)))

-- G10

module _ {a : Acting} (at : StandsAwake a G10) where
  abbrev my_node : NodeName
  my_node = node_of a.frame.me

  abbrev NextKept : Effect (Option NodeName) → Type 0
  NextKept o = Kept a (lead_on (stores_next a.world my_node o.stores) a.by a.frame o.leads) o.tells

  next_kept : (x : Option NodeName) → (a.world.node my_node).next ≡ x → NextKept (after_next x)
  next_kept None e =
      looks_kept at G10 (alike_self G10 (λ q. grind arith) (λ q. grind arith) refl refl (λ f. refl))
  next_kept (Some n) e =
      let m = a.world in
      let g : Frame = record a.frame { y = Some n; place = Some G11 } in
      let on : Going a m g Holds (Hands n) (m.word a.frame.lock) =
      record {
        turn = same_turn at.live refl;
        word = refl;
        plain = at.sound.plain;
        was = phase_here at;
        now = refl;
        on_way = refl;
        noded = refl;
        me = refl;
        met = λ q. absurd (grind arith);
        next = λ q. refl;
        choice =
            fixed_choice g G11 refl refl refl (λ e. at.kind) (λ q. cc)
            (λ q. (fit_here at).choice.plainly G10 at.place refl);
        slow = sym (slow_here at);
        queued = λ p. refl;
      } in
      goes_kept at on Nothing
      (law_know at.sound.agrees (awake_here at) ((fit_here at).choice.plainly G10 at.place refl)
      (going_step at on) (going_stays on) (λ k. refl)
      (ap (λ (k : NodeName). (m.node k).next) (own_here at) ∙ e)) tt

pub wait_for_next_keeps : SpinRowKeeps G10
wait_for_next_keeps =
    spin_row_keeps G10 refl (λ a at goes.
    next_kept at (a.world.node (node_of a.frame.me)).next refl)

-- G11

module _ {a : Acting} (at : StandsAwake a G11) where
  abbrev next : NodeName
  next = node_of a.frame.y

  hands : (snapshot a.world).phase a.frame.lock a.by ≡ Hands next
  hands = phase_shown at ∙ phase_here at

  -- a waiter that uses the node is the second of the queue
  second_of : (u : Waiter) → Uses a.world u next
      → slice_get (a.histories a.frame.lock).main 1 ≡ Some u
  second_of u uses =
      next_is at.sound.agrees a.by a.frame.lock next
      ((fit_here at).choice.plainly G11 at.place refl) hands uses.0.lock u
      (used_noded at.sound u next uses) (used_own at.sound u next uses)

  pass_kept : Uses a.world a.to next
      → Kept a (lead_on (put_node a.world next (record (a.world.node next) { flag = flag.Go })) a.by
      a.frame Leaves) (Passes next 0)
  pass_kept uses =
      let m = a.world in
      let l = a.frame.lock in
      let y : Node = record (m.node next) { flag = flag.Go } in
      let n = put_node m next y in
      let g = led a.frame Leaves in
      let on : Ending a (counted_off a n) g (Hands next) (m.word l) (Some Spins) =
      record {
        turn = queued_turn a.by.cpu _ (node_turn at.live refl next y);
        word = refl;
        plain =
            queued_plain n a.by.cpu _ (node_plain m next y at.sound.plain
            (at.sound.plain.runs next) (λ flat k q. grind arith));
        was = phase_here at;
        place = left_place at;
        me = refl;
      } in
      ends_kept at on (Passes next 0)
      (law_pass at.sound.agrees (awake_here at) a.to
      ((fit_here at).choice.plainly G11 at.place refl)
      (ending_step (awake_here at) on (held_not at (ap seeks (phase_here at))) refl)
      (ending_leaves at on refl (λ p. refl)) (put_rewrites m.node next y) refl refl)
      (allow_pass a.rules at.sound.agrees a.by l next a.to hands (second_of a.to uses))

pub hand_on_keeps : SpinRowKeeps G11
hand_on_keeps = spin_row_keeps G11 refl (λ a at goes. pass_kept at goes)
