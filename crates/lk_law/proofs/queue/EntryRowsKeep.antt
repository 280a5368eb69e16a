-- The rows before the queue in the slow path keep every sound world: the entry, the last looks, and
-- the loop without a node.
use Rattle.std.proofs.Common.{◌≡◌, ◌≢◌, inl, inr, ℕ, Option, Some, None, true, false, arith, ap}
use Rattle.std.proofs.Common.{◌+◌, refl, sym, ◌∙◌, subst, Bool, if◌then◌else◌, nat_lt, is_some}
use Rattle.lk_law.proofs.Names.{ltb-true, Fields, NodeName, taken, with_holder, IsOutside}
use Rattle.lk_law.proofs.Names.{TakesInOrder, How, Take, Manner, Spins, Mode, Cna, Native, Pv, Virt}
use Rattle.lk_law.proofs.Names.{rest_node, node_of, Enters, Leaves, Nothing, Says, looks, Frame, Pc}
use Rattle.lk_law.proofs.Names.{G1, G2, G3, G4, G5, G11, N1, N2, after_entry, takes_out, held_word}
use Rattle.lk_law.proofs.Names.{is_free, halts, chooses, is_slow, may_halt, Phase, has_node, pends}
use Rattle.lk_law.proofs.Names.{queues, seeks, Prepared, Seeks, phase_at, phase_of, post_at, Off}
use Rattle.lk_law.proofs.Names.{RegistersFit, hands_plainly, is_unaware, SpinRowKeeps, lead_on, led}
use Rattle.lk_law.proofs.Names.{put_node, put_queued, put_word, World}
use Rattle.lk_law.proofs.common.Acting.{Acting, StandsAwake, Kept, KeepsIn, spin_row_keeps}
use Rattle.lk_law.proofs.common.Acting.{phase_here, phase_shown, slow_here, held_not, ReadAlike}
use Rattle.lk_law.proofs.common.Acting.{looks_kept, left_place, Ending, ending_step, ending_leaves}
use Rattle.lk_law.proofs.common.Acting.{ends_kept, counted_off, awake_here, awake_post}
use Rattle.lk_law.proofs.{common.Allowed.allow_take, common.Choices.fixed_choice}
use Rattle.lk_law.proofs.common.Puts.{if_cases, put_word-here, put_number-here, put_number-else}
use Rattle.lk_law.proofs.common.Puts.{put_rewrites}
use Rattle.lk_law.proofs.common.TurnSteps.{word_plain, node_plain, queued_plain, turn_step}
use Rattle.lk_law.proofs.common.TurnSteps.{turn_enters, turn_own, turn_sound}
use Rattle.lk_law.proofs.common.Turns.{Turn, word_turn, queued_turn}
use Rattle.lk_law.proofs.{queue.EntryLaws.{law_enter, law_enter_bare}, spin.Laws.law_take}
use Rattle.lk_law.proofs.spin.RowsKeep.{WordKept, free_word}
use Rattle.lk_names.specs.declared.events.How.TheVariants as how

-- G1

entry_with : (mode : Mode) (n : NodeName) → halts mode ≡ false → after_entry mode (Some n) ≡ G2
entry_with Virt n awake = refl
entry_with Native n awake = refl
entry_with Cna n awake = refl
entry_with Pv n awake = cc

entry_without : (mode : Mode) → halts mode ≡ false → after_entry mode None ≡ N1
entry_without Virt awake = refl
entry_without Native awake = refl
entry_without Cna awake = refl
entry_without Pv awake = cc

module _ {a : Acting} (at : StandsAwake a G1) where
  abbrev number : ℕ
  number = a.world.queued a.by.cpu

  abbrev mine : NodeName
  mine = record { cpu = a.by.cpu; index = number }

  -- one more of the processor is in the slow path
  abbrev counted_on : World
  counted_on = put_queued a.world a.by.cpu (number + 1)

  abbrev way : Option Manner
  way = a.world.held a.by a.frame.lock

  -- the frame gets this node, or none, and goes to this row
  abbrev EntryKept : Option NodeName → Pc → Type 0
  EntryKept me d = Kept a (lead_on counted_on a.by a.frame (Enters me d)) Nothing

  enter_kept : nat_lt number 4 ≡ true → EntryKept (Some mine) G2
  enter_kept room =
      let m = a.world in
      let f = a.frame in
      let n = put_node counted_on mine rest_node in
      let g : Frame = record f { me = Some mine; second = None; hashed = false; place = Some G2 } in
      let t : Turn m n a.by f g way =
      record {
        live = at.live;
        frames = refl;
        holds = refl;
        mode = refl;
        turns = refl;
        threshold = refl;
        format = refl;
        sockets = refl;
        entries = λ k ne. refl;
        halted = λ p h. inl h;
        lock = refl;
        words = λ k ne. refl;
      } in
      let held = held_not at (ap seeks (phase_here at)) in
      let step = turn_step t (awake_here at) (phase_here at) refl refl held held in
      let enters =
      turn_enters t at.newest (slow_here at) refl
      (put_number-here m.queued a.by.cpu (number + 1))
      (λ q ne. put_number-else m.queued a.by.cpu q (number + 1) ne) in
      let fit : RegistersFit m.mode g =
      record {
        me = λ e. refl;
        bare = λ e. absurd (grind arith);
        met = λ e. absurd (grind arith);
        next = λ e. absurd (grind arith);
        choice = fixed_choice g G2 refl refl refl (λ e. at.kind) (λ e. refl) (λ e. cc);
      } in (
        turn_sound t at.sound at.newest (awake_post at)
            (node_plain counted_on mine rest_node
            (queued_plain m a.by.cpu (number + 1) at.sound.plain) (omega arith)
            (λ flat k e. grind arith)) fit
            (law_enter at.sound.agrees (awake_here at) step enters (ltb-true number 4 room)
            (turn_own t) (put_rewrites m.node mine rest_node)),
        tt,
      )

  enter_bare_kept : EntryKept None N1
  enter_bare_kept =
      let m = a.world in
      let f = a.frame in
      let n = counted_on in
      let g : Frame = record f { me = None; second = None; hashed = false; place = Some N1 } in
      let t : Turn m n a.by f g way =
      record {
        live = at.live;
        frames = refl;
        holds = refl;
        mode = refl;
        turns = refl;
        threshold = refl;
        format = refl;
        sockets = refl;
        entries = λ k ne. refl;
        halted = λ p h. inl h;
        lock = refl;
        words = λ k ne. refl;
      } in
      let held = held_not at (ap seeks (phase_here at)) in
      let step = turn_step t (awake_here at) (phase_here at) refl refl held held in
      let enters =
      turn_enters t at.newest (slow_here at) refl
      (put_number-here m.queued a.by.cpu (number + 1))
      (λ q ne. put_number-else m.queued a.by.cpu q (number + 1) ne) in
      let fit : RegistersFit m.mode g =
      record {
        me = λ e. absurd (grind arith);
        bare = λ e. refl;
        met = λ e. absurd (grind arith);
        next = λ e. absurd (grind arith);
        choice = fixed_choice g N1 refl refl refl (λ e. at.kind) (λ e. refl) (λ e. cc);
      } in (
        turn_sound t at.sound at.newest (awake_post at)
            (queued_plain m a.by.cpu (number + 1) at.sound.plain) fit
            (law_enter_bare at.sound.agrees (awake_here at) step enters (λ k. refl)),
        tt,
      )

pub entry_awake : KeepsIn false G1
entry_awake =
    (λ a at goes.
    let mode = a.world.mode in
    let i = a.world.queued a.by.cpu in
    if_cases (λ (me : Option NodeName). EntryKept at me (after_entry mode me)) (nat_lt i 4)
    (Some (record { cpu = a.by.cpu; index = i })) None
    (λ room.
    subst (EntryKept at (Some (mine at))) (sym (entry_with mode (mine at) at.kind))
    (enter_kept at room))
    (λ full. subst (EntryKept at None) (sym (entry_without mode at.kind)) (enter_bare_kept at)))

-- The row is in the slow path, and before the queue.
record IsBefore (c : Pc) (r : Phase) : Type 0 where
  phase : (b : Bool) (prev y : NodeName) → phase_at c b prev y ≡ r
  slow : is_slow (Some c) ≡ true
  unlinked : c ≢ G5
  unhanded : c ≢ G11
  post : (f : Frame) → post_at c f ≡ Off
  fixed : chooses c ≡ false
  awake : may_halt c ≡ false
  aware : is_unaware c ≡ has_node r
  before : hands_plainly c ≡ false
  on_way : seeks r ≡ true
  out : queues r ≡ false
  clear : pends r ≡ false

before_G2 : IsBefore G2 Prepared
before_G2 = record {
  phase = λ b p y. refl;
  slow = refl;
  unlinked = λ e. grind arith;
  unhanded = λ e. grind arith;
  post = λ f. refl;
  fixed = refl;
  awake = refl;
  aware = refl;
  before = refl;
  on_way = refl;
  out = refl;
  clear = refl;
}

before_G3 : IsBefore G3 Prepared
before_G3 = record {
  phase = λ b p y. refl;
  slow = refl;
  unlinked = λ e. grind arith;
  unhanded = λ e. grind arith;
  post = λ f. refl;
  fixed = refl;
  awake = refl;
  aware = refl;
  before = refl;
  on_way = refl;
  out = refl;
  clear = refl;
}

before_G4 : IsBefore G4 Prepared
before_G4 = record {
  phase = λ b p y. refl;
  slow = refl;
  unlinked = λ e. grind arith;
  unhanded = λ e. grind arith;
  post = λ f. refl;
  fixed = refl;
  awake = refl;
  aware = refl;
  before = refl;
  on_way = refl;
  out = refl;
  clear = refl;
}

before_N1 : IsBefore N1 Seeks
before_N1 = record {
  phase = λ b p y. refl;
  slow = refl;
  unlinked = λ e. grind arith;
  unhanded = λ e. grind arith;
  post = λ f. refl;
  fixed = refl;
  awake = refl;
  aware = refl;
  before = refl;
  on_way = refl;
  out = refl;
  clear = refl;
}

before_N2 : IsBefore N2 Seeks
before_N2 = record {
  phase = λ b p y. refl;
  slow = refl;
  unlinked = λ e. grind arith;
  unhanded = λ e. grind arith;
  post = λ f. refl;
  fixed = refl;
  awake = refl;
  aware = refl;
  before = refl;
  on_way = refl;
  out = refl;
  clear = refl;
}

before_alike : {c d : Pc} {r : Phase} → IsBefore c r → IsBefore d r → ReadAlike c d
before_alike c d =
    record {
      phase = λ b p y. d.phase b p y ∙ sym (c.phase b p y);
      slow = d.slow ∙ sym c.slow;
      unlinked = d.unlinked;
      unhanded = d.unhanded;
      post = λ f. d.post _ ∙ sym (c.post f);
      was_fixed = c.fixed;
      fixed = d.fixed;
      awake = d.awake;
      unaware = λ e. c.aware ∙ sym d.aware ∙ e;
      plainly = λ e. absurd (grind (arith, d.before, e));
    }

module _ {a : Acting} {c : Pc} {r : Phase} (at : StandsAwake a c) (early : IsBefore c r) where
  before_here : phase_of a.frame ≡ r
  before_here =
      phase_here at ∙ early.phase (is_some a.frame.me) (node_of a.frame.prev) (node_of a.frame.y)

  -- the free word is taken, and the frame leaves the slow path
  takes_out_kept : (h : How) → is_free (a.world.word a.frame.lock) ≡ true
      → taken (a.histories a.frame.lock) a.by h ≡ with_holder (a.histories a.frame.lock) a.by Spins
      → (IsOutside (a.histories a.frame.lock) a.by → TakesInOrder (a.histories a.frame.lock) a.by h)
      → WordKept a (takes_out a.frame h)
  takes_out_kept h free plain order =
      let m = a.world in
      let l = a.frame.lock in
      let n = put_word m l held_word in
      let g = led a.frame Leaves in
      let on : Ending a (counted_off a n) g r held_word (Some Spins) =
      record {
        turn = queued_turn a.by.cpu _ (word_turn at.live refl held_word);
        word = put_word-here m.word l held_word;
        plain =
            queued_plain n a.by.cpu _ (word_plain m l held_word at.sound.plain (λ e. grind arith));
        was = before_here;
        place = left_place at;
        me = refl;
      } in
      let low = free_word (m.word l) free in
      ends_kept at on (Says (Take l h))
      (law_take at.sound.agrees (awake_here at) h
      (ending_step (awake_here at) on (held_not at (ap seeks before_here ∙ early.on_way)) refl)
      (inr (ending_leaves at on early.slow (λ p. refl))) (λ k. refl) early.out early.clear low
      plain)
      (allow_take a.rules at.sound.agrees a.by l h
      (ap queues (phase_shown at ∙ before_here) ∙ early.out) (ap (λ (x : Fields). x.locked) low)
      plain order)

  -- it looks, and goes on before the queue
  before_kept : (d : Pc) → IsBefore d r → WordKept a (looks d)
  before_kept d e = looks_kept at d (before_alike early e)

pub look_again_keeps : SpinRowKeeps G2
look_again_keeps =
    spin_row_keeps G2 refl (λ a at goes.
    let free = is_free (a.world.word a.frame.lock) in
    before_kept at before_G2 (if free then G3 else G4)
    (if_cases (λ (d : Pc). IsBefore d Prepared) free G3 G4 (λ e. before_G3) (λ e. before_G4)))

pub swap_again_keeps : SpinRowKeeps G3
swap_again_keeps =
    spin_row_keeps G3 refl (λ a at goes.
    if_cases (WordKept a) (is_free (a.world.word a.frame.lock)) (takes_out a.frame how.Retry)
    (looks G4)
    (λ e. takes_out_kept at before_G3 how.Retry e refl (λ p. p))
    (λ e. before_kept at before_G3 G4 before_G4))

pub look_bare_keeps : SpinRowKeeps N1
look_bare_keeps =
    spin_row_keeps N1 refl (λ a at goes.
    let free = is_free (a.world.word a.frame.lock) in
    before_kept at before_N1 (if free then N2 else N1)
    (if_cases (λ (d : Pc). IsBefore d Seeks) free N2 N1 (λ e. before_N2) (λ e. before_N1)))

pub swap_bare_keeps : SpinRowKeeps N2
swap_bare_keeps =
    spin_row_keeps N2 refl (λ a at goes.
    if_cases (WordKept a) (is_free (a.world.word a.frame.lock)) (takes_out a.frame how.NoNode)
    (looks N1)
    (λ e. takes_out_kept at before_N2 how.NoNode e refl (λ p. p))
    (λ e. before_kept at before_N2 N1 before_N1))
