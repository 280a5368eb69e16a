-- A frame begins an operation, or comes, goes or changes without a place.
use Rattle.std.proofs.Common.{is_some, ◌≡◌, ◌≢◌, inl, inr, Option, Some, None, Bool, true, false}
use Rattle.std.proofs.Common.{arith, ap, refl, sym, ◌∙◌, subst}
use Rattle.lk_law.proofs.Names.{cases_Bool, NodeName, LockHistory, Manner, LockName, Mode, Cna}
use Rattle.lk_law.proofs.Names.{Native, Pv, Virt, Waiter, first_place, node_of, started, Frame, Pc}
use Rattle.lk_law.proofs.Names.{G5, G11, Op, Verb, Unlock, Stays, Step, halts, chooses, is_slow}
use Rattle.lk_law.proofs.Names.{may_halt, stays_awake, Phase, has_node, Idle, kept_in, own_in}
use Rattle.lk_law.proofs.Names.{phase_at, phase_on, post_at, post_if, post_of, post_on, slow_in}
use Rattle.lk_law.proofs.Names.{snapshot, stage_if, stage_on, HasNoPlace, agrees, Off, RegistersFit}
use Rattle.lk_law.proofs.Names.{counts_turns, hands_plainly, is_unaware, names_next, needs_hash}
use Rattle.lk_law.proofs.Names.{sees_peer, Moves, spins, IsSoundSpinWorld, Rests, put_frame, World}
use Rattle.lk_rows.specs.{Programs.way_before, declared.setup.Verb.TheVariants.{Lock, Try}}
use Rattle.lk_law.proofs.{common.Acting.placeless_phase, common.Cases.waiter_cases}
use Rattle.lk_law.proofs.{common.Choices.{unchosen, fit_placeless}, common.Puts.put_moves}
use Rattle.lk_law.proofs.common.Worlds.{sleeper_halts, world_owes, post_on-off, stage_on-rests}
use Rattle.lk_law.proofs.common.Worlds.{phase_on-idle, world_step, world_stays, world_sound}
use Rattle.lk_law.proofs.{pv.Outside.Posted, pv.SharedLaws.law_turn_pv}
use Rattle.lk_law.proofs.spin.Laws.{IsSame, IsTurn, law_same, law_turn, turn_seeks, turn_releases}
use Rattle.lk_law.specs.SpinLaws.{SpinBeginKeeps, SpinEndKeeps}

-- a frame without a place has no post
pub place_off : (f : Frame) → f.place ≡ None → post_of f ≡ Off
place_off f e = ap (λ (c : Option Pc). post_if c f) e

-- an operation on a reader-writer lock does nothing for a spinlock
pub turn_idle : (h : Bool) → IsTurn Idle Idle h
turn_idle h =
    record {
      was_out = refl;
      now_out = refl;
      was_clear = refl;
      now_clear = refl;
      same = refl;
      without = λ p. grind arith;
      with_it = λ p. grind arith;
      kept = λ p. refl;
    }

-- at its first row an operation is on the way, or is about to release
first_turn : (mode : Mode) (v : Verb) (b : Bool) (prev y : NodeName)
    → IsTurn Idle (phase_at (first_place mode v) b prev y) (spins (way_before v))
first_turn mode Lock b prev y = turn_seeks
first_turn mode Try b prev y = turn_seeks
first_turn Virt Unlock b prev y = turn_releases
first_turn Native Unlock b prev y = turn_releases
first_turn Cna Unlock b prev y = turn_releases
first_turn Pv Unlock b prev y = turn_releases
first_turn mode _ b prev y = turn_idle _

-- a first row is none of the slow path
record IsFirst (mode : Mode) (c : Pc) : Type 0 where
  fast : is_slow (Some c) ≡ false
  unlinked : c ≢ G5
  unhanded : c ≢ G11
  fixed : chooses c ≡ false
  halting : may_halt c ≡ true → halts mode ≡ true
  waking : stays_awake c ≡ true → halts mode ≡ false
  entered : needs_hash c ≡ false
  unnamed : names_next c ≡ false
  unpeered : sees_peer c ≡ false
  uncounted : counts_turns c ≡ false
  aware : is_unaware c ≡ false
  early : hands_plainly c ≡ false
  off : (f : Frame) → post_at c f ≡ Off
  suits : (b : Bool) (prev y : NodeName) → agrees Off (phase_at c b prev y) ≡ true

first_row : (mode : Mode) (v : Verb) → IsFirst mode (first_place mode v)
first_row Pv Unlock =
    record {
      fast = refl;
      unlinked = λ e. grind arith;
      unhanded = λ e. grind arith;
      fixed = refl;
      halting = λ e. refl;
      waking = λ e. cc;
      entered = refl;
      unnamed = refl;
      unpeered = refl;
      uncounted = refl;
      aware = refl;
      early = refl;
      off = λ f. refl;
      suits = λ b prev y. refl;
    }
first_row Virt Unlock =
    record {
      fast = refl;
      unlinked = λ e. grind arith;
      unhanded = λ e. grind arith;
      fixed = refl;
      halting = λ e. cc;
      waking = λ e. refl;
      entered = refl;
      unnamed = refl;
      unpeered = refl;
      uncounted = refl;
      aware = refl;
      early = refl;
      off = λ f. refl;
      suits = λ b prev y. refl;
    }
first_row Native Unlock =
    record {
      fast = refl;
      unlinked = λ e. grind arith;
      unhanded = λ e. grind arith;
      fixed = refl;
      halting = λ e. cc;
      waking = λ e. refl;
      entered = refl;
      unnamed = refl;
      unpeered = refl;
      uncounted = refl;
      aware = refl;
      early = refl;
      off = λ f. refl;
      suits = λ b prev y. refl;
    }
first_row Cna Unlock =
    record {
      fast = refl;
      unlinked = λ e. grind arith;
      unhanded = λ e. grind arith;
      fixed = refl;
      halting = λ e. cc;
      waking = λ e. refl;
      entered = refl;
      unnamed = refl;
      unpeered = refl;
      uncounted = refl;
      aware = refl;
      early = refl;
      off = λ f. refl;
      suits = λ b prev y. refl;
    }
first_row mode Lock =
    record {
      fast = refl;
      unlinked = λ e. grind arith;
      unhanded = λ e. grind arith;
      fixed = refl;
      halting = λ e. cc;
      waking = λ e. cc;
      entered = refl;
      unnamed = refl;
      unpeered = refl;
      uncounted = refl;
      aware = refl;
      early = refl;
      off = λ f. refl;
      suits = λ b prev y. refl;
    }
first_row mode Try =
    record {
      fast = refl;
      unlinked = λ e. grind arith;
      unhanded = λ e. grind arith;
      fixed = refl;
      halting = λ e. cc;
      waking = λ e. cc;
      entered = refl;
      unnamed = refl;
      unpeered = refl;
      uncounted = refl;
      aware = refl;
      early = refl;
      off = λ f. refl;
      suits = λ b prev y. refl;
    }
first_row mode _ =
    record {
      fast = refl;
      unlinked = λ e. grind arith;
      unhanded = λ e. grind arith;
      fixed = refl;
      halting = λ e. cc;
      waking = λ e. cc;
      entered = refl;
      unnamed = refl;
      unpeered = refl;
      uncounted = refl;
      aware = refl;
      early = refl;
      off = λ f. refl;
      suits = λ b prev y. refl;
    }

module _ {m : World} {hs : LockName → LockHistory} {w : Waiter} {f : Frame} (g : Frame) (o : Op)
    (ok : IsSoundSpinWorld m hs) (live : m.frame w ≡ Some f) (place : f.place ≡ None) where
  abbrev begun : Frame
  begun = started m.mode g o

  abbrev m' : World
  m' = put_frame m w (Some begun)

  abbrev r' : Phase
  r' = phase_at (first_place m.mode o.verb) (is_some g.me) (node_of g.prev) (node_of g.y)

  abbrev l : LockName
  l = record { index = o.lock; wait = false }

  abbrev way : Option Manner
  way = way_before o.verb

  begin_turn : IsTurn Idle r' (spins way)
  begin_turn = first_turn m.mode o.verb (is_some g.me) (node_of g.prev) (node_of g.y)

  begin_off : post_of begun ≡ Off
  begin_off = (first_row m.mode o.verb).off begun

  begin_moves : Moves m.frame m'.frame w (Some f) (Some begun)
  begin_moves = put_moves m.frame w (Some f) (Some begun) live

  begin_step : m.held w l ≡ way
      → Step (snapshot m) (snapshot m') w l Idle r' (m.word l) (spins way) (spins way)
  begin_step held =
      world_step m m' w f begun begin_moves l (inr (placeless_phase f place)) (inl refl)
      (placeless_phase f place) refl
      (record {
        mode = refl;
        threshold = refl;
        format = refl;
        sockets = refl;
        entries = λ k ne. refl;
        word = refl;
        words = λ k ne. refl;
        holds = record { was = ap spins held; now = ap spins held; others = λ u ne. refl };
        helds = λ k ne u. refl;
      })
      (λ on k u ne h.
      world_owes m m' w f begun begin_moves
      (λ t e. let z = place_off f place in grind (arith, z, e)) (λ p. refl) u.cpu)
      (λ on h.
      absurd (let z = ap (post_on l) begin_moves.now ∙ post_on-off l begun begin_off in
      grind (arith, z, h)))

  begin_posted : Posted (snapshot m) (snapshot m') w l Off Off
  begin_posted =
      record {
        was = ap (post_on l) begin_moves.was ∙ post_on-off l f (place_off f place);
        now = ap (post_on l) begin_moves.now ∙ post_on-off l begun begin_off;
        entry = refl;
        kicked = λ p. refl;
      }

  begin_stays : g.me ≡ f.me → Stays (snapshot m) (snapshot m') w
  begin_stays me =
      world_stays m m' w f begun begin_moves (ap node_of me)
      ((first_row m.mode o.verb).fast ∙ sym (ap is_slow place)) (λ p. refl)

  begin_fit : g.me ≡ f.me → RegistersFit m.mode begun
  begin_fit me =
      let fit = ok.registers w f live in
      let first = first_row m.mode o.verb in
      record {
        me = λ e. absurd (unnoded r' begin_turn e);
        bare = λ e. me ∙ fit.bare (ap has_node (placeless_phase f place));
        met = λ e. absurd (first.unlinked (grind arith));
        next = λ e. absurd (first.unhanded (grind arith));
        choice = unchosen begun (first_place m.mode o.verb) refl first.fixed first.halting
            first.waking (λ e. absurd (grind (arith, first.entered, e)))
            (λ e. absurd (grind (arith, first.unnamed, e)))
            (λ e. absurd (grind (arith, first.unpeered, e)))
            (λ e. absurd (grind (arith, first.uncounted, e)))
            (λ e. absurd (grind (arith, first.aware, e)))
            (λ e. absurd (grind (arith, first.early, e)));
      }
    where
      unnoded : (r : Phase) → IsTurn Idle r (spins way) → has_node r ≡ true → ⊥
      unnoded r t e = grind (arith, t.kept e)

-- a frame begins the next operation
pub spin_begin_keeps : SpinBeginKeeps
spin_begin_keeps m hs w f g o ok live place held me =
    world_sound m (put_frame m w (Some (started m.mode g o))) w f (started m.mode g o)
    (begin_moves g o ok live place) ok refl refl
    (λ e. absurd (let z = begin_off g o ok live place in grind (arith, z, e)))
    (record {
      still = λ e h. absurd (let z = place_off f place in grind (arith, z, e));
      halted = λ p h. inl h;
    })
    (record { byte = ok.plain.byte; flag = ok.plain.flag; runs = ok.plain.runs }) (begin_fit g o ok live place me)
    (elim (cases_Bool (halts m.mode)) [
      | inl on ↦ law_turn_pv ok.agrees on (begin_step g o ok live place held)
          (begin_stays g o ok live place me) (λ n. refl) (begin_turn g o ok live place)
          (begin_posted g o ok live place) ((first_row m.mode o.verb).suits _ _ _)
      | inr off ↦ law_turn ok.agrees off (begin_step g o ok live place held)
          (begin_stays g o ok live place me) (λ n. refl) (begin_turn g o ok live place)
    ])

-- what the laws read of no frame, or of one that has no place
record IsAbsent (f : Option Frame) : Type 0 where
  idle : (l : LockName) → phase_on l f ≡ Idle
  own : own_in f ≡ node_of None
  fast : slow_in f ≡ false
  calm : (l : LockName) → stage_on l f ≡ Rests
  off : (l : LockName) → post_on l f ≡ Off

absent : (f : Option Frame) → HasNoPlace f → IsAbsent f
absent None p =
    record { idle = λ l. refl; own = refl; fast = refl; calm = λ l. refl; off = λ l. refl }
absent (Some f) p =
    record {
      idle = λ l. phase_on-idle l f (placeless_phase f p.0);
      own = ap node_of p.1;
      fast = ap is_slow p.0;
      calm = λ l. stage_on-rests l f (ap (λ (c : Option Pc). stage_if c f) p.0);
      off = λ l. post_on-off l f (ap (λ (c : Option Pc). post_if c f) p.0);
    }

module _ (m : World) (w : Waiter) (f g : Option Frame) (live : m.frame w ≡ f) (none : HasNoPlace f)
    (none' : HasNoPlace g) where
  abbrev ended : World
  ended = put_frame m w g

  end_moves : Moves m.frame ended.frame w f g
  end_moves = put_moves m.frame w f g live

  end_same : IsSame (snapshot m) (snapshot ended)
  end_same =
      let was = absent f none in
      let now = absent g none' in
      record {
        mode = refl;
        threshold = refl;
        local = refl;
        word = λ l. refl;
        phase = λ l u. elim (waiter_cases u w) [
          | inl e ↦ subst (λ (v : Waiter). phase_on l (ended.frame v) ≡ phase_on l (m.frame v))
              (sym e) (ap (phase_on l) end_moves.now ∙ now.idle l
              ∙ sym (ap (phase_on l) end_moves.was ∙ was.idle l))
          | inr ne ↦ ap (phase_on l) (end_moves.others u ne)
        ];
        own = λ u. elim (waiter_cases u w) [
          | inl e ↦ subst (λ (v : Waiter). own_in (ended.frame v) ≡ own_in (m.frame v)) (sym e)
              (ap own_in end_moves.now ∙ now.own ∙ sym (ap own_in end_moves.was ∙ was.own))
          | inr ne ↦ ap own_in (end_moves.others u ne)
        ];
        node = λ n. refl;
        held = λ u l. refl;
        slow = λ u. elim (waiter_cases u w) [
          | inl e ↦ subst (λ (v : Waiter). slow_in (ended.frame v) ≡ slow_in (m.frame v)) (sym e)
              (ap slow_in end_moves.now ∙ now.fast ∙ sym (ap slow_in end_moves.was ∙ was.fast))
          | inr ne ↦ ap slow_in (end_moves.others u ne)
        ];
        queued = λ p. refl;
        post = λ l u. elim (waiter_cases u w) [
          | inl e ↦ subst (λ (v : Waiter). post_on l (ended.frame v) ≡ post_on l (m.frame v))
              (sym e) (ap (post_on l) end_moves.now ∙ now.off l
              ∙ sym (ap (post_on l) end_moves.was ∙ was.off l))
          | inr ne ↦ ap (post_on l) (end_moves.others u ne)
        ];
        entry = λ l. refl;
        kicked = λ p. refl;
        stage = λ l u. elim (waiter_cases u w) [
          | inl e ↦ subst (λ (v : Waiter). stage_on l (ended.frame v) ≡ stage_on l (m.frame v))
              (sym e) (ap (stage_on l) end_moves.now ∙ now.calm l
              ∙ sym (ap (stage_on l) end_moves.was ∙ was.calm l))
          | inr ne ↦ ap (stage_on l) (end_moves.others u ne)
        ];
        kept = λ l u q. elim (waiter_cases u w) [
          | inl e ↦ let a : phase_on l (m.frame u) ≡ Idle =
              ap (λ (v : Waiter). phase_on l (m.frame v)) e ∙ ap (phase_on l) end_moves.was
              ∙ was.idle l in absurd (grind (arith, a, q))
          | inr ne ↦ ap kept_in (end_moves.others u ne)
        ];
      }

placeless_fits : {mode : Mode} (g : Option Frame) → HasNoPlace g → (d : Frame) → g ≡ Some d
    → RegistersFit mode d
placeless_fits None p d e = cc
placeless_fits {mode = mode} (Some g) p d e = let same : g ≡ d = grind arith in
    subst (RegistersFit mode) same (fit_placeless g p.0 p.1)

placeless_off : (g : Option Frame) → HasNoPlace g → (d : Frame) → g ≡ Some d → post_of d ≡ Off
placeless_off None p d e = cc
placeless_off (Some g) p d e =
    let same : g ≡ d = grind arith in ap post_of (sym same) ∙ place_off g p.0

-- a frame without a place comes, goes or changes
pub spin_end_keeps : SpinEndKeeps
spin_end_keeps m hs w f g ok live none none' room =
    let moves = end_moves m w f g live none none' in
    record {
      plain = record { byte = ok.plain.byte; flag = ok.plain.flag; runs = ok.plain.runs };
      turning = ok.turning;
      agrees = law_same ok.agrees (end_same m w f g live none none');
      registers = λ u d e. elim (waiter_cases u w) [
        | inl q ↦ placeless_fits g none' d (sym moves.now ∙ ap (put_frame m w g).frame (sym q) ∙ e)
        | inr ne ↦ ok.registers u d (sym (moves.others u ne) ∙ e)
      ];
      asleep = λ u d e h. elim (waiter_cases u w) [
        | inl q ↦ absurd
            (let z = placeless_off g none' d
            (sym moves.now ∙ ap (put_frame m w g).frame (sym q) ∙ e) in grind (arith, z, h))
        | inr ne ↦
            let was : m.frame u ≡ Some d = sym (moves.others u ne) ∙ e in
            let above = ok.asleep u d was h in
            (λ c lt. elim (waiter_cases (record { cpu = u.cpu; ctx = c }) w) [
              | inl q ↦
                  let nobody : f ≡ None = sym live ∙ ap m.frame (sym q) ∙ above c lt in
                  let awake =
                  room nobody (sleeper_halts ok u d was h) u d (ap (λ (v : Waiter). v.cpu) q) was in
                  absurd (grind (arith, awake, h))
              | inr ne' ↦ moves.others (record { cpu = u.cpu; ctx = c }) ne' ∙ above c lt
            ])
      ];
      resting = λ p h.
          let s = ok.resting p h in
          let ne : s.0 ≢ w =
          (λ q. let z = placeless_off f none s.1 (sym live ∙ ap m.frame (sym q) ∙ s.3) in
          let k = s.4 in grind (arith, z, k)) in
          (s.0, s.1, s.2, moves.others s.0 ne ∙ s.3, s.4);
    }
