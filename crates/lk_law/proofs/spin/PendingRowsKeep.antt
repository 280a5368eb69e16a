-- The rows of the pending path keep every sound world.
use Rattle.std.proofs.Common.{◌≡◌, Option, Some, None, true, false, [], arith, ap, refl, sym, ◌∙◌}
use Rattle.std.proofs.Common.{if◌then◌else◌, is_some}
use Rattle.lk_law.proofs.Names.{Fields, Free, Held, Take, Spins, Mode, Goes, Granted, Nothing, Says}
use Rattle.lk_law.proofs.Names.{Frame, Pc, G1, P1, P2, P3, P4, is_unlocked, has_node, seeks, Claims}
use Rattle.lk_law.proofs.Names.{Seeks, SpinRowKeeps, lead_on, led, put_word}
use Rattle.lk_law.proofs.common.Acting.{Acting, StandsAwake, Kept, spin_row_keeps, fit_here}
use Rattle.lk_law.proofs.common.Acting.{phase_here, phase_shown, held_not, looks_kept}
use Rattle.lk_law.proofs.common.Acting.{granted_place, going_step, going_stays, goes_kept, Ending}
use Rattle.lk_law.proofs.common.Acting.{ending_step, ending_stays, ends_kept, LeadsTo, word_going}
use Rattle.lk_law.proofs.common.Acting.{look_going, going_word, awake_here}
use Rattle.lk_law.proofs.{common.Allowed.allow_claim, common.Puts.{if_cases, put_word-here}}
use Rattle.lk_law.proofs.{common.TurnSteps.word_plain, common.Turns.word_turn}
use Rattle.lk_law.proofs.spin.Laws.{law_turn, turn_on}
use Rattle.lk_law.proofs.spin.PendingLaws.{law_pend, law_unpend, law_watch, law_claim}
use Rattle.lk_law.proofs.spin.RowsKeep.{unlocked_free}
use Rattle.lk_law.specs.Phase.Phase.{Undoes, Watches}
use Rattle.lk_names.specs.declared.events.How.TheVariants as how

pub none_is : {A : Type 0} (o : Option A) → is_some o ≡ false → o ≡ None
none_is None h = refl
none_is (Some x) h = cc

to_clear : {mode : Mode} (f : Frame) → LeadsTo mode f P1 P2 Seeks Undoes
to_clear f =
    record {
      was = refl;
      now = refl;
      on_way = refl;
      noded = refl;
      slow = refl;
      unlinked = λ e. grind arith;
      unhanded = λ e. grind arith;
      fixed = refl;
      awake = refl;
      unaware = λ e. cc;
      plainly = λ e. cc;
    }

to_watch : {mode : Mode} (f : Frame) → LeadsTo mode f P1 P3 Seeks Watches
to_watch f =
    record {
      was = refl;
      now = refl;
      on_way = refl;
      noded = refl;
      slow = refl;
      unlinked = λ e. grind arith;
      unhanded = λ e. grind arith;
      fixed = refl;
      awake = refl;
      unaware = λ e. cc;
      plainly = λ e. cc;
    }

to_claim : {mode : Mode} (f : Frame) → LeadsTo mode f P1 P4 Seeks Claims
to_claim f =
    record {
      was = refl;
      now = refl;
      on_way = refl;
      noded = refl;
      slow = refl;
      unlinked = λ e. grind arith;
      unhanded = λ e. grind arith;
      fixed = refl;
      awake = refl;
      unaware = λ e. cc;
      plainly = λ e. cc;
    }

to_node : {mode : Mode} (f : Frame) → LeadsTo mode f P1 G1 Seeks Seeks
to_node f = record {
  was = refl;
  now = refl;
  on_way = refl;
  noded = refl;
  slow = refl;
  unlinked = λ e. grind arith;
  unhanded = λ e. grind arith;
  fixed = refl;
  awake = refl;
  unaware = λ e. cc;
  plainly = λ e. cc;
}

undone : {mode : Mode} (f : Frame) → LeadsTo mode f P2 G1 Undoes Seeks
undone f = record {
  was = refl;
  now = refl;
  on_way = refl;
  noded = refl;
  slow = refl;
  unlinked = λ e. grind arith;
  unhanded = λ e. grind arith;
  fixed = refl;
  awake = refl;
  unaware = λ e. cc;
  plainly = λ e. cc;
}

watched : {mode : Mode} (f : Frame) → LeadsTo mode f P3 P4 Watches Claims
watched f = record {
  was = refl;
  now = refl;
  on_way = refl;
  noded = refl;
  slow = refl;
  unlinked = λ e. grind arith;
  unhanded = λ e. grind arith;
  fixed = refl;
  awake = refl;
  unaware = λ e. cc;
  plainly = λ e. cc;
}

-- P1, by the word that it met
module _ {a : Acting} (at : StandsAwake a P1) where
  abbrev met : Fields
  met = a.world.word a.frame.lock

  abbrev set : Fields
  set = record met { pending = true }

  -- the pending bit is set, and the frame goes to this row
  abbrev SetKept : Pc → Type 0
  SetKept d = Kept a (lead_on (put_word a.world a.frame.lock set) a.by a.frame (Goes d [])) Nothing

  -- it was set already: nothing changes
  set_again : met.pending ≡ true → SetKept G1
  set_again e =
      let on = word_going at (to_node a.frame) set (at.sound.plain.byte at.kind a.frame.lock) in
      let same : set ≡ met = (λ i. record met { pending = sym e i }) in
      let on' = going_word on same in
      goes_kept at on' Nothing (law_turn at.sound.agrees (awake_here at) (going_step at on')
      (going_stays on') (λ n. refl) turn_on) tt

  set_beside : met.pending ≡ false → SetKept P2
  set_beside e =
      let on = word_going at (to_clear a.frame) set (at.sound.plain.byte at.kind a.frame.lock) in
      goes_kept at on Nothing
      (law_pend at.sound.agrees (awake_here at) (going_step at on) (going_stays on) (λ n. refl)
      e refl refl (λ p. grind arith) (λ p. grind arith)) tt

  set_alone : met.pending ≡ false → met.tail ≡ None → SetKept P3
  set_alone e none =
      let on = word_going at (to_watch a.frame) set (at.sound.plain.byte at.kind a.frame.lock) in
      goes_kept at on Nothing
      (law_pend at.sound.agrees (awake_here at) (going_step at on) (going_stays on) (λ n. refl)
      e refl refl (λ p. none) (λ p. grind arith)) tt

  set_free : met.pending ≡ false → met.tail ≡ None → met.locked ≡ Free → SetKept P4
  set_free e none free =
      let on = word_going at (to_claim a.frame) set (at.sound.plain.byte at.kind a.frame.lock) in
      goes_kept at on Nothing
      (law_pend at.sound.agrees (awake_here at) (going_step at on) (going_stays on) (λ n. refl)
      e refl refl (λ p. none) (λ p. free)) tt

  set_kept : SetKept
      (if met.pending then G1 else (if is_some
      met.tail then P2 else (if is_unlocked met.locked then P4 else P3)))
  set_kept =
      if_cases SetKept met.pending G1
      (if is_some met.tail then P2 else (if is_unlocked met.locked then P4 else P3)) set_again
      (λ e.
      if_cases SetKept (is_some met.tail) P2 (if is_unlocked met.locked then P4 else P3)
      (λ t. set_beside e)
      (λ t. if_cases SetKept (is_unlocked met.locked) P4 P3
      (λ u. set_free e (none_is met.tail t) (unlocked_free met.locked u))
      (λ u. set_alone e (none_is met.tail t))))

pub set_pending_keeps : SpinRowKeeps P1
set_pending_keeps = spin_row_keeps P1 refl (λ a at goes. set_kept at)

pub clear_pending_keeps : SpinRowKeeps P2
clear_pending_keeps =
    spin_row_keeps P2 refl (λ a at goes.
    let x : Fields = record (a.world.word a.frame.lock) { pending = false } in
    let on = word_going at (undone a.frame) x (at.sound.plain.byte at.kind a.frame.lock) in
    goes_kept at on Nothing (law_unpend at.sound.agrees (awake_here at) (going_step at on)
    (going_stays on) (λ n. refl)) tt)

pub watch_keeps : SpinRowKeeps P3
watch_keeps =
    spin_row_keeps P3 refl (λ a at goes.
    let x = a.world.word a.frame.lock in
    if_cases (λ (d : Pc). Kept a (lead_on a.world a.by a.frame (Goes d [])) Nothing)
    (is_unlocked x.locked) P4 P3
    (λ e.
    let on = look_going at (watched a.frame) in
    goes_kept at on Nothing
    (law_watch at.sound.agrees (awake_here at) (going_step at on) (going_stays on) (λ n. refl)
    (unlocked_free x.locked e)) tt)
    (λ e. looks_kept at P3
    (record {
      phase = λ b p y. refl;
      slow = refl;
      unlinked = λ q. grind arith;
      unhanded = λ q. grind arith;
      post = λ f. refl;
      was_fixed = refl;
      fixed = refl;
      awake = refl;
      unaware = λ q. cc;
      plainly = λ q. cc;
    })))

pub take_pending_keeps : SpinRowKeeps P4
take_pending_keeps =
    spin_row_keeps P4 refl (λ a at goes.
    let m = a.world in
    let l = a.frame.lock in
    let x : Fields = record (m.word l) { locked = Held; pending = false } in
    let g = led a.frame Granted in
    let was = phase_here at in
    let on : Ending a (put_word m l x) g Claims x (Some Spins) =
    record {
      turn = word_turn at.live refl x;
      word = put_word-here m.word l x;
      plain = word_plain m l x at.sound.plain (λ e. grind arith);
      was = was;
      place = granted_place at;
      me = (fit_here at).bare (ap has_node was);
    } in
    ends_kept at on (Says (Take l how.Pending))
    (law_claim at.sound.agrees (awake_here at)
    (ending_step (awake_here at) on (held_not at (ap seeks was)) refl)
    (ending_stays at on refl refl (λ p. refl)) (λ k. refl))
    (allow_claim a.rules at.sound.agrees a.by l (phase_shown at ∙ was)))
