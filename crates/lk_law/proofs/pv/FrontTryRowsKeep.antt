-- The rows of a front of the paravirtual lock that tries to take it keep every sound world: E1 to
-- E5.
use Rattle.std.proofs.Common.{◌≡◌, ℕ, Some, true, false, [], ◌∷◌, ap, ◌-◌, refl, sym, ◌∙◌, is_some}
use Rattle.std.proofs.Common.{◌&&◌, ◌==◌, not}
use Rattle.lk_law.proofs.Names.{Locked, Free, Held, Slow, node_of, Goes, HashedIs, Left, Nothing}
use Rattle.lk_law.proofs.Names.{Says, writes, Frame, Pc, E1, E2, E3, E4, E5, E6, E10, E13, State}
use Rattle.lk_law.proofs.Names.{Halted, Hashed, Running, is_slow_byte, is_unlocked, Owed, Phase}
use Rattle.lk_law.proofs.Names.{leads, seeks, phase_at, snapshot, not_hashed, Tries, SpinRowKeeps}
use Rattle.lk_law.proofs.Names.{lead_on, put_node, put_word}
use Rattle.lk_rows.specs.{Row.learns, rows.Pv.{try_again, is_hashed}}
use Rattle.lk_law.proofs.common.Acting.{Acting, StandsIn, Kept, row_keeps_halting, phase_here}
use Rattle.lk_law.proofs.common.Acting.{phase_shown, held_not}
use Rattle.lk_law.proofs.{common.Puts.{if_cases, put_word-here}, common.TurnSteps.node_plain}
use Rattle.lk_law.proofs.common.Turns.{Turn, turned, same_turn, word_turn}
use Rattle.lk_law.proofs.pv.Acting.{fit_halting, halting_plain, hm_posts, hm_posted, hm_owed}
use Rattle.lk_law.proofs.pv.Acting.{hm_step, hm_stays, hm_kept, hm_same, flags_here, state_turn}
use Rattle.lk_law.proofs.{pv.Acting.{state_here, writes_here}, pv.Allowed.allow_grab}
use Rattle.lk_law.proofs.pv.EndLaws.{law_E3, law_E4_take, law_E5_mark, law_E5_sign}
use Rattle.lk_law.proofs.{pv.StayLaws.{law_E1, law_E2}, pv.WaitRowsKeep.positive}
use Rattle.lk_law.proofs.{queue.ArriveRowsKeep.both-true, spin.RowsKeep.{WordKept, unlocked_free}}
use Rattle.lk_names.specs.declared.events.How.TheVariants as how
use Rattle.lk_names.specs.declared.events.What.TheVariants as what

hashed_met : (x : State) → not (is_hashed x) ≡ not_hashed x
hashed_met Running = refl
hashed_met Halted = refl
hashed_met Hashed = refl

pub slow_is : (b : Locked) → is_slow_byte b ≡ true → b ≡ Slow
slow_is Slow h = refl
slow_is Free h = cc h
slow_is Held h = cc h

pub front_leads : {a : Acting} {c : Pc} (at : StandsIn true a c)
    → leads (phase_at c (is_some a.frame.me) (node_of a.frame.prev) (node_of a.frame.y))
    ((a.world.node ((snapshot a.world).own a.by)).flag) ≡ true
    → leads ((snapshot a.world).phase a.frame.lock a.by)
    ((a.world.node ((snapshot a.world).own a.by)).flag) ≡ true
front_leads {a = a} at h =
    ap (λ (r : Phase). leads r ((a.world.node ((snapshot a.world).own a.by)).flag))
    (phase_shown at ∙ phase_here at) ∙ h

-- E1

module _ {a : Acting} (at : StandsIn true a E1) where
  learns_hashed : Kept a
      (lead_on a.world a.by a.frame
      (Goes E2 (HashedIs (is_hashed (a.world.node (node_of a.frame.me)).state) ∷ []))) Nothing
  learns_hashed =
      let m = a.world in
      let l = a.frame.lock in
      let g : Frame = record a.frame {
        hashed = is_hashed (a.world.node (node_of a.frame.me)).state;
        place = Some E2;
      } in
      let t : Turn m (m) a.by a.frame g (m.held a.by l) = same_turn at.live refl in
      let owed : (p : ℕ) → Owed (snapshot m) p → Owed
      (snapshot (turned (m) a.by g l (m.held a.by l))) p =
      hm_owed at t (λ k e. cc e) (λ p. refl) in
      let held = held_not at (ap seeks (phase_here at)) in
      hm_kept at t (λ e. cc e) at.sound.plain
      (fit_halting at at.kind g E2 refl refl refl refl (λ e. cc) (λ e. cc) (λ e. cc) (λ e. cc)
      (λ e. cc)) Nothing
      (law_E1 at.sound.agrees at.kind (hm_stays at t refl refl (λ p. refl)) (λ u. owed u.cpu)
      (is_hashed (m.node (node_of a.frame.me)).state) (hm_step at t refl held held owed)
      (λ k. refl) (hm_posted at t refl (λ p. refl))
      (hashed_met (m.node (node_of a.frame.me)).state ∙ ap not_hashed (sym (state_here at))))
      tt

pub front_look_at_state_keeps : SpinRowKeeps E1
front_look_at_state_keeps = row_keeps_halting E1 refl (λ a at goes. learns_hashed at)

-- E2

module _ {a : Acting} (at : StandsIn true a E2) where
  runs : Kept a
      (lead_on (put_node a.world (node_of a.frame.me)
      (record (a.world.node (node_of a.frame.me)) { state = Running })) a.by a.frame (Goes E3 []))
      Nothing
  runs =
      let m = a.world in
      let l = a.frame.lock in
      let g : Frame = record a.frame { place = Some E3 } in
      let t : Turn m
      (put_node m (node_of a.frame.me)
      (record (m.node (node_of a.frame.me)) { state = Running })) a.by a.frame g
      (m.held a.by l) = state_turn at.live refl (node_of a.frame.me) Running in
      let owed : (p : ℕ) → Owed (snapshot m) p → Owed
      (snapshot (turned
      (put_node m (node_of a.frame.me)
      (record (m.node (node_of a.frame.me)) { state = Running })) a.by g l (m.held a.by l))) p =
      hm_owed at t (λ k e. cc e) (λ p. refl) in
      let held = held_not at (ap seeks (phase_here at)) in
      hm_kept at t (λ e. cc e)
      (node_plain m (node_of a.frame.me)
      (record (m.node (node_of a.frame.me)) { state = Running }) at.sound.plain
      (at.sound.plain.runs (node_of a.frame.me)) (λ flat. at.sound.plain.flag flat (node_of a.frame.me)))
      (fit_halting at at.kind g E3 refl refl refl refl (λ e. cc) (λ e. cc) (λ e. cc) (λ e. cc)
      (λ e. cc)) Nothing
      (law_E2 at.sound.agrees at.kind (hm_stays at t refl refl (λ p. refl)) (λ u. owed u.cpu)
      a.frame.hashed (hm_step at t refl held held owed) (writes_here at Running)
      (hm_posted at t refl (λ p. refl)))
      tt

pub front_say_running_keeps : SpinRowKeeps E2
front_say_running_keeps = row_keeps_halting E2 refl (λ a at goes. runs at)

-- E3

module _ {a : Acting} (at : StandsIn true a E3) where
  presses : Kept a
      (lead_on (put_word a.world a.frame.lock
      (record (a.world.word a.frame.lock) { pending = true })) a.by a.frame
      (Goes E4 (Left a.world.turns ∷ []))) Nothing
  presses =
      let m = a.world in
      let l = a.frame.lock in
      let g : Frame = record a.frame { left = a.world.turns; place = Some E4 } in
      let t : Turn m (put_word m l (record (m.word l) { pending = true })) a.by a.frame g
      (m.held a.by l) = word_turn at.live refl (record (m.word l) { pending = true }) in
      let owed : (p : ℕ) → Owed (snapshot m) p → Owed
      (snapshot (turned (put_word m l (record (m.word l) { pending = true })) a.by g l
      (m.held a.by l))) p = hm_owed at t (λ k e. cc e) (λ p. refl) in
      let held = held_not at (ap seeks (phase_here at)) in
      hm_kept at t (λ e. cc e) (halting_plain _ at.kind (flags_here at) at.sound.plain.runs)
      (fit_halting at at.kind g E4 refl refl refl refl (λ e. cc) (λ e. cc) (λ e. cc)
      (λ q. at.sound.turning) (λ e. cc)) Nothing
      (law_E3 at.sound.agrees at.kind (λ u. owed u.cpu) a.frame.hashed
      (hm_step at t (put_word-here m.word l (record (m.word l) { pending = true })) held held
      owed) (hm_stays at t refl refl (λ p. refl)) (λ k. refl) (hm_posts at t) refl)
      tt

pub front_set_pending_keeps : SpinRowKeeps E3
front_set_pending_keeps = row_keeps_halting E3 refl (λ a at goes. presses at)

-- E4

module _ {a : Acting} (at : StandsIn true a E4) where
  grabs : is_unlocked (a.world.word a.frame.lock).locked ≡ true
      → Kept a (lead_on
      (put_word a.world a.frame.lock
      (record (a.world.word a.frame.lock) { locked = Held; pending = false })) a.by a.frame
      (Goes E13 [])) (Says (what.Take a.frame.lock how.Head))
  grabs free =
      let m = a.world in
      let l = a.frame.lock in
      let g : Frame = record a.frame { place = Some E13 } in
      let t : Turn m (put_word m l (record (m.word l) { locked = Held; pending = false })) a.by
      a.frame g (m.held a.by l) =
      word_turn at.live refl (record (m.word l) { locked = Held; pending = false }) in
      let owed : (p : ℕ) → Owed (snapshot m) p → Owed
      (snapshot (turned (put_word m l (record (m.word l) { locked = Held; pending = false }))
      a.by g l (m.held a.by l))) p = hm_owed at t (λ k e. cc e) (λ p. refl) in
      let held = held_not at (ap seeks (phase_here at)) in
      hm_kept at t (λ e. cc e) (halting_plain _ at.kind (flags_here at) at.sound.plain.runs)
      (fit_halting at at.kind g E13 refl refl refl refl (λ e. cc) (λ e. cc) (λ e. cc) (λ e. cc)
      (λ e. cc)) (Says (what.Take l how.Head))
      (law_E4_take at.sound.agrees at.kind (λ u. owed u.cpu) a.frame.hashed
      (hm_step at t
      (put_word-here m.word l (record (m.word l) { locked = Held; pending = false })) held held
      owed) (hm_stays at t refl refl (λ p. refl)) (λ k. refl)
      (unlocked_free (m.word l).locked free) (hm_posts at t) refl)
      (allow_grab a.rules at.sound.agrees a.by l (front_leads at refl)
      (unlocked_free (m.word l).locked free))

  gives_in : Kept a (lead_on a.world a.by a.frame (Goes E5 (Left 0 ∷ []))) Nothing
  gives_in =
      let m = a.world in
      let l = a.frame.lock in
      let g : Frame = record a.frame { left = 0; place = Some E5 } in
      let t : Turn m (m) a.by a.frame g (m.held a.by l) = same_turn at.live refl in
      let owed : (p : ℕ) → Owed (snapshot m) p → Owed
      (snapshot (turned (m) a.by g l (m.held a.by l))) p =
      hm_owed at t (λ k e. cc e) (λ p. refl) in
      hm_kept at t (λ e. cc e) at.sound.plain
      (fit_halting at at.kind g E5 refl refl refl refl (λ e. cc) (λ e. cc) (λ e. cc) (λ e. cc)
      (λ e. cc)) Nothing
      (hm_same at refl t refl refl refl refl refl refl refl refl refl (λ p. refl) (λ p. refl)
      (λ k e. cc e))
      tt

  tries_on : (a.frame.left - 1 == 0) ≡ false
      → Kept a (lead_on a.world a.by a.frame (Goes E4 (Left (a.frame.left - 1) ∷ []))) Nothing
  tries_on more =
      let m = a.world in
      let l = a.frame.lock in
      let g : Frame = record a.frame { left = a.frame.left - 1; place = Some E4 } in
      let t : Turn m (m) a.by a.frame g (m.held a.by l) = same_turn at.live refl in
      let owed : (p : ℕ) → Owed (snapshot m) p → Owed
      (snapshot (turned (m) a.by g l (m.held a.by l))) p =
      hm_owed at t (λ k e. cc e) (λ p. refl) in
      hm_kept at t (λ e. cc e) at.sound.plain
      (fit_halting at at.kind g E4 refl refl refl refl (λ e. cc) (λ e. cc) (λ e. cc)
      (λ q. positive (a.frame.left - 1) more) (λ e. cc)) Nothing
      (hm_same at refl t refl refl refl refl refl refl refl refl refl (λ p. refl) (λ p. refl)
      (λ k e. cc e))
      tt

pub front_take_pending_keeps : SpinRowKeeps E4
front_take_pending_keeps =
    row_keeps_halting E4 refl (λ a at goes.
    let x = a.world.word a.frame.lock in
    if_cases (WordKept a) (is_unlocked x.locked && x.pending)
    (record {
      stores = Some (record x { locked = Held; pending = false });
      leads = Goes E13 [];
      tells = Says (what.Take a.frame.lock how.Head);
      counts = [];
    }) (try_again a.frame)
    (λ e. grabs at (both-true (is_unlocked x.locked) x.pending e).0)
    (λ e. if_cases (WordKept a) (a.frame.left - 1 == 0) (learns E5 (Left 0))
    (learns E4 (Left (a.frame.left - 1))) (λ z. gives_in at) (tries_on at)))

-- E5

module _ {a : Acting} (at : StandsIn true a E5) where
  marks_next : a.frame.hashed ≡ true
      → Kept a (lead_on
      (put_word a.world a.frame.lock (record (a.world.word a.frame.lock) { pending = false }))
      a.by a.frame (Goes E10 [])) Nothing
  marks_next e =
      let m = a.world in
      let l = a.frame.lock in
      let g : Frame = record a.frame { place = Some E10 } in
      let t : Turn m (put_word m l (record (m.word l) { pending = false })) a.by a.frame g
      (m.held a.by l) = word_turn at.live refl (record (m.word l) { pending = false }) in
      let owed : (p : ℕ) → Owed (snapshot m) p → Owed
      (snapshot (turned (put_word m l (record (m.word l) { pending = false })) a.by g l
      (m.held a.by l))) p = hm_owed at t (λ k e. cc e) (λ p. refl) in
      let held = held_not at (ap seeks (phase_here at)) in
      hm_kept at t (λ e. cc e) (halting_plain _ at.kind (flags_here at) at.sound.plain.runs)
      (fit_halting at at.kind g E10 refl refl refl refl (λ q. e) (λ e. cc) (λ e. cc) (λ e. cc)
      (λ e. cc)) Nothing
      (law_E5_mark at.sound.agrees at.kind (λ u. owed u.cpu)
      (hm_step at t (put_word-here m.word l (record (m.word l) { pending = false })) held held
      owed) (hm_stays at t refl refl (λ p. refl)) (λ k. refl)
      (record {
        was = (hm_posts at t).was ∙ ap Tries e;
        now = (hm_posts at t).now;
        others = (hm_posts at t).others;
      }) refl)
      tt

  signs_next : a.frame.hashed ≡ false
      → Kept a (lead_on
      (put_word a.world a.frame.lock (record (a.world.word a.frame.lock) { pending = false }))
      a.by a.frame (Goes E6 [])) Nothing
  signs_next e =
      let m = a.world in
      let l = a.frame.lock in
      let g : Frame = record a.frame { place = Some E6 } in
      let t : Turn m (put_word m l (record (m.word l) { pending = false })) a.by a.frame g
      (m.held a.by l) = word_turn at.live refl (record (m.word l) { pending = false }) in
      let owed : (p : ℕ) → Owed (snapshot m) p → Owed
      (snapshot (turned (put_word m l (record (m.word l) { pending = false })) a.by g l
      (m.held a.by l))) p = hm_owed at t (λ k e. cc e) (λ p. refl) in
      let held = held_not at (ap seeks (phase_here at)) in
      hm_kept at t (λ e. cc e) (halting_plain _ at.kind (flags_here at) at.sound.plain.runs)
      (fit_halting at at.kind g E6 refl refl refl refl (λ e. cc) (λ e. cc) (λ e. cc) (λ e. cc)
      (λ e. cc)) Nothing
      (law_E5_sign at.sound.agrees at.kind (λ u. owed u.cpu)
      (hm_step at t (put_word-here m.word l (record (m.word l) { pending = false })) held held
      owed) (hm_stays at t refl refl (λ p. refl)) (λ k. refl)
      (record {
        was = (hm_posts at t).was ∙ ap Tries e;
        now = (hm_posts at t).now;
        others = (hm_posts at t).others;
      }) refl)
      tt

pub front_clear_pending_keeps : SpinRowKeeps E5
front_clear_pending_keeps =
    row_keeps_halting E5 refl
    (λ a at goes.
    if_cases (λ (d : Pc).
    WordKept a (writes (record (a.world.word a.frame.lock) { pending = false }) d))
    a.frame.hashed E10 E6 (marks_next at) (signs_next at))
