-- The rows of a waiter that may halt keep every sound world: it looks at its flag and at the one
-- before it, says that it halts, halts, and wakes.
use Rattle.std.proofs.Common.{◌≡◌, ◌≢◌, ◌⊎◌, inl, inr, ℕ, Some, None, Bool, true, false, [], ◌∷◌}
use Rattle.std.proofs.Common.{arith, ap, ◌-◌, ◌<◌, refl, sym, ◌∙◌, if◌then◌else◌, ◌==◌}
use Rattle.lk_law.proofs.Names.{cases_Bool, eqb-true, node_of, Effect, Goes, Left, Nothing, Says}
use Rattle.lk_law.proofs.Names.{looks, Flag, Frame, Pc, E1, W1, W2, W3, W4, W5, W6, W7, State}
use Rattle.lk_law.proofs.Names.{Halted, Hashed, Running, is_halted, is_running, is_set, Owed, Phase}
use Rattle.lk_law.proofs.Names.{leads, seeks, snapshot, SpinRowKeeps, lead_on, put_node}
use Rattle.lk_law.proofs.Names.{stores_flag, stores_state}
use Rattle.lk_rows.specs.{Row.{PvWaitNode, learns}, rows.Pv.peer_again}
use Rattle.lk_law.proofs.common.Acting.{Acting, StandsIn, Kept, row_keeps_halting, fit_here}
use Rattle.lk_law.proofs.common.Acting.{phase_here, phase_shown, held_not}
use Rattle.lk_law.proofs.{common.Puts.{if_cases, if-false}, common.TurnSteps.node_plain}
use Rattle.lk_law.proofs.common.Turns.{Turn, turned, same_turn}
use Rattle.lk_law.proofs.pv.Acting.{fit_halting, halting_plain, hm_posts, hm_posted, hm_owed}
use Rattle.lk_law.proofs.pv.Acting.{hm_step, hm_stays, hm_kept, hm_same, flags_here, state_turn}
use Rattle.lk_law.proofs.pv.Acting.{state_here, writes_here, flag_leads, flag_behind}
use Rattle.lk_law.proofs.{pv.EndLaws.law_W1_rise, pv.Find.{law_halt, allow_halt}}
use Rattle.lk_law.proofs.pv.Laws.{para_queue}
use Rattle.lk_law.proofs.pv.StayLaws.{law_W1, law_W2_again, law_W2_stop, law_W3, law_W4_doze}
use Rattle.lk_law.proofs.pv.StayLaws.{law_W4_stir, law_W5_sleep, law_W5_stir, law_W7_spin}
use Rattle.lk_law.proofs.{pv.StayLaws.law_W7_run, queue.Lead.lead_first}
use Rattle.lk_law.specs.Steps.{put_halted}
use Rattle.lk_names.specs.declared.events.What.TheVariants as what

-- the processor halts, and no other
pub halt_only : (f : ℕ → Bool) (p q : ℕ) → (if q == p then true else f q) ≡ true
    → (f q ≡ true) ⊎ ((q ≡ p) × (true ≡ true))
halt_only f p q h =
    elim (cases_Bool (q == p)) [
      | inl e ↦ inr (eqb-true q p e, refl)
      | inr e ↦ inl (sym (if-false (q == p) true (f q) e) ∙ h)
    ]

pub positive : (n : ℕ) → (n == 0) ≡ false → 0 < n
positive n h = grind (arith, h)

pub halted_is : (x : State) → is_halted x ≡ true → x ≡ Halted
halted_is Halted h = refl
halted_is Running h = cc h
halted_is Hashed h = cc h

pub halted_not : (x : State) → is_halted x ≡ false → x ≢ Halted
halted_not x h e = let z = ap is_halted e in grind (arith, z, h)

-- W1

module _ {a : Acting} (at : StandsIn true a W1) where
  rises : is_set (a.world.node (node_of a.frame.me)).flag ≡ true
      → Kept a (lead_on a.world a.by a.frame (Goes E1 [])) Nothing
  rises set =
      let m = a.world in
      let l = a.frame.lock in
      let g : Frame = record a.frame { place = Some E1 } in
      let t : Turn m (m) a.by a.frame g (m.held a.by l) = same_turn at.live refl in
      let owed : (p : ℕ) → Owed (snapshot m) p → Owed
      (snapshot (turned (m) a.by g l (m.held a.by l))) p =
      hm_owed at t (λ k e. cc e) (λ p. refl) in
      let held = held_not at (ap seeks (phase_here at)) in
      hm_kept at t (λ e. cc e) at.sound.plain
      (fit_halting at at.kind g E1 refl refl refl refl (λ e. cc) (λ e. cc) (λ e. cc) (λ e. cc)
      (λ e. cc)) Nothing
      (law_W1_rise at.sound.agrees at.kind (λ u. owed u.cpu) (hm_step at t refl held held owed)
      (hm_stays at t refl refl (λ p. refl)) (λ k. refl) (flag_leads at refl set) (hm_posts at t)
      refl (lead_first (para_queue at.sound.agrees at.kind l) a.by
      (ap (λ (r : Phase). leads r ((m.node ((snapshot m).own a.by)).flag))
      (phase_shown at ∙ phase_here at) ∙ flag_leads at refl set)))
      tt

  peers : is_set (a.world.node (node_of a.frame.me)).flag ≡ false
      → Kept a (lead_on a.world a.by a.frame (Goes W2 [])) Nothing
  peers unset =
      let m = a.world in
      let l = a.frame.lock in
      let g : Frame = record a.frame { place = Some W2 } in
      let t : Turn m (m) a.by a.frame g (m.held a.by l) = same_turn at.live refl in
      let owed : (p : ℕ) → Owed (snapshot m) p → Owed
      (snapshot (turned (m) a.by g l (m.held a.by l))) p =
      hm_owed at t (λ k e. cc e) (λ p. refl) in
      let held = held_not at (ap seeks (phase_here at)) in
      hm_kept at t (λ e. cc e) at.sound.plain
      (fit_halting at at.kind g W2 refl refl refl refl (λ e. cc) (λ e. cc)
      (λ q. (fit_here at).choice.peer W1 at.place refl)
      (λ q. (fit_here at).choice.turns W1 at.place refl) (λ e. cc)) Nothing
      (law_W1 at.sound.agrees at.kind (hm_stays at t refl refl (λ p. refl)) (λ u. owed u.cpu)
      (hm_step at t refl held held owed) (λ k. refl) (hm_posted at t refl (λ p. refl))
      (flag_behind at refl unset))
      tt

pub waiter_spin_keeps : SpinRowKeeps W1
waiter_spin_keeps =
    row_keeps_halting W1 refl (λ a at goes.
    if_cases (λ (d : Pc). Kept a (lead_on a.world a.by a.frame (Goes d [])) Nothing)
    (is_set (a.world.node (node_of a.frame.me)).flag) E1 W2 (rises at) (peers at))

-- W2

module _ {a : Acting} (at : StandsIn true a W2) where
  abbrev StateKept : Effect State → Type 0
  StateKept o =
      Kept a (lead_on (stores_state a.world (node_of a.frame.prev) o.stores) a.by a.frame o.leads)
      o.tells

  stops : Kept a (lead_on a.world a.by a.frame (Goes W3 [])) Nothing
  stops =
      let m = a.world in
      let l = a.frame.lock in
      let g : Frame = record a.frame { place = Some W3 } in
      let t : Turn m (m) a.by a.frame g (m.held a.by l) = same_turn at.live refl in
      let owed : (p : ℕ) → Owed (snapshot m) p → Owed
      (snapshot (turned (m) a.by g l (m.held a.by l))) p =
      hm_owed at t (λ k e. cc e) (λ p. refl) in
      let held = held_not at (ap seeks (phase_here at)) in
      hm_kept at t (λ e. cc e) at.sound.plain
      (fit_halting at at.kind g W3 refl refl refl refl (λ e. cc) (λ e. cc)
      (λ q. (fit_here at).choice.peer W2 at.place refl) (λ e. cc) (λ e. cc)) Nothing
      (law_W2_stop at.sound.agrees at.kind (hm_stays at t refl refl (λ p. refl)) (λ u. owed u.cpu)
      (hm_step at t refl held held owed) (λ k. refl) (hm_posted at t refl (λ p. refl)))
      tt

  stops_late : Kept a (lead_on a.world a.by a.frame (Goes W3 (Left 0 ∷ []))) Nothing
  stops_late =
      let m = a.world in
      let l = a.frame.lock in
      let g : Frame = record a.frame { left = 0; place = Some W3 } in
      let t : Turn m (m) a.by a.frame g (m.held a.by l) = same_turn at.live refl in
      let owed : (p : ℕ) → Owed (snapshot m) p → Owed
      (snapshot (turned (m) a.by g l (m.held a.by l))) p =
      hm_owed at t (λ k e. cc e) (λ p. refl) in
      let held = held_not at (ap seeks (phase_here at)) in
      hm_kept at t (λ e. cc e) at.sound.plain
      (fit_halting at at.kind g W3 refl refl refl refl (λ e. cc) (λ e. cc)
      (λ q. (fit_here at).choice.peer W2 at.place refl) (λ e. cc) (λ e. cc)) Nothing
      (law_W2_stop at.sound.agrees at.kind (hm_stays at t refl refl (λ p. refl)) (λ u. owed u.cpu)
      (hm_step at t refl held held owed) (λ k. refl) (hm_posted at t refl (λ p. refl)))
      tt

  turns_again : (a.frame.left - 1 == 0) ≡ false
      → Kept a (lead_on a.world a.by a.frame (Goes W1 (Left (a.frame.left - 1) ∷ []))) Nothing
  turns_again more =
      let m = a.world in
      let l = a.frame.lock in
      let g : Frame = record a.frame { left = a.frame.left - 1; place = Some W1 } in
      let t : Turn m (m) a.by a.frame g (m.held a.by l) = same_turn at.live refl in
      let owed : (p : ℕ) → Owed (snapshot m) p → Owed
      (snapshot (turned (m) a.by g l (m.held a.by l))) p =
      hm_owed at t (λ k e. cc e) (λ p. refl) in
      let held = held_not at (ap seeks (phase_here at)) in
      hm_kept at t (λ e. cc e) at.sound.plain
      (fit_halting at at.kind g W1 refl refl refl refl (λ e. cc) (λ e. cc)
      (λ q. (fit_here at).choice.peer W2 at.place refl) (λ q. positive (a.frame.left - 1) more)
      (λ e. cc)) Nothing
      (law_W2_again at.sound.agrees at.kind (hm_stays at t refl refl (λ p. refl)) (λ u. owed u.cpu)
      (hm_step at t refl held held owed) (λ k. refl) (hm_posted at t refl (λ p. refl)))
      tt

pub waiter_watch_keeps : SpinRowKeeps W2
waiter_watch_keeps =
    row_keeps_halting W2 refl (λ a at goes.
    if_cases (StateKept at) (is_running (a.world.node (node_of a.frame.prev)).state)
    (peer_again a.frame) (looks W3)
    (λ e. if_cases (StateKept at) (a.frame.left - 1 == 0) (learns W3 (Left 0))
    (learns W1 (Left (a.frame.left - 1))) (λ z. stops_late at) (turns_again at))
    (λ e. stops at))

-- W3

module _ {a : Acting} (at : StandsIn true a W3) where
  says_halted : Kept a
      (lead_on (put_node a.world (node_of a.frame.me)
      (record (a.world.node (node_of a.frame.me)) { state = Halted })) a.by a.frame (Goes W4 []))
      Nothing
  says_halted =
      let m = a.world in
      let l = a.frame.lock in
      let g : Frame = record a.frame { place = Some W4 } in
      let t : Turn m
      (put_node m (node_of a.frame.me)
      (record (m.node (node_of a.frame.me)) { state = Halted })) a.by a.frame g
      (m.held a.by l) = state_turn at.live refl (node_of a.frame.me) Halted in
      let owed : (p : ℕ) → Owed (snapshot m) p → Owed
      (snapshot (turned
      (put_node m (node_of a.frame.me)
      (record (m.node (node_of a.frame.me)) { state = Halted })) a.by g l (m.held a.by l))) p =
      hm_owed at t (λ k e. cc e) (λ p. refl) in
      let held = held_not at (ap seeks (phase_here at)) in
      hm_kept at t (λ e. cc e)
      (node_plain m (node_of a.frame.me)
      (record (m.node (node_of a.frame.me)) { state = Halted }) at.sound.plain
      (at.sound.plain.runs (node_of a.frame.me)) (λ flat. at.sound.plain.flag flat (node_of a.frame.me)))
      (fit_halting at at.kind g W4 refl refl refl refl (λ e. cc) (λ e. cc)
      (λ q. (fit_here at).choice.peer W3 at.place refl) (λ e. cc) (λ e. cc)) Nothing
      (law_W3 at.sound.agrees at.kind (hm_stays at t refl refl (λ p. refl)) (λ u. owed u.cpu)
      (hm_step at t refl held held owed) (writes_here at Halted)
      (hm_posted at t refl (λ p. refl)))
      tt

pub waiter_say_halted_keeps : SpinRowKeeps W3
waiter_say_halted_keeps = row_keeps_halting W3 refl (λ a at goes. says_halted at)

-- W4

module _ {a : Acting} (at : StandsIn true a W4) where
  abbrev SeenKept : Effect Flag → Type 0
  SeenKept o =
      Kept a (lead_on (stores_flag a.world (node_of a.frame.me) o.stores) a.by a.frame o.leads)
      o.tells

  stirs_early : Kept a (lead_on a.world a.by a.frame (Goes W7 [])) Nothing
  stirs_early =
      let m = a.world in
      let l = a.frame.lock in
      let g : Frame = record a.frame { place = Some W7 } in
      let t : Turn m (m) a.by a.frame g (m.held a.by l) = same_turn at.live refl in
      let owed : (p : ℕ) → Owed (snapshot m) p → Owed
      (snapshot (turned (m) a.by g l (m.held a.by l))) p =
      hm_owed at t (λ k e. cc e) (λ p. refl) in
      let held = held_not at (ap seeks (phase_here at)) in
      hm_kept at t (λ e. cc e) at.sound.plain
      (fit_halting at at.kind g W7 refl refl refl refl (λ e. cc) (λ e. cc)
      (λ q. (fit_here at).choice.peer W4 at.place refl) (λ e. cc) (λ e. cc)) Nothing
      (law_W4_stir at.sound.agrees at.kind (hm_stays at t refl refl (λ p. refl)) (λ u. owed u.cpu)
      (hm_step at t refl held held owed) (λ k. refl) (hm_posted at t refl (λ p. refl)))
      tt

  dozes_on : is_set (a.world.node (node_of a.frame.me)).flag ≡ false
      → Kept a (lead_on a.world a.by a.frame (Goes W5 [])) Nothing
  dozes_on unset =
      let m = a.world in
      let l = a.frame.lock in
      let g : Frame = record a.frame { place = Some W5 } in
      let t : Turn m (m) a.by a.frame g (m.held a.by l) = same_turn at.live refl in
      let owed : (p : ℕ) → Owed (snapshot m) p → Owed
      (snapshot (turned (m) a.by g l (m.held a.by l))) p =
      hm_owed at t (λ k e. cc e) (λ p. refl) in
      let held = held_not at (ap seeks (phase_here at)) in
      hm_kept at t (λ e. cc e) at.sound.plain
      (fit_halting at at.kind g W5 refl refl refl refl (λ e. cc) (λ e. cc)
      (λ q. (fit_here at).choice.peer W4 at.place refl) (λ e. cc) (λ e. cc)) Nothing
      (law_W4_doze at.sound.agrees at.kind (hm_stays at t refl refl (λ p. refl)) (λ u. owed u.cpu)
      (hm_step at t refl held held owed) (λ k. refl) (hm_posted at t refl (λ p. refl))
      (flag_behind at refl unset))
      tt

pub waiter_look_once_more_keeps : SpinRowKeeps W4
waiter_look_once_more_keeps =
    row_keeps_halting W4 refl (λ a at goes.
    if_cases (SeenKept at) (is_set (a.world.node (node_of a.frame.me)).flag) (looks W7)
    (record { stores = None; leads = Goes W5 []; tells = Nothing; counts = PvWaitNode ∷ [] })
    (λ e. stirs_early at) (dozes_on at))

-- W5

module _ {a : Acting} (at : StandsIn true a W5) where
  sleeps_on : is_halted (a.world.node (node_of a.frame.me)).state ≡ true
      → Kept a (lead_on a.world a.by a.frame (Goes W6 [])) Nothing
  sleeps_on halted =
      let m = a.world in
      let l = a.frame.lock in
      let g : Frame = record a.frame { place = Some W6 } in
      let t : Turn m (m) a.by a.frame g (m.held a.by l) = same_turn at.live refl in
      let owed : (p : ℕ) → Owed (snapshot m) p → Owed
      (snapshot (turned (m) a.by g l (m.held a.by l))) p =
      hm_owed at t (λ k e. cc e) (λ p. refl) in
      let held = held_not at (ap seeks (phase_here at)) in
      hm_kept at t (λ e. cc e) at.sound.plain
      (fit_halting at at.kind g W6 refl refl refl refl (λ e. cc) (λ e. cc)
      (λ q. (fit_here at).choice.peer W5 at.place refl) (λ e. cc) (λ e. cc)) Nothing
      (law_W5_sleep at.sound.agrees at.kind (hm_stays at t refl refl (λ p. refl)) (λ u. owed u.cpu)
      (hm_step at t refl held held owed) (λ k. refl) (hm_posted at t refl (λ p. refl))
      (state_here at ∙ halted_is (m.node (node_of a.frame.me)).state halted))
      tt

  stirs : Kept a (lead_on a.world a.by a.frame (Goes W7 [])) Nothing
  stirs =
      let m = a.world in
      let l = a.frame.lock in
      let g : Frame = record a.frame { place = Some W7 } in
      let t : Turn m (m) a.by a.frame g (m.held a.by l) = same_turn at.live refl in
      let owed : (p : ℕ) → Owed (snapshot m) p → Owed
      (snapshot (turned (m) a.by g l (m.held a.by l))) p =
      hm_owed at t (λ k e. cc e) (λ p. refl) in
      let held = held_not at (ap seeks (phase_here at)) in
      hm_kept at t (λ e. cc e) at.sound.plain
      (fit_halting at at.kind g W7 refl refl refl refl (λ e. cc) (λ e. cc)
      (λ q. (fit_here at).choice.peer W5 at.place refl) (λ e. cc) (λ e. cc)) Nothing
      (law_W5_stir at.sound.agrees at.kind (hm_stays at t refl refl (λ p. refl)) (λ u. owed u.cpu)
      (hm_step at t refl held held owed) (λ k. refl) (hm_posted at t refl (λ p. refl)))
      tt

pub waiter_test_state_keeps : SpinRowKeeps W5
waiter_test_state_keeps =
    row_keeps_halting W5 refl (λ a at goes.
    if_cases (λ (d : Pc). Kept a (lead_on a.world a.by a.frame (Goes d [])) Nothing)
    (is_halted (a.world.node (node_of a.frame.me)).state) W6 W7 (sleeps_on at) (λ e. stirs at))

-- W6

module _ {a : Acting} (at : StandsIn true a W6) where
  halts_here : Kept a (lead_on (put_halted a.world a.by.cpu true) a.by a.frame (Goes W6 []))
      (Says (what.Halt a.frame.lock))
  halts_here =
      let m = a.world in
      let l = a.frame.lock in
      let g : Frame = record a.frame { place = Some W6 } in
      let t : Turn m (put_halted m a.by.cpu true) a.by a.frame g (m.held a.by l) =
      record {
        live = at.live;
        frames = refl;
        holds = refl;
        mode = refl;
        turns = refl;
        threshold = refl;
        format = refl;
        sockets = refl;
        entries = λ k ne. refl;
        halted = λ p h. halt_only m.halted a.by.cpu p h;
        lock = refl;
        words = λ k ne. refl;
      } in
      let owed : (p : ℕ) → Owed (snapshot m) p → Owed
      (snapshot (turned (put_halted m a.by.cpu true) a.by g l (m.held a.by l))) p =
      hm_owed at t (λ k e. cc e) (λ p. refl) in
      hm_kept at t (λ e. e) (halting_plain _ at.kind (flags_here at) at.sound.plain.runs)
      (fit_halting at at.kind g W6 refl refl refl refl (λ e. cc) (λ e. cc)
      (λ q. (fit_here at).choice.peer W6 at.place refl) (λ e. cc) (λ e. cc))
      (Says (what.Halt l))
      (law_halt a.by l (hm_same at refl t refl refl refl refl refl refl refl refl refl (λ p. refl)
      (λ p. refl) (λ k e. cc e)))
      (allow_halt a.rules at.sound.agrees a.by l)

pub waiter_halt_keeps : SpinRowKeeps W6
waiter_halt_keeps = row_keeps_halting W6 refl (λ a at goes. halts_here at)

-- W7

module _ {a : Acting} (at : StandsIn true a W7) where
  abbrev WakeKept : Effect State → Type 0
  WakeKept o =
      Kept a (lead_on (stores_state a.world (node_of a.frame.me) o.stores) a.by a.frame o.leads)
      o.tells

  runs_again : is_halted (a.world.node (node_of a.frame.me)).state ≡ true
      → Kept a (lead_on
      (put_node a.world (node_of a.frame.me)
      (record (a.world.node (node_of a.frame.me)) { state = Running })) a.by a.frame
      (Goes W1 (Left a.world.turns ∷ []))) Nothing
  runs_again halted =
      let m = a.world in
      let l = a.frame.lock in
      let g : Frame = record a.frame { left = a.world.turns; place = Some W1 } in
      let t : Turn m
      (put_node m (node_of a.frame.me)
      (record (m.node (node_of a.frame.me)) { state = Running })) a.by a.frame g
      (m.held a.by l) = state_turn at.live refl (node_of a.frame.me) Running in
      let owed : (p : ℕ) → Owed (snapshot m) p → Owed
      (snapshot (turned
      (put_node m (node_of a.frame.me)
      (record (m.node (node_of a.frame.me)) { state = Running })) a.by g l (m.held a.by l))) p =
      hm_owed at t (λ k e. cc e) (λ p. refl) in
      let held = held_not at (ap seeks (phase_here at)) in
      hm_kept at t (λ e. cc e)
      (node_plain m (node_of a.frame.me)
      (record (m.node (node_of a.frame.me)) { state = Running }) at.sound.plain
      (at.sound.plain.runs (node_of a.frame.me)) (λ flat. at.sound.plain.flag flat (node_of a.frame.me)))
      (fit_halting at at.kind g W1 refl refl refl refl (λ e. cc) (λ e. cc)
      (λ q. (fit_here at).choice.peer W7 at.place refl) (λ q. at.sound.turning) (λ e. cc))
      Nothing
      (law_W7_run at.sound.agrees at.kind (hm_stays at t refl refl (λ p. refl)) (λ u. owed u.cpu)
      (hm_step at t refl held held owed) (writes_here at Running)
      (hm_posted at t refl (λ p. refl))
      (state_here at ∙ halted_is (m.node (node_of a.frame.me)).state halted))
      tt

  spins_again : is_halted (a.world.node (node_of a.frame.me)).state ≡ false
      → Kept a (lead_on a.world a.by a.frame (Goes W1 (Left a.world.turns ∷ []))) Nothing
  spins_again awake =
      let m = a.world in
      let l = a.frame.lock in
      let g : Frame = record a.frame { left = a.world.turns; place = Some W1 } in
      let t : Turn m (m) a.by a.frame g (m.held a.by l) = same_turn at.live refl in
      let owed : (p : ℕ) → Owed (snapshot m) p → Owed
      (snapshot (turned (m) a.by g l (m.held a.by l))) p =
      hm_owed at t (λ k e. cc e) (λ p. refl) in
      let held = held_not at (ap seeks (phase_here at)) in
      hm_kept at t (λ e. cc e) at.sound.plain
      (fit_halting at at.kind g W1 refl refl refl refl (λ e. cc) (λ e. cc)
      (λ q. (fit_here at).choice.peer W7 at.place refl) (λ q. at.sound.turning) (λ e. cc))
      Nothing
      (law_W7_spin at.sound.agrees at.kind (hm_stays at t refl refl (λ p. refl)) (λ u. owed u.cpu)
      (hm_step at t refl held held owed) (λ k. refl) (hm_posted at t refl (λ p. refl))
      (λ q. halted_not (m.node (node_of a.frame.me)).state awake (sym (state_here at) ∙ q)))
      tt

pub waiter_say_running_keeps : SpinRowKeeps W7
waiter_say_running_keeps =
    row_keeps_halting W7 refl (λ a at goes.
    if_cases (WakeKept at) (is_halted (a.world.node (node_of a.frame.me)).state)
    (record {
      stores = Some Running;
      leads = Goes W1 (Left a.world.turns ∷ []);
      tells = Nothing;
      counts = [];
    }) (learns W1 (Left a.world.turns))
    (runs_again at) (spins_again at))
