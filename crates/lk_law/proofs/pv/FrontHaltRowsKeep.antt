-- The rows of a front of the paravirtual lock from its entry in the hash to its halt keep every
-- sound world: E6 to E12.
use Rattle.std.proofs.Common.{◌≡◌, ℕ, Some, None, true, false, [], ◌∷◌, arith, ap, refl, ◌∙◌}
use Rattle.lk_law.proofs.Names.{Held, Slow, node_of, Goes, HashedIs, Nothing, Says, looks, Frame}
use Rattle.lk_law.proofs.Names.{Pc, E2, E6, E7, E8, E9, E10, E11, E12, E13, Hashed, is_slow_byte}
use Rattle.lk_law.proofs.Names.{with_byte, is_unlocked, Owed, has_node, seeks, snapshot, Clears}
use Rattle.lk_law.proofs.Names.{SpinRowKeeps, lead_on, put_entry, put_node, put_word}
use Rattle.lk_law.proofs.common.Acting.{Acting, StandsIn, Kept, row_keeps_halting, fit_here}
use Rattle.lk_law.proofs.common.Acting.{phase_here, held_not}
use Rattle.lk_law.proofs.{common.Puts.{if_cases, put_word-here}, common.TurnSteps.node_plain}
use Rattle.lk_law.proofs.common.Turns.{Turn, turned, same_turn, word_turn}
use Rattle.lk_law.proofs.pv.Acting.{fit_halting, halting_plain, post_here, hm_posts, hm_posted}
use Rattle.lk_law.proofs.pv.Acting.{hm_owed, hm_step, hm_stays, hm_kept, hm_same, flags_here}
use Rattle.lk_law.proofs.{pv.Acting.{state_turn, entry_turn, writes_here}, pv.Allowed.allow_grab}
use Rattle.lk_law.proofs.pv.EndLaws.{law_E6, law_E7_take, law_E7_mark, law_E8, law_E9}
use Rattle.lk_law.proofs.pv.Find.{law_halt, allow_halt}
use Rattle.lk_law.proofs.pv.FrontTryRowsKeep.{front_leads, slow_is}
use Rattle.lk_law.proofs.pv.StayLaws.{law_E10, law_E11_nap, law_E11_back}
use Rattle.lk_law.proofs.{pv.WaitRowsKeep.halt_only, queue.ArriveRowsKeep.own_node_here}
use Rattle.lk_law.proofs.spin.RowsKeep.{WordKept, unlocked_free}
use Rattle.lk_law.specs.Steps.{put_halted}
use Rattle.lk_names.specs.declared.events.How.TheVariants as how
use Rattle.lk_names.specs.declared.events.What.TheVariants as what

-- E6

module _ {a : Acting} (at : StandsIn true a E6) where
  signs : Kept a (lead_on (put_entry a.world a.frame.lock (a.frame.me)) a.by a.frame (Goes E7 []))
      Nothing
  signs =
      let m = a.world in
      let l = a.frame.lock in
      let g : Frame = record a.frame { place = Some E7 } in
      let t : Turn m (put_entry m l (a.frame.me)) a.by a.frame g (m.held a.by l) =
      entry_turn at.live refl (a.frame.me) in
      let owed : (p : ℕ) → Owed (snapshot m) p → Owed
      (snapshot (turned (put_entry m l (a.frame.me)) a.by g l (m.held a.by l))) p =
      hm_owed at t (λ k e. cc e) (λ p. refl) in
      let held = held_not at (ap seeks (phase_here at)) in
      hm_kept at t (λ e. cc e) (halting_plain _ at.kind (flags_here at) at.sound.plain.runs)
      (fit_halting at at.kind g E7 refl refl refl refl (λ e. cc) (λ e. cc) (λ e. cc) (λ e. cc)
      (λ e. cc)) Nothing
      ((law_E6 at.sound.agrees at.kind (λ u. owed u.cpu) (hm_step at t refl held held owed)
      (hm_stays at t refl refl (λ p. refl)) (λ k. refl) (hm_posts at t)
      (put_word-here m.entry l a.frame.me ∙ own_node_here at (ap has_node (phase_here at)))).0)
      tt

pub front_enter_hash_keeps : SpinRowKeeps E6
front_enter_hash_keeps = row_keeps_halting E6 refl (λ a at goes. signs at)

-- E7

module _ {a : Acting} (at : StandsIn true a E7) where
  wins : is_unlocked (a.world.word a.frame.lock).locked ≡ true
      → Kept a (lead_on (put_word a.world a.frame.lock (with_byte (a.world.word a.frame.lock) Slow))
      a.by a.frame (Goes E8 [])) (Says (what.Take a.frame.lock how.Head))
  wins free =
      let m = a.world in
      let l = a.frame.lock in
      let g : Frame = record a.frame { place = Some E8 } in
      let t : Turn m (put_word m l (with_byte (m.word l) Slow)) a.by a.frame g (m.held a.by l) =
      word_turn at.live refl (with_byte (m.word l) Slow) in
      let owed : (p : ℕ) → Owed (snapshot m) p → Owed
      (snapshot (turned (put_word m l (with_byte (m.word l) Slow)) a.by g l (m.held a.by l)))
      p = hm_owed at t (λ k e. cc e) (λ p. refl) in
      let held = held_not at (ap seeks (phase_here at)) in
      hm_kept at t (λ e. cc e) (halting_plain _ at.kind (flags_here at) at.sound.plain.runs)
      (fit_halting at at.kind g E8 refl refl refl refl (λ e. cc) (λ e. cc) (λ e. cc) (λ e. cc)
      (λ e. cc)) (Says (what.Take l how.Head))
      (law_E7_take at.sound.agrees at.kind (λ u. owed u.cpu)
      (hm_step at t (put_word-here m.word l (with_byte (m.word l) Slow)) held held owed)
      (hm_stays at t refl refl (λ p. refl)) (λ k. refl) (unlocked_free (m.word l).locked free)
      (hm_posts at t) refl)
      (allow_grab a.rules at.sound.agrees a.by l (front_leads at refl)
      (unlocked_free (m.word l).locked free))

  slows : is_unlocked (a.world.word a.frame.lock).locked ≡ false
      → Kept a (lead_on (put_word a.world a.frame.lock (with_byte (a.world.word a.frame.lock) Slow))
      a.by a.frame (Goes E10 (HashedIs true ∷ []))) Nothing
  slows full =
      let m = a.world in
      let l = a.frame.lock in
      let g : Frame = record a.frame { hashed = true; place = Some E10 } in
      let t : Turn m (put_word m l (with_byte (m.word l) Slow)) a.by a.frame g (m.held a.by l) =
      word_turn at.live refl (with_byte (m.word l) Slow) in
      let owed : (p : ℕ) → Owed (snapshot m) p → Owed
      (snapshot (turned (put_word m l (with_byte (m.word l) Slow)) a.by g l (m.held a.by l)))
      p = hm_owed at t (λ k e. cc e) (λ p. refl) in
      let held = held_not at (ap seeks (phase_here at)) in
      hm_kept at t (λ e. cc e) (halting_plain _ at.kind (flags_here at) at.sound.plain.runs)
      (fit_halting at at.kind g E10 refl refl refl refl (λ q. refl) (λ e. cc) (λ e. cc)
      (λ e. cc) (λ e. cc)) Nothing
      (law_E7_mark at.sound.agrees at.kind (λ u. owed u.cpu)
      (hm_step at t (put_word-here m.word l (with_byte (m.word l) Slow)) held held owed)
      (hm_stays at t refl refl (λ p. refl)) (λ k. refl)
      (λ q. let z = ap is_unlocked q in grind (arith, z, full)) (hm_posts at t) refl)
      tt

pub front_exchange_slow_keeps : SpinRowKeeps E7
front_exchange_slow_keeps =
    row_keeps_halting E7 refl (λ a at goes.
    let x = a.world.word a.frame.lock in
    if_cases (WordKept a) (is_unlocked x.locked)
    (record {
      stores = Some (with_byte x Slow);
      leads = Goes E8 [];
      tells = Says (what.Take a.frame.lock how.Head);
      counts = [];
    })
    (record {
      stores = Some (with_byte x Slow);
      leads = Goes E10 (HashedIs true ∷ []);
      tells = Nothing;
      counts = [];
    }) (wins at) (slows at))

-- E8

module _ {a : Acting} (at : StandsIn true a E8) where
  plains : Kept a
      (lead_on (put_word a.world a.frame.lock (with_byte (a.world.word a.frame.lock) Held)) a.by
      a.frame (Goes E9 [])) Nothing
  plains =
      let m = a.world in
      let l = a.frame.lock in
      let g : Frame = record a.frame { place = Some E9 } in
      let t : Turn m (put_word m l (with_byte (m.word l) Held)) a.by a.frame g (m.held a.by l) =
      word_turn at.live refl (with_byte (m.word l) Held) in
      let owed : (p : ℕ) → Owed (snapshot m) p → Owed
      (snapshot (turned (put_word m l (with_byte (m.word l) Held)) a.by g l (m.held a.by l)))
      p = hm_owed at t (λ k e. cc e) (λ p. refl) in
      let held = held_not at (ap seeks (phase_here at)) in
      hm_kept at t (λ e. cc e) (halting_plain _ at.kind (flags_here at) at.sound.plain.runs)
      (fit_halting at at.kind g E9 refl refl refl refl (λ e. cc) (λ e. cc) (λ e. cc) (λ e. cc)
      (λ e. cc)) Nothing
      (law_E8 at.sound.agrees at.kind (λ u. owed u.cpu)
      (hm_step at t (put_word-here m.word l (with_byte (m.word l) Held)) held held owed)
      (hm_stays at t refl refl (λ p. refl)) (λ k. refl) (hm_posts at t) refl)
      tt

pub front_store_held_keeps : SpinRowKeeps E8
front_store_held_keeps = row_keeps_halting E8 refl (λ a at goes. plains at)

-- E9

module _ {a : Acting} (at : StandsIn true a E9) where
  erases : Kept a (lead_on (put_entry a.world a.frame.lock (None)) a.by a.frame (Goes E13 []))
      Nothing
  erases =
      let m = a.world in
      let l = a.frame.lock in
      let g : Frame = record a.frame { place = Some E13 } in
      let t : Turn m (put_entry m l (None)) a.by a.frame g (m.held a.by l) =
      entry_turn at.live refl (None) in
      let owed : (p : ℕ) → Owed (snapshot m) p → Owed
      (snapshot (turned (put_entry m l (None)) a.by g l (m.held a.by l))) p =
      hm_owed at t (λ k e. cc e) (λ p. refl) in
      let held = held_not at (ap seeks (phase_here at)) in
      hm_kept at t (λ e. cc e) (halting_plain _ at.kind (flags_here at) at.sound.plain.runs)
      (fit_halting at at.kind g E13 refl refl refl refl (λ e. cc) (λ e. cc) (λ e. cc) (λ e. cc)
      (λ e. cc)) Nothing
      ((law_E9 at.sound.agrees at.kind (λ u. owed u.cpu) (hm_step at t refl held held owed)
      (hm_stays at t refl refl (λ p. refl)) (λ k. refl) (hm_posts at t)
      (put_word-here m.entry l None)).0)
      tt

pub front_leave_hash_keeps : SpinRowKeeps E9
front_leave_hash_keeps = row_keeps_halting E9 refl (λ a at goes. erases at)

-- E10

module _ {a : Acting} (at : StandsIn true a E10) where
  marks : Kept a
      (lead_on (put_node a.world (node_of a.frame.me)
      (record (a.world.node (node_of a.frame.me)) { state = Hashed })) a.by a.frame (Goes E11 []))
      Nothing
  marks =
      let m = a.world in
      let l = a.frame.lock in
      let g : Frame = record a.frame { place = Some E11 } in
      let t : Turn m
      (put_node m (node_of a.frame.me)
      (record (m.node (node_of a.frame.me)) { state = Hashed })) a.by a.frame g
      (m.held a.by l) = state_turn at.live refl (node_of a.frame.me) Hashed in
      let owed : (p : ℕ) → Owed (snapshot m) p → Owed
      (snapshot (turned
      (put_node m (node_of a.frame.me)
      (record (m.node (node_of a.frame.me)) { state = Hashed })) a.by g l (m.held a.by l))) p =
      hm_owed at t (λ k e. cc e) (λ p. refl) in
      let held = held_not at (ap seeks (phase_here at)) in
      hm_kept at t (λ e. cc e)
      (node_plain m (node_of a.frame.me)
      (record (m.node (node_of a.frame.me)) { state = Hashed }) at.sound.plain
      (at.sound.plain.runs (node_of a.frame.me)) (λ flat. at.sound.plain.flag flat (node_of a.frame.me)))
      (fit_halting at at.kind g E11 refl refl refl refl
      (λ q. (fit_here at).choice.hashed E10 at.place refl) (λ e. cc) (λ e. cc) (λ e. cc)
      (λ e. cc)) Nothing
      (law_E10 at.sound.agrees at.kind (hm_stays at t refl refl (λ p. refl)) (λ u. owed u.cpu)
      (hm_step at t refl held held owed) (writes_here at Hashed)
      (hm_posted at t refl (λ p. refl)))
      tt

pub front_say_hashed_keeps : SpinRowKeeps E10
front_say_hashed_keeps = row_keeps_halting E10 refl (λ a at goes. marks at)

-- E11

module _ {a : Acting} (at : StandsIn true a E11) where
  naps_on : is_slow_byte (a.world.word a.frame.lock).locked ≡ true
      → Kept a (lead_on a.world a.by a.frame (Goes E12 [])) Nothing
  naps_on slow =
      let m = a.world in
      let l = a.frame.lock in
      let g : Frame = record a.frame { place = Some E12 } in
      let t : Turn m (m) a.by a.frame g (m.held a.by l) = same_turn at.live refl in
      let owed : (p : ℕ) → Owed (snapshot m) p → Owed
      (snapshot (turned (m) a.by g l (m.held a.by l))) p =
      hm_owed at t (λ k e. cc e) (λ p. refl) in
      let held = held_not at (ap seeks (phase_here at)) in
      hm_kept at t (λ e. cc e) at.sound.plain
      (fit_halting at at.kind g E12 refl refl refl refl
      (λ q. (fit_here at).choice.hashed E11 at.place refl) (λ e. cc) (λ e. cc) (λ e. cc)
      (λ e. cc)) Nothing
      (law_E11_nap at.sound.agrees at.kind (hm_stays at t refl refl (λ p. refl)) (λ u. owed u.cpu)
      (hm_step at t refl held held owed) (λ k. refl) (hm_posted at t refl (λ p. refl))
      (slow_is (m.word l).locked slow))
      tt

  goes_back : Kept a (lead_on a.world a.by a.frame (Goes E2 [])) Nothing
  goes_back =
      let m = a.world in
      let l = a.frame.lock in
      let g : Frame = record a.frame { place = Some E2 } in
      let t : Turn m (m) a.by a.frame g (m.held a.by l) = same_turn at.live refl in
      let owed : (p : ℕ) → Owed (snapshot m) p → Owed
      (snapshot (turned (m) a.by g l (m.held a.by l))) p =
      hm_owed at t (λ k e. cc e) (λ p. refl) in
      let held = held_not at (ap seeks (phase_here at)) in
      hm_kept at t (λ e. cc e) at.sound.plain
      (fit_halting at at.kind g E2 refl refl refl refl (λ e. cc) (λ e. cc) (λ e. cc) (λ e. cc)
      (λ e. cc)) Nothing
      (law_E11_back at.sound.agrees at.kind (hm_stays at t refl refl (λ p. refl)) (λ u. owed u.cpu)
      (hm_step at t refl held held owed) (λ k. refl)
      (record {
        was = post_here at;
        now = (hm_posts at t).now ∙ ap Clears ((fit_here at).choice.hashed E11 at.place refl);
        entry = refl;
        kicked = λ p. refl;
      }))
      tt

pub front_test_slow_keeps : SpinRowKeeps E11
front_test_slow_keeps =
    row_keeps_halting E11 refl
    (λ a at goes.
    if_cases (λ (d : Pc). WordKept a (looks d))
    (is_slow_byte (a.world.word a.frame.lock).locked) E12 E2 (naps_on at) (λ e. goes_back at))

-- E12

module _ {a : Acting} (at : StandsIn true a E12) where
  naps_here : Kept a (lead_on (put_halted a.world a.by.cpu true) a.by a.frame (Goes E12 []))
      (Says (what.Halt a.frame.lock))
  naps_here =
      let m = a.world in
      let l = a.frame.lock in
      let g : Frame = record a.frame { place = Some E12 } in
      let t : Turn m (put_halted m a.by.cpu true) a.by a.frame g (m.held a.by l) =
      record {
        live = at.live;
        frames = refl;
        holds = refl;
        mode = refl;
        turns = refl;
        threshold = refl;
        format = refl;
        sockets = refl;
        entries = λ k ne. refl;
        halted = λ p h. halt_only m.halted a.by.cpu p h;
        lock = refl;
        words = λ k ne. refl;
      } in
      let owed : (p : ℕ) → Owed (snapshot m) p → Owed
      (snapshot (turned (put_halted m a.by.cpu true) a.by g l (m.held a.by l))) p =
      hm_owed at t (λ k e. cc e) (λ p. refl) in
      hm_kept at t (λ e. e) (halting_plain _ at.kind (flags_here at) at.sound.plain.runs)
      (fit_halting at at.kind g E12 refl refl refl refl
      (λ q. (fit_here at).choice.hashed E12 at.place refl) (λ e. cc) (λ e. cc) (λ e. cc)
      (λ e. cc)) (Says (what.Halt l))
      (law_halt a.by l (hm_same at refl t refl refl refl refl refl refl refl refl refl (λ p. refl)
      (λ p. refl) (λ k e. cc e)))
      (allow_halt a.rules at.sound.agrees a.by l)

pub front_halt_keeps : SpinRowKeeps E12
front_halt_keeps = row_keeps_halting E12 refl (λ a at goes. naps_here at)
