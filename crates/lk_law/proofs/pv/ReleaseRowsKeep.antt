-- The rows of the release of the paravirtual lock, with its kick, keep every sound world: U2 to U5.
use Rattle.std.proofs.Common.{◌≡◌, inl, inr, ℕ, Some, None, true, false, [], ◌∷◌, arith, ap, refl}
use Rattle.std.proofs.Common.{sym, ◌∙◌, if◌then◌else◌, ◌==◌}
use Rattle.lk_law.proofs.Names.{Free, NodeName, Waiter, node_of, Freed, Goes, Nothing, Says, Yields}
use Rattle.lk_law.proofs.Names.{looks, Frame, U2, U3, U4, U5, is_held, with_byte, Owed, has_node}
use Rattle.lk_law.proofs.Names.{seeks, post_on, snapshot, Kicks, Moves, SpinRowKeeps, lead_on, led}
use Rattle.lk_law.proofs.Names.{put_entry, put_word, World}
use Rattle.lk_rows.specs.Row.{TargetIs}
use Rattle.lk_law.proofs.common.Acting.{Acting, StandsIn, Kept, row_keeps_halting, fit_here}
use Rattle.lk_law.proofs.common.Acting.{phase_here, phase_shown, held_not, held_so, placeless_phase}
use Rattle.lk_law.proofs.{common.Cases.waiter_cases, common.Choices.fit_placeless}
use Rattle.lk_law.proofs.common.Puts.{if_cases, put_word-here, if-true, kept_true}
use Rattle.lk_law.proofs.common.TurnSteps.{turn_moves}
use Rattle.lk_law.proofs.{common.Turns.{Turn, turned, same_turn, word_turn}, common.Users.some_is}
use Rattle.lk_law.proofs.common.Worlds.{post_on-kicks}
use Rattle.lk_law.proofs.pv.Acting.{fit_halting, halting_plain, post_here, hm_posts, hm_owed}
use Rattle.lk_law.proofs.pv.Acting.{hm_step, hm_step_as, hm_stays, hm_kept, flags_here, entry_turn}
use Rattle.lk_law.proofs.{pv.Acting.post_mine, pv.Allowed.allow_drop}
use Rattle.lk_law.proofs.pv.EndLaws.{law_U2, law_U3, law_U4, law_U5}
use Rattle.lk_law.proofs.pv.Find.{law_U2_find, finds_some, not_held_slow}
use Rattle.lk_law.proofs.{pv.HolderRowsKeep.{held_is, law_kicks}, spin.RowsKeep.WordKept}
use Rattle.lk_law.specs.Steps.{put_kicked}
use Rattle.lk_names.specs.declared.events.What.TheVariants as what

-- U2

module _ {a : Acting} (at : StandsIn true a U2) where
  frees : is_held (a.world.word a.frame.lock).locked ≡ true
      → Kept a (lead_on (put_word a.world a.frame.lock (with_byte (a.world.word a.frame.lock) Free))
      a.by a.frame (Freed)) (Says (what.Release a.frame.lock None))
  frees one =
      let m = a.world in
      let l = a.frame.lock in
      let g : Frame = led a.frame Freed in
      let t : Turn m (put_word m l (with_byte (m.word l) Free)) a.by a.frame g None =
      word_turn at.live refl (with_byte (m.word l) Free) in
      let owed : (p : ℕ) → Owed (snapshot m) p → Owed
      (snapshot (turned (put_word m l (with_byte (m.word l) Free)) a.by g l None)) p =
      hm_owed at t (λ k e. cc e) (λ p. refl) in
      let held = held_so at (phase_here at) in
      hm_kept at t (λ e. cc e) (halting_plain _ at.kind (flags_here at) at.sound.plain.runs)
      (fit_placeless g refl ((fit_here at).bare (ap has_node (phase_here at))))
      (Says (what.Release l None))
      (law_U2 at.sound.agrees at.kind (λ u. owed u.cpu)
      (hm_step_as at t (phase_here at) (placeless_phase g refl)
      (put_word-here m.word l (with_byte (m.word l) Free)) held refl owed)
      (hm_stays at t refl refl (λ p. refl)) (λ k. refl) (held_is (m.word l).locked one)
      (hm_posts at t) refl)
      (allow_drop a.rules at.sound.agrees a.by l None (phase_shown at ∙ phase_here at))

  finds : is_held (a.world.word a.frame.lock).locked ≡ false
      → Kept a (lead_on a.world a.by a.frame (Goes U3 [])) Nothing
  finds other =
      let m = a.world in
      let l = a.frame.lock in
      let g : Frame = record a.frame { place = Some U3 } in
      let t : Turn m (m) a.by a.frame g (m.held a.by l) = same_turn at.live refl in
      let owed : (p : ℕ) → Owed (snapshot m) p → Owed
      (snapshot (turned (m) a.by g l (m.held a.by l))) p =
      hm_owed at t (λ k e. cc e) (λ p. refl) in
      let held = held_so at (phase_here at) in
      hm_kept at t (λ e. cc e) at.sound.plain
      (fit_halting at at.kind g U3 refl refl refl refl (λ e. cc) (λ e. cc) (λ e. cc) (λ e. cc)
      (λ e. cc)) Nothing
      (law_U2_find at.sound.agrees at.kind (λ u. owed u.cpu) (hm_step at t refl held held owed)
      (hm_stays at t refl refl (λ p. refl)) (λ k. refl)
      (not_held_slow at.sound.agrees l a.by (phase_shown at ∙ phase_here at)
      (λ q. let z = ap is_held q in grind (arith, z, other))) (hm_posts at t) refl)
      tt

pub release_swap_free_keeps : SpinRowKeeps U2
release_swap_free_keeps =
    row_keeps_halting U2 refl (λ a at goes.
    let x = a.world.word a.frame.lock in
    if_cases (WordKept a) (is_held x.locked)
    (record {
      stores = Some (with_byte x Free);
      leads = Freed;
      tells = Says (what.Release a.frame.lock None);
      counts = [];
    }) (looks U3) (frees at)
    (finds at))

-- U3

module _ {a : Acting} (at : StandsIn true a U3) where
  seeks_out : Kept a
      (lead_on (put_entry a.world a.frame.lock (None)) a.by a.frame
      (Goes U4 (TargetIs (a.world.entry a.frame.lock) ∷ []))) Nothing
  seeks_out =
      let m = a.world in
      let l = a.frame.lock in
      let g : Frame = record a.frame { target = a.world.entry a.frame.lock; place = Some U4 } in
      let t : Turn m (put_entry m l (None)) a.by a.frame g (m.held a.by l) =
      entry_turn at.live refl (None) in
      let owed : (p : ℕ) → Owed (snapshot m) p → Owed
      (snapshot (turned (put_entry m l (None)) a.by g l (m.held a.by l))) p =
      hm_owed at t (λ k e. cc e) (λ p. refl) in
      let held = held_so at (phase_here at) in
      hm_kept at t (λ e. cc e) (halting_plain _ at.kind (flags_here at) at.sound.plain.runs)
      (fit_halting at at.kind g U4 refl refl refl refl (λ e. cc) (λ e. cc) (λ e. cc) (λ e. cc)
      (λ e. cc)) Nothing
      (law_U3 at.sound.agrees at.kind (λ u. owed u.cpu) (hm_step at t refl held held owed)
      (hm_stays at t refl refl (λ p. refl)) (λ k. refl)
      (some_is (m.entry l) (finds_some at.sound.agrees at.kind l a.by (post_here at)))
      (hm_posts at t) (put_word-here m.entry l None))
      tt

pub release_find_target_keeps : SpinRowKeeps U3
release_find_target_keeps = row_keeps_halting U3 refl (λ a at goes. seeks_out at)

-- U4

module _ {a : Acting} (at : StandsIn true a U4) where
  yields : Kept a
      (lead_on (put_word a.world a.frame.lock (with_byte (a.world.word a.frame.lock) Free)) a.by
      a.frame (Yields U5 [])) (Says (what.Release a.frame.lock (Some (node_of a.frame.target).cpu)))
  yields =
      let m = a.world in
      let l = a.frame.lock in
      let g : Frame = record a.frame { place = Some U5 } in
      let t : Turn m (put_word m l (with_byte (m.word l) Free)) a.by a.frame g None =
      word_turn at.live refl (with_byte (m.word l) Free) in
      let owed : (p : ℕ) → Owed (snapshot m) p → Owed
      (snapshot (turned (put_word m l (with_byte (m.word l) Free)) a.by g l None)) p =
      hm_owed at t (λ k e. cc e) (λ p. refl) in
      let held = held_so at (phase_here at) in
      hm_kept at t (λ e. cc e) (halting_plain _ at.kind (flags_here at) at.sound.plain.runs)
      (fit_halting at at.kind g U5 refl refl refl refl (λ e. cc) (λ e. cc) (λ e. cc) (λ e. cc)
      (λ e. cc)) (Says (what.Release l (Some (node_of a.frame.target).cpu)))
      (law_U4 at.sound.agrees at.kind (λ u. owed u.cpu)
      (hm_step at t (put_word-here m.word l (with_byte (m.word l) Free)) held refl owed)
      (hm_stays at t refl refl (λ p. refl)) (λ k. refl) (hm_posts at t) refl)
      (allow_drop a.rules at.sound.agrees a.by l (Some (node_of a.frame.target).cpu)
      (phase_shown at ∙ phase_here at))

pub release_store_free_keeps : SpinRowKeeps U4
release_store_free_keeps = row_keeps_halting U4 refl (λ a at goes. yields at)

-- U5

module _ {a : Acting} (at : StandsIn true a U5) where
  -- the kick that it owed is remembered, and the others are owed still
  owes_on : (m' : World) {g : Frame} → Moves a.world.frame m'.frame a.by (Some a.frame) (Some g)
      → (p : ℕ) → Owed (snapshot a.world) p
      → ((m'.kicked p) ≡ (if p == (node_of a.frame.target).cpu then true else a.world.kicked p))
      → Owed (snapshot m') p
  owes_on m' moves p (inl k) e =
      inl (e ∙ kept_true (p == (node_of a.frame.target).cpu) (a.world.kicked p) k)
  owes_on m' moves p (inr o) e =
      elim (waiter_cases o.1 a.by) [
        | inl q ↦
            let mine = post_on-kicks o.0 a.frame o.2
            (sym (ap (post_on o.0) moves.was)
            ∙ ap (λ (v : Waiter). post_on o.0 (a.world.frame v)) (sym q) ∙ o.3) in
            let same : node_of a.frame.target ≡ o.2 =
            let z : Kicks (node_of a.frame.target) ≡ Kicks o.2 = sym (post_mine at) ∙ mine in
            grind (arith, z) in
            inl (e ∙ if-true (p == (node_of a.frame.target).cpu) true (a.world.kicked p)
            (let z = ap (λ (n : NodeName). n.cpu) same in let k = o.4 in grind (arith, z, k)))
        | inr ne ↦ inr (o.0, o.1, o.2, ap (post_on o.0) (moves.others o.1 ne) ∙ o.3, o.4)
      ]

  kicks : Kept a
      (lead_on (put_kicked a.world (node_of a.frame.target).cpu true) a.by a.frame (Freed))
      (Says (what.Kick (node_of a.frame.target).cpu))
  kicks =
      let m = a.world in
      let l = a.frame.lock in
      let g : Frame = led a.frame Freed in
      let t : Turn m (put_kicked m (node_of a.frame.target).cpu true) a.by a.frame g None =
      record {
        live = at.live;
        frames = refl;
        holds = refl;
        mode = refl;
        turns = refl;
        threshold = refl;
        format = refl;
        sockets = refl;
        entries = λ k ne. refl;
        halted = λ p h. inl h;
        lock = refl;
        words = λ k ne. refl;
      } in
      let owed : (p : ℕ) → Owed (snapshot m) p → Owed
      (snapshot (turned (put_kicked m (node_of a.frame.target).cpu true) a.by g l None)) p =
      (λ p o. owes_on (turned (put_kicked m (node_of a.frame.target).cpu true) a.by g l None)
      (turn_moves t) p o refl) in
      let held = held_not at (ap seeks (phase_here at)) in
      hm_kept at t (λ e. cc e) (halting_plain _ at.kind (flags_here at) at.sound.plain.runs)
      (fit_placeless g refl ((fit_here at).bare (ap has_node (phase_here at))))
      (Says (what.Kick (node_of a.frame.target).cpu))
      (law_kicks a.by (node_of a.frame.target).cpu
      (law_U5 at.sound.agrees at.kind (λ u. owed u.cpu)
      (hm_step_as at t (phase_here at) (placeless_phase g refl) refl held refl owed)
      (hm_stays at t refl refl (λ p. refl)) (λ k. refl) (hm_posts at t) refl))
      (λ k e. cc e)

pub release_kick_keeps : SpinRowKeeps U5
release_kick_keeps = row_keeps_halting U5 refl (λ a at goes. kicks at)
