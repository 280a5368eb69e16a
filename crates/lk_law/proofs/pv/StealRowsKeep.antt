-- The rows of a steal of the paravirtual lock keep every sound world: H1 and H2.
use Rattle.std.proofs.Common.{◌≡◌, ℕ, Option, Some, None, true, [], ◌∷◌, ap, ◌-◌, refl, sym, ◌∙◌}
use Rattle.std.proofs.Common.{if◌then◌else◌, is_some, ◌&&◌, not}
use Rattle.lk_law.proofs.Names.{Held, NodeName, Spins, Goes, Leaves, Nothing, Says, looks, Frame}
use Rattle.lk_law.proofs.Names.{Pc, G4, H1, H2, with_byte, is_unlocked, Owed, has_node, queues}
use Rattle.lk_law.proofs.Names.{seeks, Prepared, Seeks, snapshot, SpinRowKeeps, lead_on, led}
use Rattle.lk_law.proofs.Names.{put_queued, put_word}
use Rattle.lk_rows.specs.{Row.{Tailed, PvLockStealing}, rows.Pv.after_given_up}
use Rattle.lk_law.proofs.common.Acting.{Acting, StandsIn, Kept, row_keeps_halting, fit_here}
use Rattle.lk_law.proofs.common.Acting.{phase_here, phase_shown, held_not, left_place, quiet_phase}
use Rattle.lk_law.proofs.{common.Acting.quiet_off, common.Choices.{unchosen, fit_goes, fit_quiet}}
use Rattle.lk_law.proofs.common.Puts.{if_cases, put_word-here}
use Rattle.lk_law.proofs.common.Turns.{Turn, turned, same_turn, word_turn}
use Rattle.lk_law.proofs.pv.Acting.{fit_halting, halting_plain, post_here, hm_posts, hm_owed}
use Rattle.lk_law.proofs.pv.Acting.{hm_step_as, hm_kept, hm_same, off_turn, off_leaves, flags_here}
use Rattle.lk_law.proofs.{pv.Allowed.allow_steal, pv.EndLaws.law_H2}
use Rattle.lk_law.proofs.pv.HolderRowsKeep.{outside_if, seeks_if, way_if}
use Rattle.lk_law.proofs.spin.RowsKeep.{WordKept, unlocked_free}
use Rattle.lk_names.specs.declared.events.How.TheVariants as how
use Rattle.lk_names.specs.declared.events.What.TheVariants as what

-- H1

module _ {a : Acting} (at : StandsIn true a H1) where
  may_steal_H1 : Kept a
      (lead_on a.world a.by a.frame
      (Goes H2 (Tailed (is_some (a.world.word a.frame.lock).tail) ∷ []))) Nothing
  may_steal_H1 =
      let m = a.world in
      let l = a.frame.lock in
      let g : Frame =
      record a.frame { tailed = is_some (a.world.word a.frame.lock).tail; place = Some H2 } in
      let t : Turn m (m) a.by a.frame g (m.held a.by l) = same_turn at.live refl in
      let owed : (p : ℕ) → Owed (snapshot m) p → Owed
      (snapshot (turned (m) a.by g l (m.held a.by l))) p =
      hm_owed at t (λ k e. cc e) (λ p. refl) in
      hm_kept at t (λ e. cc e) at.sound.plain
      (fit_halting at at.kind g H2 refl refl refl refl (λ e. cc) (λ e. cc) (λ e. cc) (λ e. cc)
      (λ q. (fit_here at).choice.unaware H1 at.place refl)) Nothing
      (hm_same at refl t refl refl refl refl refl refl refl refl refl (λ p. refl) (λ p. refl)
      (λ k e. cc e))
      tt

  looks_again_H1 : Kept a
      (lead_on a.world a.by a.frame
      (Goes H1 (Tailed (is_some (a.world.word a.frame.lock).tail) ∷ []))) Nothing
  looks_again_H1 =
      let m = a.world in
      let l = a.frame.lock in
      let g : Frame =
      record a.frame { tailed = is_some (a.world.word a.frame.lock).tail; place = Some H1 } in
      let t : Turn m (m) a.by a.frame g (m.held a.by l) = same_turn at.live refl in
      let owed : (p : ℕ) → Owed (snapshot m) p → Owed
      (snapshot (turned (m) a.by g l (m.held a.by l))) p =
      hm_owed at t (λ k e. cc e) (λ p. refl) in
      hm_kept at t (λ e. cc e) at.sound.plain
      (fit_halting at at.kind g H1 refl refl refl refl (λ e. cc) (λ e. cc) (λ e. cc) (λ e. cc)
      (λ q. (fit_here at).choice.unaware H1 at.place refl)) Nothing
      (hm_same at refl t refl refl refl refl refl refl refl refl refl (λ p. refl) (λ p. refl)
      (λ k e. cc e))
      tt

  joins_H1 : (n : NodeName) → a.frame.me ≡ Some n
      → Kept a (lead_on a.world a.by a.frame
      (Goes G4 (Tailed (is_some (a.world.word a.frame.lock).tail) ∷ []))) Nothing
  joins_H1 n mine =
      let m = a.world in
      let l = a.frame.lock in
      let g : Frame =
      record a.frame { tailed = is_some (a.world.word a.frame.lock).tail; place = Some G4 } in
      let t : Turn m m a.by a.frame g (m.held a.by l) = same_turn at.live refl in
      hm_kept at t (λ e. cc e) at.sound.plain
      (fit_goes a.frame g (fit_here at) refl
      (sym (ap has_node (phase_here at)
      ∙ ap (λ (o : Option NodeName). has_node (if is_some o then Prepared else Seeks)) mine))
      (λ e. cc e) (λ e. cc e)
      (unchosen g G4 refl refl (λ q. cc) (λ q. cc) (λ q. cc) (λ q. cc) (λ q. cc) (λ q. cc)
      (λ q. (fit_here at).choice.unaware H1 at.place refl) (λ q. cc))) Nothing
      (hm_same at refl t
      (sym (ap (λ (o : Option NodeName). if is_some o then Prepared else Seeks) mine)) refl refl
      refl refl refl refl refl refl (λ p. refl) (λ p. refl) (λ k e. cc e)) tt

  gives_up_H1 : (me : Option NodeName) → a.frame.me ≡ me
      → Kept a (lead_on a.world a.by a.frame
      (Goes (after_given_up me) (Tailed (is_some (a.world.word a.frame.lock).tail) ∷ [])))
      Nothing
  gives_up_H1 None e = looks_again_H1
  gives_up_H1 (Some n) e = joins_H1 n e

pub steal_glance_keeps : SpinRowKeeps H1
steal_glance_keeps =
    row_keeps_halting H1 refl (λ a at goes.
    let x = a.world.word a.frame.lock in
    let P : Pc → Type 0 = λ d.
    Kept a (lead_on a.world a.by a.frame (Goes d (Tailed (is_some x.tail) ∷ []))) Nothing in
    if_cases P (is_unlocked x.locked && not x.pending) H2
    (if is_some x.tail && not x.pending then H1 else after_given_up a.frame.me)
    (λ e. may_steal_H1 at)
    (λ e. if_cases P (is_some x.tail && not x.pending) H1 (after_given_up a.frame.me)
    (λ z. looks_again_H1 at) (λ z. gives_up_H1 at a.frame.me refl)))

-- H2

module _ {a : Acting} (at : StandsIn true a H2) where
  looks_again_H2 : Kept a (lead_on a.world a.by a.frame (Goes H1 [])) Nothing
  looks_again_H2 =
      let m = a.world in
      let l = a.frame.lock in
      let g : Frame = record a.frame { place = Some H1 } in
      let t : Turn m (m) a.by a.frame g (m.held a.by l) = same_turn at.live refl in
      let owed : (p : ℕ) → Owed (snapshot m) p → Owed
      (snapshot (turned (m) a.by g l (m.held a.by l))) p =
      hm_owed at t (λ k e. cc e) (λ p. refl) in
      hm_kept at t (λ e. cc e) at.sound.plain
      (fit_halting at at.kind g H1 refl refl refl refl (λ e. cc) (λ e. cc) (λ e. cc) (λ e. cc)
      (λ q. (fit_here at).choice.unaware H2 at.place refl)) Nothing
      (hm_same at refl t refl refl refl refl refl refl refl refl refl (λ p. refl) (λ p. refl)
      (λ k e. cc e))
      tt

  joins_H2 : (n : NodeName) → a.frame.me ≡ Some n
      → Kept a (lead_on a.world a.by a.frame (Goes G4 [])) Nothing
  joins_H2 n mine =
      let m = a.world in
      let l = a.frame.lock in
      let g : Frame = record a.frame { place = Some G4 } in
      let t : Turn m m a.by a.frame g (m.held a.by l) = same_turn at.live refl in
      hm_kept at t (λ e. cc e) at.sound.plain
      (fit_goes a.frame g (fit_here at) refl
      (sym (ap has_node (phase_here at)
      ∙ ap (λ (o : Option NodeName). has_node (if is_some o then Prepared else Seeks)) mine))
      (λ e. cc e) (λ e. cc e)
      (unchosen g G4 refl refl (λ q. cc) (λ q. cc) (λ q. cc) (λ q. cc) (λ q. cc) (λ q. cc)
      (λ q. (fit_here at).choice.unaware H2 at.place refl) (λ q. cc))) Nothing
      (hm_same at refl t
      (sym (ap (λ (o : Option NodeName). if is_some o then Prepared else Seeks) mine)) refl refl
      refl refl refl refl refl refl (λ p. refl) (λ p. refl) (λ k e. cc e)) tt

  gives_up_H2 : (me : Option NodeName) → a.frame.me ≡ me
      → Kept a (lead_on a.world a.by a.frame (Goes (after_given_up me) [])) Nothing
  gives_up_H2 None e = looks_again_H2
  gives_up_H2 (Some n) e = joins_H2 n e

  steals : is_unlocked (a.world.word a.frame.lock).locked ≡ true
      → Kept a (lead_on (put_word a.world a.frame.lock (with_byte (a.world.word a.frame.lock) Held))
      a.by a.frame Leaves) (Says (what.Take a.frame.lock how.Steal))
  steals free =
      let m = a.world in
      let l = a.frame.lock in
      let g : Frame = led a.frame Leaves in
      let t : Turn m (put_word m l (with_byte (m.word l) Held)) a.by a.frame g (Some Spins) =
      word_turn at.live refl (with_byte (m.word l) Held) in
      let o = off_turn at t in
      let owed : (p : ℕ) → Owed (snapshot m) p → Owed
      (snapshot (turned
      (put_queued (put_word m l (with_byte (m.word l) Held)) a.by.cpu (m.queued a.by.cpu - 1))
      a.by g l (Some Spins))) p = hm_owed at o (λ k e. cc e) (λ p. refl) in
      let held = held_not at (ap seeks (phase_here at) ∙ seeks_if (is_some a.frame.me)) in
      hm_kept at o (λ e. cc e) (halting_plain _ at.kind (flags_here at) at.sound.plain.runs)
      (fit_quiet g (left_place at) refl) (Says (what.Take l how.Steal))
      (law_H2 at.sound.agrees at.kind
      (hm_step_as at o (phase_here at) (quiet_phase g (left_place at))
      (put_word-here m.word l (with_byte (m.word l) Held)) held refl owed)
      (off_leaves at t refl (left_place at).fast (λ p. refl)) (λ k. refl)
      (way_if (is_some a.frame.me))
      (unlocked_free (m.word l).locked free)
      (record {
        was = post_here at;
        now = (hm_posts at o).now ∙ quiet_off g (left_place at);
        entry = refl;
        kicked = λ p. refl;
      }))
      (allow_steal a.rules at.sound.agrees a.by l
      (ap queues (phase_shown at ∙ phase_here at) ∙ outside_if (is_some a.frame.me))
      (unlocked_free (m.word l).locked free))

pub steal_keeps : SpinRowKeeps H2
steal_keeps =
    row_keeps_halting H2 refl (λ a at goes.
    let x = a.world.word a.frame.lock in
    if_cases (WordKept a) (is_unlocked x.locked)
    (record {
      stores = Some (with_byte x Held);
      leads = Leaves;
      tells = Says (what.Take a.frame.lock how.Steal);
      counts = PvLockStealing ∷ [];
    })
    (looks (if a.frame.tailed then H1 else after_given_up a.frame.me)) (steals at)
    (λ e. if_cases (λ (d : Pc). WordKept a (looks d)) a.frame.tailed H1 (after_given_up a.frame.me)
    (λ z. looks_again_H2 at) (λ z. gives_up_H2 at a.frame.me refl)))
