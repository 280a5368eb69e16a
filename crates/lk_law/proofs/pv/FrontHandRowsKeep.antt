-- The rows of a front of the paravirtual lock that has taken it and hands the lead on keep every
-- sound world: E13 to E15.
use Rattle.std.proofs.Common.{◌≡◌, ℕ, Option, Some, None, true, [], ◌∷◌, ap, ◌-◌, refl, sym, ◌∙◌}
use Rattle.std.proofs.Common.{slice_get, ◌&&◌, not}
use Rattle.lk_law.proofs.Names.{Fields, NodeName, Spins, Waiter, is_node, node_of, Goes, Leaves}
use Rattle.lk_law.proofs.Names.{Nothing, Passes, Says, Y, looks, Frame, E13, E14, E15, K1, is_held}
use Rattle.lk_law.proofs.Names.{is_last, pv_after_next, Owed, seeks, Hands, Holds, Idle, snapshot}
use Rattle.lk_law.proofs.Names.{Uses, SpinRowKeeps, lead_on, led, put_node, put_queued, put_word}
use Rattle.lk_law.proofs.Names.{stores_next}
use Rattle.lk_law.proofs.common.Acting.{Acting, StandsIn, Kept, row_keeps_halting, fit_here}
use Rattle.lk_law.proofs.common.Acting.{phase_here, phase_shown, own_here, held_not, left_place}
use Rattle.lk_law.proofs.common.Acting.{quiet_phase, quiet_off}
use Rattle.lk_law.proofs.{common.Allowed.{allow_pass, next_is}, common.Choices.fit_quiet}
use Rattle.lk_law.proofs.common.Puts.{if_cases, put_word-here, put_rewrites, put_moves}
use Rattle.lk_law.proofs.common.TurnSteps.{node_plain}
use Rattle.lk_law.proofs.common.Turns.{Turn, turned, same_turn, word_turn, node_turn}
use Rattle.lk_law.proofs.common.Users.{is_node-true, used_noded, used_own}
use Rattle.lk_law.proofs.pv.Acting.{fit_halting, halting_plain, hm_posts, hm_owed, hm_step}
use Rattle.lk_law.proofs.pv.Acting.{hm_step_as, hm_stays, hm_kept, hm_same, off_turn, off_leaves}
use Rattle.lk_law.proofs.{pv.Acting.flags_here, pv.Allowed.allow_leave}
use Rattle.lk_law.proofs.{pv.EndLaws.{law_E13, law_E14, law_E15}, pv.Laws.{para_queue, halts_flat}}
use Rattle.lk_law.proofs.{queue.ArriveRowsKeep.both-true, queue.Laws.apart_on}
use Rattle.lk_law.proofs.{queue.Sole.sole_second, spin.RowsKeep.WordKept}
use Rattle.lk_names.specs.declared.events.What.TheVariants as what
use Rattle.lk_rows.specs.declared.parts.Flag.TheVariants as flag

-- E13

last_tail : (x : Fields) (f : Frame) → is_last f x ≡ true → is_node x.tail (node_of f.me) ≡ true
last_tail x f h =
    (both-true (is_held x.locked && not x.pending) (is_node x.tail (node_of f.me)) h).1

module _ {a : Acting} (at : StandsIn true a E13) where
  tail_own : is_last a.frame (a.world.word a.frame.lock) ≡ true
      → (a.world.word a.frame.lock).tail ≡ Some ((snapshot a.world).own a.by)
  tail_own last =
      is_node-true (a.world.word a.frame.lock).tail (node_of a.frame.me)
      (last_tail (a.world.word a.frame.lock) a.frame last) ∙ ap Some (sym (own_here at))

  -- nobody stands behind it
  alone_in : is_last a.frame (a.world.word a.frame.lock) ≡ true
      → slice_get (a.histories a.frame.lock).main 1 ≡ None
  alone_in last =
      let s = snapshot a.world in
      let l = a.frame.lock in
      let holds : s.phase l a.by ≡ Holds = phase_shown at ∙ phase_here at in
      sole_second (para_queue at.sound.agrees at.kind l)
      (put_moves (s.phase l) a.by Holds Idle holds) refl (λ u ne. refl) (tail_own last)
      (apart_on at.sound.agrees.nodes l)

  leaves_alone : is_last a.frame (a.world.word a.frame.lock) ≡ true
      → Kept a (lead_on
      (put_word a.world a.frame.lock (record (a.world.word a.frame.lock) { tail = None })) a.by
      a.frame Leaves) (Says (what.Leave a.frame.lock))
  leaves_alone last =
      let m = a.world in
      let l = a.frame.lock in
      let g : Frame = led a.frame Leaves in
      let t : Turn m (put_word m l (record (m.word l) { tail = None })) a.by a.frame g
      (Some Spins) = word_turn at.live refl (record (m.word l) { tail = None }) in
      let o = off_turn at t in
      let owed : (p : ℕ) → Owed (snapshot m) p → Owed
      (snapshot (turned
      (put_queued (put_word m l (record (m.word l) { tail = None })) a.by.cpu
      (m.queued a.by.cpu - 1)) a.by g l (Some Spins))) p =
      hm_owed at o (λ k e. cc e) (λ p. refl) in
      let held = held_not at (ap seeks (phase_here at)) in
      hm_kept at o (λ e. cc e) (halting_plain _ at.kind (flags_here at) at.sound.plain.runs)
      (fit_quiet g (left_place at) refl) (Says (what.Leave l))
      (law_E13 at.sound.agrees at.kind (λ u. owed u.cpu)
      (hm_step_as at o (phase_here at) (quiet_phase g (left_place at))
      (put_word-here m.word l (record (m.word l) { tail = None })) held refl owed)
      (off_leaves at t refl (left_place at).fast (λ p. refl)) (λ k. refl) (tail_own last)
      (alone_in last)
      (record {
        was = (hm_posts at o).was;
        now = (hm_posts at o).now ∙ quiet_off g (left_place at);
        others = (hm_posts at o).others;
      }) refl)
      (allow_leave a.rules at.sound.agrees a.by l (phase_shown at ∙ phase_here at))

  stays_on : Kept a (lead_on a.world a.by a.frame (Goes E14 [])) Nothing
  stays_on =
      let m = a.world in
      let l = a.frame.lock in
      let g : Frame = record a.frame { place = Some E14 } in
      let t : Turn m (m) a.by a.frame g (m.held a.by l) = same_turn at.live refl in
      let owed : (p : ℕ) → Owed (snapshot m) p → Owed
      (snapshot (turned (m) a.by g l (m.held a.by l))) p =
      hm_owed at t (λ k e. cc e) (λ p. refl) in
      hm_kept at t (λ e. cc e) at.sound.plain
      (fit_halting at at.kind g E14 refl refl refl refl (λ e. cc) (λ e. cc) (λ e. cc) (λ e. cc)
      (λ e. cc)) Nothing
      (hm_same at refl t refl refl refl refl refl refl refl refl refl (λ p. refl) (λ p. refl)
      (λ k e. cc e))
      tt

pub front_leave_queue_keeps : SpinRowKeeps E13
front_leave_queue_keeps =
    row_keeps_halting E13 refl (λ a at goes.
    let x = a.world.word a.frame.lock in
    if_cases (WordKept a) (is_last a.frame x)
    (record {
      stores = Some (record x { tail = None });
      leads = Leaves;
      tells = Says (what.Leave a.frame.lock);
      counts = [];
    }) (looks E14) (leaves_alone at)
    (λ e. stays_on at))

-- E14

module _ {a : Acting} (at : StandsIn true a E14) where
  waits_on : Kept a (lead_on a.world a.by a.frame (Goes E14 [])) Nothing
  waits_on =
      let m = a.world in
      let l = a.frame.lock in
      let g : Frame = record a.frame { place = Some E14 } in
      let t : Turn m (m) a.by a.frame g (m.held a.by l) = same_turn at.live refl in
      let owed : (p : ℕ) → Owed (snapshot m) p → Owed
      (snapshot (turned (m) a.by g l (m.held a.by l))) p =
      hm_owed at t (λ k e. cc e) (λ p. refl) in
      hm_kept at t (λ e. cc e) at.sound.plain
      (fit_halting at at.kind g E14 refl refl refl refl (λ e. cc) (λ e. cc) (λ e. cc) (λ e. cc)
      (λ e. cc)) Nothing
      (hm_same at refl t refl refl refl refl refl refl refl refl refl (λ p. refl) (λ p. refl)
      (λ k e. cc e))
      tt

  learns_next : (n : NodeName) → (a.world.node (node_of a.frame.me)).next ≡ Some n
      → Kept a (lead_on a.world a.by a.frame (Goes E15 (Y (Some n) ∷ []))) Nothing
  learns_next n met =
      let m = a.world in
      let l = a.frame.lock in
      let g : Frame = record a.frame { y = Some n; place = Some E15 } in
      let t : Turn m (m) a.by a.frame g (m.held a.by l) = same_turn at.live refl in
      let owed : (p : ℕ) → Owed (snapshot m) p → Owed
      (snapshot (turned (m) a.by g l (m.held a.by l))) p =
      hm_owed at t (λ k e. cc e) (λ p. refl) in
      let held = held_not at (ap seeks (phase_here at)) in
      hm_kept at t (λ e. cc e) at.sound.plain
      (fit_halting at at.kind g E15 refl refl refl refl (λ e. cc) (λ q. refl) (λ e. cc)
      (λ e. cc) (λ e. cc)) Nothing
      (law_E14 at.sound.agrees at.kind (λ u. owed u.cpu) (hm_step at t refl held held owed)
      (hm_stays at t refl refl (λ p. refl)) (λ k. refl)
      (ap (λ (k : NodeName). (m.node k).next) (own_here at) ∙ met) (hm_posts at t) refl)
      tt

  next_kept : (x : Option NodeName) → (a.world.node (node_of a.frame.me)).next ≡ x
      → Kept a (lead_on (stores_next a.world (node_of a.frame.me) (pv_after_next x).stores) a.by
      a.frame (pv_after_next x).leads) (pv_after_next x).tells
  next_kept None e = waits_on
  next_kept (Some n) e = learns_next n e

pub front_wait_for_next_keeps : SpinRowKeeps E14
front_wait_for_next_keeps =
    row_keeps_halting E14 refl (λ a at goes.
    next_kept at (a.world.node (node_of a.frame.me)).next refl)

-- E15

module _ {a : Acting} (at : StandsIn true a E15) where
  abbrev next : NodeName
  next = node_of a.frame.y

  hands : (snapshot a.world).phase a.frame.lock a.by ≡ Hands next
  hands = phase_shown at ∙ phase_here at

  -- a waiter that uses the node is the second of the queue
  second_of : (u : Waiter) → Uses a.world u next
      → slice_get (a.histories a.frame.lock).main 1 ≡ Some u
  second_of u uses =
      next_is at.sound.agrees a.by a.frame.lock next (halts_flat a.world.mode at.kind) hands
      uses.0.lock u (used_noded at.sound u next uses) (used_own at.sound u next uses)

  hands_on : Uses a.world a.to (node_of a.frame.y)
      → Kept a (lead_on
      (put_node a.world (node_of a.frame.y)
      (record (a.world.node (node_of a.frame.y)) { flag = flag.Go })) a.by a.frame (Goes K1 []))
      (Passes (node_of a.frame.y) 0)
  hands_on uses =
      let m = a.world in
      let l = a.frame.lock in
      let g : Frame = record a.frame { place = Some K1 } in
      let t : Turn m
      (put_node m (node_of a.frame.y) (record (m.node (node_of a.frame.y)) { flag = flag.Go }))
      a.by a.frame g (m.held a.by l) =
      node_turn at.live refl (node_of a.frame.y)
      (record (m.node (node_of a.frame.y)) { flag = flag.Go }) in
      let owed : (p : ℕ) → Owed (snapshot m) p → Owed
      (snapshot (turned
      (put_node m (node_of a.frame.y) (record (m.node (node_of a.frame.y)) { flag = flag.Go }))
      a.by g l (m.held a.by l))) p = hm_owed at t (λ k e. cc e) (λ p. refl) in
      let held = held_not at (ap seeks (phase_here at)) in
      hm_kept at t (λ e. cc e)
      (node_plain m (node_of a.frame.y) (record (m.node (node_of a.frame.y)) { flag = flag.Go })
      at.sound.plain (at.sound.plain.runs (node_of a.frame.y)) (λ flat k q. cc q))
      (fit_halting at at.kind g K1 refl refl refl refl (λ e. cc)
      (λ q. (fit_here at).choice.named E15 at.place refl) (λ e. cc) (λ e. cc) (λ e. cc))
      (Passes (node_of a.frame.y) 0)
      (law_E15 at.sound.agrees at.kind (λ u. owed u.cpu) a.to (hm_step at t refl held held owed)
      (hm_stays at t refl refl (λ p. refl))
      (put_rewrites m.node (node_of a.frame.y)
      (record (m.node (node_of a.frame.y)) { flag = flag.Go })) refl (hm_posts at t) refl)
      (allow_pass a.rules at.sound.agrees a.by l (node_of a.frame.y) a.to hands
      (second_of a.to uses))

pub front_hand_on_keeps : SpinRowKeeps E15
front_hand_on_keeps = row_keeps_halting E15 refl (λ a at goes. hands_on at goes)
