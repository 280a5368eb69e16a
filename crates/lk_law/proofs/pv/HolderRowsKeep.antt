-- The rows of a holder of the paravirtual lock that looks after the next keep every sound world: K1
-- to K3.
use Rattle.std.proofs.Common.{◌≡◌, ◌⊎◌, inl, inr, ℕ, Some, None, Bool, true, false, [], arith, ap}
use Rattle.std.proofs.Common.{◌-◌, refl, sym, ◌∙◌, subst, slice_get, if◌then◌else◌, ◌||◌}
use Rattle.lk_law.proofs.Names.{Locked, Free, Held, Slow, NodeName, LockHistory, told, Spins}
use Rattle.lk_law.proofs.Names.{LockName, Waiter, node_of, Effect, Goes, Leaves, Nothing, writes}
use Rattle.lk_law.proofs.Names.{Flag, Frame, K1, K2, K3, State, Hashed, is_held, is_halted}
use Rattle.lk_law.proofs.Names.{with_byte, Owed, SnapshotAgrees, Phase, leads, queues, seeks}
use Rattle.lk_law.proofs.Names.{Prepared, Seeks, snapshot, Post, agrees, fronts, names, Rewrites}
use Rattle.lk_law.proofs.Names.{Snapshot, SpinRowKeeps, lead_on, led, put_entry, put_node}
use Rattle.lk_law.proofs.Names.{put_queued, put_word, stores_state}
use Rattle.lk_law.proofs.common.Acting.{Acting, StandsIn, Kept, row_keeps_halting, fit_here}
use Rattle.lk_law.proofs.common.Acting.{phase_here, held_not, left_place, quiet_phase, quiet_off}
use Rattle.lk_law.proofs.common.Choices.{fit_quiet}
use Rattle.lk_law.proofs.common.Puts.{if_cases, put_word-here, put_rewrites}
use Rattle.lk_law.proofs.common.TurnSteps.{node_plain}
use Rattle.lk_law.proofs.{common.Turns.{Turn, turned, same_turn, word_turn}, common.Users.some_is}
use Rattle.lk_law.proofs.pv.Acting.{fit_halting, halting_plain, post_here, hm_posts, hm_owed}
use Rattle.lk_law.proofs.pv.Acting.{hm_step, hm_step_as, hm_stays, hm_kept, off_turn, off_leaves}
use Rattle.lk_law.proofs.pv.Acting.{flags_here, state_turn, entry_turn}
use Rattle.lk_law.proofs.pv.EndLaws.{law_K1_hash, law_K1_done, law_K2, law_K3}
use Rattle.lk_law.proofs.{pv.Laws.{para, para_queue}, pv.Turn.follows_post}
use Rattle.lk_law.proofs.pv.WaitRowsKeep.{halted_is, halted_not}
use Rattle.lk_names.specs.declared.events.What.TheVariants as what

either : (a b : Bool) → (a || b) ≡ true → (a ≡ true) ⊎ (b ≡ true)
either true b h = inl refl
either false b h = inr h

-- who leads the queue waits, its flag set, or is its front
leading : (p : Post) (r : Phase) (x : Flag) → agrees p r ≡ true → leads r x ≡ true
    → (follows_post p || fronts p) ≡ true
leading p r x h k = grind arith

pub held_is : (b : Locked) → is_held b ≡ true → b ≡ Held
held_is Held h = refl
held_is Free h = cc h
held_is Slow h = cc h

-- a kick changes no lock's history
pub law_kicks : {s : Snapshot} {hs : LockName → LockHistory} (w : Waiter) (p : ℕ)
    → SnapshotAgrees s hs
    → SnapshotAgrees s (λ k. told k (hs k) (record { by = w; what = what.Kick p }))
law_kicks w p ok = ok

pub way_if : (b : Bool)
    → ((if b then Prepared else Seeks) ≡ Prepared) ⊎ ((if b then Prepared else Seeks) ≡ Seeks)
way_if true = inl refl
way_if false = inr refl

pub seeks_if : (b : Bool) → seeks (if b then Prepared else Seeks) ≡ true
seeks_if true = refl
seeks_if false = refl

pub outside_if : (b : Bool) → queues (if b then Prepared else Seeks) ≡ false
outside_if true = refl
outside_if false = refl

-- K1

module _ {a : Acting} (at : StandsIn true a K1) where
  abbrev next : NodeName
  next = node_of a.frame.y

  -- the waiter whose node it is leads the queue now
  next_is : (z : Waiter) × (slice_get (a.histories a.frame.lock).main 0 ≡ Some z)
      × ((snapshot a.world).own z ≡ next)
  next_is =
      (para at.sound.agrees at.kind a.frame.lock).posts.named a.by next (ap names (post_here at))

  next_way : (z : Waiter) → slice_get (a.histories a.frame.lock).main 0 ≡ Some z
      → (follows_post ((snapshot a.world).post a.frame.lock z) ≡ true)
      ⊎ (fronts ((snapshot a.world).post a.frame.lock z) ≡ true)
  next_way z first =
      let s = snapshot a.world in
      let l = a.frame.lock in
      either (follows_post (s.post l z)) (fronts (s.post l z))
      (leading (s.post l z) (s.phase l z) (s.node (s.own z)).flag
      ((para at.sound.agrees at.kind l).suits z)
      ((para_queue at.sound.agrees at.kind l).ends.first z first))

  marks_next : is_halted (a.world.node (node_of a.frame.y)).state ≡ true
      → Kept a (lead_on
      (put_node a.world (node_of a.frame.y)
      (record (a.world.node (node_of a.frame.y)) { state = Hashed })) a.by a.frame (Goes K2 []))
      Nothing
  marks_next halted =
      let m = a.world in
      let l = a.frame.lock in
      let g : Frame = record a.frame { place = Some K2 } in
      let t : Turn m
      (put_node m (node_of a.frame.y) (record (m.node (node_of a.frame.y)) { state = Hashed }))
      a.by a.frame g (m.held a.by l) = state_turn at.live refl (node_of a.frame.y) Hashed in
      let owed : (p : ℕ) → Owed (snapshot m) p → Owed
      (snapshot (turned
      (put_node m (node_of a.frame.y) (record (m.node (node_of a.frame.y)) { state = Hashed }))
      a.by g l (m.held a.by l))) p = hm_owed at t (λ k e. cc e) (λ p. refl) in
      let held = held_not at (ap seeks (phase_here at)) in
      hm_kept at t (λ e. cc e)
      (node_plain m (node_of a.frame.y) (record (m.node (node_of a.frame.y)) { state = Hashed })
      at.sound.plain (at.sound.plain.runs (node_of a.frame.y)) (λ flat. at.sound.plain.flag flat (node_of a.frame.y)))
      (fit_halting at at.kind g K2 refl refl refl refl (λ e. cc)
      (λ q. (fit_here at).choice.named K1 at.place refl) (λ e. cc) (λ e. cc) (λ e. cc)) Nothing
      (law_K1_hash at.sound.agrees at.kind (λ u. owed u.cpu) (next_is).0
      (hm_step at t refl held held owed) (hm_stays at t refl refl (λ p. refl)) (next_is).1
      (ap (λ (k : NodeName). (m.node k).state) (next_is).2
      ∙ halted_is (m.node (node_of a.frame.y)).state halted)
      (subst (λ (k : NodeName).
      Rewrites m.node
      (put_node m (node_of a.frame.y)
      (record (m.node (node_of a.frame.y)) { state = Hashed })).node k
      (record (m.node k) { state = Hashed })) (sym (next_is).2)
      (put_rewrites m.node (node_of a.frame.y)
      (record (m.node (node_of a.frame.y)) { state = Hashed })))
      (next_way (next_is).0 (next_is).1) (hm_posts at t) refl)
      tt

  is_done : is_halted (a.world.node (node_of a.frame.y)).state ≡ false
      → Kept a (lead_on a.world a.by a.frame Leaves) Nothing
  is_done awake =
      let m = a.world in
      let l = a.frame.lock in
      let g : Frame = led a.frame Leaves in
      let t : Turn m m a.by a.frame g (Some Spins) = same_turn at.live refl in
      let o = off_turn at t in
      let owed : (p : ℕ) → Owed (snapshot m) p → Owed
      (snapshot (turned (put_queued m a.by.cpu (m.queued a.by.cpu - 1)) a.by g l (Some Spins)))
      p = hm_owed at o (λ k e. cc e) (λ p. refl) in
      let held = held_not at (ap seeks (phase_here at)) in
      hm_kept at o (λ e. cc e) (halting_plain _ at.kind (flags_here at) at.sound.plain.runs)
      (fit_quiet g (left_place at) refl) Nothing
      (law_K1_done at.sound.agrees at.kind (λ u. owed u.cpu)
      (hm_step_as at o (phase_here at) (quiet_phase g (left_place at)) refl held refl owed)
      (off_leaves at t refl (left_place at).fast (λ p. refl)) (λ k. refl)
      (record {
        was = (hm_posts at o).was;
        now = (hm_posts at o).now ∙ quiet_off g (left_place at);
        others = (hm_posts at o).others;
      }) refl
      (λ z first e. let same : (next_is).0 ≡ z = let q = (next_is).1 in
      grind (arith, q, first) in
      halted_not (m.node (node_of a.frame.y)).state awake
      (sym (ap (λ (k : NodeName). (m.node k).state)
      (ap (snapshot m).own (sym same) ∙ (next_is).2)) ∙ e)))
      tt

  abbrev CallKept : Effect State → Type 0
  CallKept o =
      Kept a (lead_on (stores_state a.world (node_of a.frame.y) o.stores) a.by a.frame o.leads)
      o.tells

pub holder_mark_hashed_keeps : SpinRowKeeps K1
holder_mark_hashed_keeps =
    row_keeps_halting K1 refl (λ a at goes.
    if_cases (CallKept at) (is_halted (a.world.node (node_of a.frame.y)).state) (writes Hashed K2)
    (record { stores = None; leads = Leaves; tells = Nothing; counts = [] }) (marks_next at)
    (is_done at))

-- K2

module _ {a : Acting} (at : StandsIn true a K2) where
  slows : Kept a
      (lead_on (put_word a.world a.frame.lock (with_byte (a.world.word a.frame.lock) Slow)) a.by
      a.frame (Goes K3 [])) Nothing
  slows =
      let m = a.world in
      let l = a.frame.lock in
      let g : Frame = record a.frame { place = Some K3 } in
      let t : Turn m (put_word m l (with_byte (m.word l) Slow)) a.by a.frame g (m.held a.by l) =
      word_turn at.live refl (with_byte (m.word l) Slow) in
      let owed : (p : ℕ) → Owed (snapshot m) p → Owed
      (snapshot (turned (put_word m l (with_byte (m.word l) Slow)) a.by g l (m.held a.by l)))
      p = hm_owed at t (λ k e. cc e) (λ p. refl) in
      let held = held_not at (ap seeks (phase_here at)) in
      hm_kept at t (λ e. cc e) (halting_plain _ at.kind (flags_here at) at.sound.plain.runs)
      (fit_halting at at.kind g K3 refl refl refl refl (λ e. cc)
      (λ q. (fit_here at).choice.named K2 at.place refl) (λ e. cc) (λ e. cc) (λ e. cc)) Nothing
      (law_K2 at.sound.agrees at.kind (λ u. owed u.cpu)
      (hm_step at t (put_word-here m.word l (with_byte (m.word l) Slow)) held held owed)
      (hm_stays at t refl refl (λ p. refl)) (λ k. refl) (hm_posts at t) refl)
      tt

pub holder_store_slow_keeps : SpinRowKeeps K2
holder_store_slow_keeps = row_keeps_halting K2 refl (λ a at goes. slows at)

-- K3

module _ {a : Acting} (at : StandsIn true a K3) where
  signs : Kept a (lead_on (put_entry a.world a.frame.lock a.frame.y) a.by a.frame Leaves) Nothing
  signs =
      let m = a.world in
      let l = a.frame.lock in
      let g : Frame = led a.frame Leaves in
      let t : Turn m (put_entry m l a.frame.y) a.by a.frame g (Some Spins) =
      entry_turn at.live refl a.frame.y in
      let o = off_turn at t in
      let owed : (p : ℕ) → Owed (snapshot m) p → Owed
      (snapshot (turned (put_queued (put_entry m l a.frame.y) a.by.cpu (m.queued a.by.cpu - 1))
      a.by g l (Some Spins))) p = hm_owed at o (λ k e. cc e) (λ p. refl) in
      let held = held_not at (ap seeks (phase_here at)) in
      hm_kept at o (λ e. cc e) (halting_plain _ at.kind (flags_here at) at.sound.plain.runs)
      (fit_quiet g (left_place at) refl) Nothing
      ((law_K3 at.sound.agrees at.kind (λ u. owed u.cpu)
      (hm_step_as at o (phase_here at) (quiet_phase g (left_place at)) refl held refl owed)
      (off_leaves at t refl (left_place at).fast (λ p. refl)) (λ k. refl)
      (record {
        was = (hm_posts at o).was;
        now = (hm_posts at o).now ∙ quiet_off g (left_place at);
        others = (hm_posts at o).others;
      })
      (put_word-here m.entry l a.frame.y
      ∙ some_is a.frame.y ((fit_here at).choice.named K3 at.place refl))).0)
      tt

pub holder_enter_next_keeps : SpinRowKeeps K3
holder_enter_next_keeps = row_keeps_halting K3 refl (λ a at goes. signs at)
