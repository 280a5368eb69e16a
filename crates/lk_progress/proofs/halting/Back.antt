-- Who would lead on where the heads that go around rest would lead on wherever they have gone.
use Rattle.std.proofs.Common.{◌≡◌, ◌⊎◌, inl, inr, ℕ, ◌<◌, ◌≤◌, Option, Some, None, Bool, true}
use Rattle.std.proofs.Common.{false, refl, sym, ap, ◌∙◌, subst, arith, length, if◌then◌else◌}
use Rattle.std.proofs.Common.{is_some, ◌&&◌, not}
use Rattle.std.specs.Prelude.{unwrap_or}
use Rattle.lk_progress.proofs.Names.{cases_Bool, cases_lt, RwFields, Locked, Held, NodeName}
use Rattle.lk_progress.proofs.Names.{LockHistory, LockName, Mode, Waiter, idle, kicked_awake, next}
use Rattle.lk_progress.proofs.Names.{stands_halting, Machine, halted_at, kicked_at, rw_at}
use Rattle.lk_progress.proofs.Names.{top_frame, top_of, word_at, node_of, row, row_at, target}
use Rattle.lk_progress.proofs.Names.{Frame, Pc, E2, E3, E4, E5, E10, E11, E14, H1, H2, R2, R5, Wr5}
use Rattle.lk_progress.proofs.Names.{Setup, after_given_up, after_glance, pv_after_next, rw_row}
use Rattle.lk_progress.proofs.Names.{is_unlocked, halts, course_in, phase_at, ShowsAll, world}
use Rattle.lk_progress.proofs.Names.{spin_part, led, still_looks_at, goes_around, frame_within}
use Rattle.lk_progress.proofs.Names.{top_live, GoesAround}
use Rattle.lk_rows.specs.Machine.{frame_at, preempted_at, rest_frame}
use Rattle.lk_law.proofs.common.Cases.{lock_cases}
use Rattle.lk_law.specs.Phase.Phase.{Leads}
use Rattle.lk_waits.proofs.HaltingStands.{looks_on, same_frame}
use Rattle.lk_progress.proofs.{Reached.row_stuck, Runs.all_or, RunsHalting.{row_halts, step_is}}
use Rattle.lk_progress.proofs.{Woken.kicked_runs, halting.Around.unrest}
use Rattle.lk_progress.proofs.{halting.Calm.{unrest_if, unrest_of}, halting.Knows.unset}
use Rattle.lk_progress.proofs.{halting.Like.{LikeHalting, around_or}, halting.Potential.as_it_was}
use Rattle.lk_names.specs.declared.events.Act.TheVariants as act
use Rattle.lk_waits.specs.Waits as waits

-- where a look for a lock leads, by whether its byte is free, it is pending, and it has a tail
abbrev glance_of : (free pending tail : Bool) → Option NodeName → Pc
glance_of free pending tail me =
    if free && not pending then H2 else (if tail && not pending then H1 else after_given_up me)

-- of a lock that is not free a look that stays where it is pending stays where it is not
unpressed : (u p t : Bool) (me : Option NodeName) → u ≡ false → glance_of u p t me ≡ H1 → glance_of u false t me ≡ H1
unpressed true p t me e h = cc e
unpressed false p true me e h = refl
unpressed false p false me e h = h

-- a head that rests leads its queue, and has not set the pending bit
leading : (c : Pc) (g : Frame) → goes_around c ≡ true → unrest c g ≡ 0 → (b : Bool) (x y : NodeName) → phase_at c b x y ≡ Leads
leading E2 g r e b x y = refl
leading E3 g r e b x y = refl
leading E4 g r e b x y = absurd (omega (arith, e))
leading E5 g r e b x y = absurd (omega (arith, e))
leading E10 g r e b x y = refl
leading E11 g r e b x y = refl
leading c g r e b x y = cc r

module _ (m k : Machine) (hs gs : LockName → LockHistory) (shows : ShowsAll m hs) (now : ShowsAll k gs) (on : halts m.setup.mode ≡ true)
    (off : (p : ℕ) → p < length m.cpus → preempted_at m p ≡ false) (off_now : (p : ℕ) → p < length k.cpus → preempted_at k p ≡ false)
    (like : LikeHalting m k) (rests : (p : ℕ) → p < length m.cpus → GoesAround m p → unrest_of (top_frame m p) ≡ 0)
    (q : ℕ) (low : q < length m.cpus) (none : GoesAround m q → ⊥) where
  abbrev f : Frame
  f = top_frame m q

  abbrev w : Waiter
  w = top_of m q

  low_now : q < length k.cpus
  low_now = subst (λ (i : ℕ). q < i) (sym like.cpus) low

  on_now : halts k.setup.mode ≡ true
  on_now = ap (λ (s : Setup). halts s.mode) like.setup ∙ on

  same : top_frame k q ≡ f
  same = elim (like.tops q) [ inl e ↦ e | inr z ↦ absurd (none z.0) ]

  live_now : frame_at k (top_of k q) ≡ Some f
  live_now = top_live k q gs now low_now ∙ ap Some same

  -- no head of a processor that is not there goes around
  outside : (p : ℕ) → length m.cpus ≤ p → GoesAround m p → ⊥
  outside p ge t = by (frame_at m (top_of m p)) refl
    where
      by : (o : Option Frame) → frame_at m (top_of m p) ≡ o → ⊥
      by None e =
          let z : (top_frame m p).place ≡ None = ap (λ (o : Option Frame). (unwrap_or o rest_frame).place) e in
          let y : Some t.place ≡ None = sym t.here ∙ z in cc y
      by (Some g) e = let z = frame_within m (top_of m p) g e in omega (arith, z, ge)

  unset_at : (p : ℕ) → p < length m.cpus → (t : GoesAround m p) → (word_at m (top_frame m p).lock).pending ≡ false
  unset_at p lt t =
      let rest : unrest t.place (top_frame m p) ≡ 0 =
      sym (ap (λ (o : Option Pc). unrest_if o (top_frame m p)) t.here) ∙ rests p lt t in
      unset (world m) (spin_part (world m).kind hs) shows.world.spins on (top_of m p) (top_frame m p) (top_live m p hs shows lt) t.place t.here
      (leading t.place (top_frame m p) t.robbed.0 rest (is_some (top_frame m p).me) (node_of (top_frame m p).prev) (node_of (top_frame m p).y))

  abbrev On : LockName → ℕ → Type 0
  On l p = GoesAround m p × ((top_frame m p).lock ≡ l)

  on_or : (l : LockName) (p : ℕ) → (On l p → ⊥) ⊎ On l p
  on_or l p = elim (around_or m p) [
    | inr no_head ↦ inl (λ z. no_head z.0)
    | inl t ↦ elim (lock_cases (top_frame m p).lock l) [ inl e ↦ inr (t, e) | inr ne ↦ inl (λ z. ne z.1) ]
  ]

  -- a look that stays there stays here
  glance_back : (l : LockName) → after_glance f.me (word_at k l) ≡ H1 → after_glance f.me (word_at m l) ≡ H1
  glance_back l h = elim (all_or (length m.cpus) (λ p. On l p → ⊥) (On l) (λ p lt. on_or l p)) [
    | inl free ↦
        let pending = like.pending l (λ p t e. elim (cases_lt p (length m.cpus)) [
          | inl lt ↦ free p lt (t, e)
          | inr ge ↦ outside p ge t
        ]) in
        ap (λ (b : Locked). glance_of (is_unlocked b) (word_at m l).pending (is_some (word_at m l).tail) f.me) (sym (like.byte l))
        ∙ ap (λ (b : Bool). glance_of (is_unlocked (word_at k l).locked) b (is_some (word_at m l).tail) f.me) (sym pending)
        ∙ ap (λ (t : Option NodeName). glance_of (is_unlocked (word_at k l).locked) (word_at k l).pending (is_some t) f.me) (sym (like.tail l))
        ∙ h
    | inr z ↦
        let held : (word_at m l).locked ≡ Held = ap (λ (i : LockName). (word_at m i).locked) (sym z.2.1) ∙ z.2.0.robbed.2 in
        let still : (word_at m l).pending ≡ false = ap (λ (i : LockName). (word_at m i).pending) (sym z.2.1) ∙ unset_at z.0 z.1 z.2.0 in
        let taken : is_unlocked (word_at m l).locked ≡ false = ap is_unlocked held in
        let there : glance_of (is_unlocked (word_at m l).locked) (word_at k l).pending (is_some (word_at m l).tail) f.me ≡ H1 =
        ap (λ (b : Locked). glance_of (is_unlocked b) (word_at k l).pending (is_some (word_at m l).tail) f.me) (sym (like.byte l))
        ∙ ap (λ (t : Option NodeName). glance_of (is_unlocked (word_at k l).locked) (word_at k l).pending (is_some t) f.me) (sym (like.tail l))
        ∙ h in
        ap (λ (b : Bool). glance_of (is_unlocked (word_at m l).locked) b (is_some (word_at m l).tail) f.me) still
        ∙ unpressed (is_unlocked (word_at m l).locked) (word_at k l).pending (is_some (word_at m l).tail) f.me taken there
  ]

  abbrev there : Pc → Frame
  there c = led f (course_in (world k) (top_of k q) f c (target c f)).leads

  abbrev here : Pc → Frame
  here c = led f (course_in (world m) w f c (target c f)).leads

  mode_same : m.setup.mode ≡ k.setup.mode
  mode_same = ap (λ (s : Setup). s.mode) (sym like.setup)

  -- a poll that leaves the frame there leaves it here
  polls_back : (c : Pc) → f.place ≡ Some c → looks_on c ≡ true → there c ≡ f → here c ≡ f
  polls_back H1 at l e =
      let z : Some (after_glance f.me (word_at k f.lock)) ≡ Some H1 = ap (λ (g : Frame). g.place) e ∙ at in
      let y : after_glance f.me (word_at k f.lock) ≡ H1 = cc z in
      let r : Some (after_glance f.me (word_at m f.lock)) ≡ f.place = ap Some (glance_back f.lock y) ∙ sym at in
      let t : is_some (word_at m f.lock).tail ≡ f.tailed = ap is_some (sym (like.tail f.lock)) ∙ ap (λ (g : Frame). g.tailed) e in
      (λ i. record f { tailed = t i; place = r i })
  polls_back E14 at l e = ap (λ (o : Option NodeName). led f (pv_after_next o).leads) (sym (like.links (node_of f.me))) ∙ e
  polls_back R2 at l e = ap (λ (x : RwFields). led f (rw_row m.setup.mode R2 f x).leads) (sym (like.rw f.lock.index)) ∙ e
  polls_back R5 at l e =
      ap (λ (x : RwFields). led f (rw_row m.setup.mode R5 f x).leads) (sym (like.rw f.lock.index))
      ∙ ap (λ (y : Mode). led f (rw_row y R5 f (rw_at k f.lock.index)).leads) mode_same ∙ e
  polls_back Wr5 at l e = ap (λ (x : RwFields). led f (rw_row m.setup.mode Wr5 f x).leads) (sym (like.rw f.lock.index)) ∙ e
  polls_back c at l e = cc l

  -- a step that changes nothing there changes nothing here
  pub still_back : (next k (act.Step q)).0 ≡ k → (next m (act.Step q)).0 ≡ m
  still_back still = elim (cases_Bool (halted_at m q)) [ inl h ↦ asleep h | inr h ↦ awake h f.place refl ]
    where
      asleep : halted_at m q ≡ true → (next m (act.Step q)).0 ≡ m
      asleep h = elim (cases_Bool (kicked_at m q)) [
        | inr e ↦ step_is m hs shows off q low true h ∙ ap (λ (t : Bool). (if t then kicked_awake m q else idle m).0) e
        | inl e ↦
            let h_now : halted_at k q ≡ true = like.halted q ∙ h in
            let up : (next k (act.Step q)).0 ≡ (kicked_awake k q).0 =
            step_is k gs now off_now q low_now true h_now
            ∙ ap (λ (t : Bool). (if t then kicked_awake k q else idle k).0) (like.kicked q ∙ e) in
            let z : halted_at k q ≡ false = ap (λ (y : Machine). halted_at y q) (sym still ∙ up) ∙ kicked_runs k gs now q low_now h_now in
            absurd (cc (z, h_now))
      ]

      awake : halted_at m q ≡ false → (o : Option Pc) → f.place ≡ o → (next m (act.Step q)).0 ≡ m
      awake h None e = step_is m hs shows off q low false h ∙ ap (λ (o : Option Pc). (row_at m q f o).0) e
      awake h (Some c) e = elim (cases_Bool (stands_halting (Some c))) [
        | inl s ↦
            let z : halted_at k q ≡ true =
            ap (λ (y : Machine). halted_at y q) (sym row_still) ∙ row_halts k gs now off_now q low_now c at_now s in
            absurd (let y = h_now in cc (z, y))
        | inr s ↦
            let inner = (now.world.fits (top_of k q) f live_now).after in
            let stands : waits.StandsStill (world k) (top_of k q) f c = row_stuck k gs now q f c low_now live_now e row_still in
            let l = still_looks_at (world k) (spin_part (world k).kind gs) (top_of k q) f c now.world.spins on_now live_now inner e s stands in
            step_is m hs shows off q low false h
            ∙ as_it_was m hs q shows on low (off q low) h c e s (polls_back c e l (same_frame (world k) (top_of k q) f inner c stands))
      ]
        where
          h_now : halted_at k q ≡ false
          h_now = like.halted q ∙ h

          at_now : (top_frame k q).place ≡ Some c
          at_now = ap (λ (g : Frame). g.place) same ∙ e

          row_still : (row k q).0 ≡ k
          row_still = sym (step_is k gs now off_now q low_now false h_now) ∙ still
