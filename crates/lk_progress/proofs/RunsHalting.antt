-- No run of an ordered setup of the family that halts processors comes to a deadlock.
use Rattle.std.proofs.Common.{◌≡◌, ◌⊎◌, inl, inr, ℕ, ◌<◌, ◌+◌, ◌*◌, Option, Some, None, Bool, true}
use Rattle.std.proofs.Common.{false, refl, sym, ap, ◌∙◌, subst, arith, length, if◌then◌else◌, ◌==◌}
use Rattle.lk_progress.proofs.Names.{cases_Bool, LockHistory, history_of, LockName, Waiter, idle}
use Rattle.lk_progress.proofs.Names.{kicked_awake, next, stands_halting, step_halted, Machine}
use Rattle.lk_progress.proofs.Names.{halted_at, kicked_at, top_frame, top_of, at_rest}
use Rattle.lk_progress.proofs.Names.{machine_after, row, target, Frame, Pc, E12, W6, Setup, halts}
use Rattle.lk_progress.proofs.Names.{ShowsAll, world, IsHeadServed, IsRobbed, level_of, above_top}
use Rattle.lk_progress.proofs.Names.{frame_within, top_live, IsOrdered, IsFinished, StepsNowhere}
use Rattle.lk_rows.specs.Machine.{frame_at, preempted_at}
use Rattle.lk_waits.proofs.{ClimbHalting.at_rest_wait_for_outside, HaltEnds.roused_served}
use Rattle.lk_waits.proofs.{HeadServed.still_served, Quiet.{heads_stay_served, rests_served}}
use Rattle.lk_waits.specs.Halting.{IsAtRest, LeadsNowhere}
use Rattle.lk_progress.proofs.{Good.{IsKept, IsHalting}, Ranked.{tidy, ranked, inside}}
use Rattle.lk_progress.proofs.Reached.{Reached, reached_from_rest, top_is, row_stuck, finished_by}
use Rattle.lk_progress.proofs.{Rows.row_moves, Woken.kicked_runs}
use Rattle.lk_progress.specs.Runs.{OrderedRunsGoOnHalting}
use Rattle.lk_names.specs.declared.events.Act.TheVariants as act

-- heads are kept served
pub kept_served : IsKept IsHalting IsHeadServed
kept_served = record {
  rest = rests_served;
  comes = λ a b w came. heads_stay_served a b w came.quietly came.flags came.kicked;
  rows = λ c m n hs w f ok on live at inner room changed inv. still_served m hs ok on n w f live inner inv c at changed;
  ends = λ m n hs w f ok on newest live halted roused inv. roused_served m n hs w f ok newest live halted inv roused;
}

-- which rows halt
halting_cases : (c : Pc) → stands_halting (Some c) ≡ true → (c ≡ W6) ⊎ (c ≡ E12)
halting_cases W6 e = inl refl
halting_cases E12 e = inr refl
halting_cases c e = cc e

module _ (m : Machine) (hs : LockName → LockHistory) (shows : ShowsAll m hs)
    (unpreempted : (p : ℕ) → p < length m.cpus → preempted_at m p ≡ false) where
  -- a row at which a processor halts halts it
  pub row_halts : (p : ℕ) → p < length m.cpus → (c : Pc) → (top_frame m p).place ≡ Some c → stands_halting (Some c) ≡ true
      → halted_at (row m p).0 p ≡ true
  row_halts p lt c at h =
      let live = top_live m p hs shows lt in
      let r = row_moves m p hs shows lt (top_frame m p) c live at (shows.world.fits (top_of m p) (top_frame m p) live).after in
      r.2.follows.halted p ∙ r.1.halted p ∙ by (halting_cases c h)
    where
      by : (c ≡ W6) ⊎ (c ≡ E12)
          → (Rattle.lk_law.specs.Leads.stored_in (world m) (top_of m p) (top_frame m p) c (target c (top_frame m p))).halted p ≡ true
      by (inl e) = ap (λ (d : Pc). (Rattle.lk_law.specs.Leads.stored_in (world m) (top_of m p) (top_frame m p) d (target d (top_frame m p))).halted p) e ∙ put
        where
          put : (if p == p then true else halted_at m p) ≡ true
          put = grind arith
      by (inr e) = ap (λ (d : Pc). (Rattle.lk_law.specs.Leads.stored_in (world m) (top_of m p) (top_frame m p) d (target d (top_frame m p))).halted p) e ∙ put
        where
          put : (if p == p then true else halted_at m p) ≡ true
          put = grind arith

  pub step_is : (p : ℕ) → p < length m.cpus → (b : Bool) → halted_at m p ≡ b
      → (next m (act.Step p)).0 ≡ (if b then step_halted m p else row m p).0
  step_is p lt b e =
      ap (λ (t : Bool). (if t then idle m else (if halted_at m p then step_halted m p else row m p)).0) (unpreempted p lt)
      ∙ ap (λ (t : Bool). (if t then step_halted m p else row m p).0) e

  -- a step that changes nothing leads its frame nowhere
  nowhere : (p : ℕ) → p < length m.cpus → (c : Pc) → (top_frame m p).place ≡ Some c → (next m (act.Step p)).0 ≡ m
      → LeadsNowhere (world m) (top_of m p) (top_frame m p) c
  nowhere p lt c at still = elim (cases_Bool (halted_at m p)) [
    | inl h ↦ elim (cases_Bool (kicked_at m p)) [
      | inr k ↦ inl (h, k)
      | inl k ↦
          let e : (kicked_awake m p).0 ≡ m =
          sym (ap (λ (t : Bool). (if t then kicked_awake m p else idle m).0) k) ∙ sym (step_is p lt true h) ∙ still in
          absurd (let z : halted_at m p ≡ false = ap (λ (y : Machine). halted_at y p) (sym e) ∙ kicked_runs m hs shows p lt h in
          cc (z, h))
    ]
    | inr h ↦
        let e : (row m p).0 ≡ m = sym (step_is p lt false h) ∙ still in
        elim (cases_Bool (stands_halting (Some c))) [
          | inl s ↦ absurd (let z : halted_at m p ≡ true = ap (λ (y : Machine). halted_at y p) (sym e) ∙ row_halts p lt c at s in
              cc (z, h))
          | inr s ↦ inr (inl (s, row_stuck m hs shows p (top_frame m p) c lt (top_live m p hs shows lt) at e))
        ]
  ]

  pub is_at_rest : ((p : ℕ) → p < length m.cpus → StepsNowhere m p) → IsAtRest (world m)
  is_at_rest still w f c top =
      let lt = frame_within m w f top.live in
      let same = top_is m hs shows w f c top in
      let live : frame_at m (top_of m w.cpu) ≡ Some f = ap (frame_at m) (sym same) ∙ top.live in
      let is : top_frame m w.cpu ≡ f =
      (let z : Some (top_frame m w.cpu) ≡ Some f = sym (top_live m w.cpu hs shows lt) ∙ live in cc z) in
      let at : (top_frame m w.cpu).place ≡ Some c = ap (λ (g : Frame). g.place) is ∙ top.place in
      let on : LeadsNowhere (world m) (top_of m w.cpu) (top_frame m w.cpu) c =
      elim (still w.cpu lt) [
        | inl e ↦ nowhere w.cpu lt c at e
        | inr t ↦
            let place : t.place ≡ c = (let z : Some t.place ≡ Some c = sym t.here ∙ at in cc z) in
            inr (inr (subst (λ (d : Pc). IsRobbed (world m) (top_frame m w.cpu) d) place t.robbed))
      ] in
      subst (λ (u : Waiter). LeadsNowhere (world m) u f c) (sym same)
      (subst (λ (g : Frame). LeadsNowhere (world m) (top_of m w.cpu) g c) is on)

-- a machine that an ordered setup comes to
module _ (rank : ℕ → ℕ) (size : ℕ) (setup : Setup) (ordered : IsOrdered rank size setup) (on : halts setup.mode ≡ true)
    (m : Machine) (r : Reached IsHeadServed setup m)
    (unpreempted : (p : ℕ) → p < length m.cpus → preempted_at m p ≡ false) where
  -- where no step leads on, all have finished
  pub finished_at : ((p : ℕ) → p < length m.cpus → StepsNowhere m p) → (p : ℕ) → p < length m.cpus → IsFinished m p
  finished_at still p within = by (top_frame m p).place refl
    where
      hs : LockName → LockHistory
      hs l = history_of l r.events

      shows : ShowsAll m hs
      shows = r.shows.shows

      live : frame_at m (top_of m p) ≡ Some (top_frame m p)
      live = top_live m p hs r.shows.shows within

      by : (o : Option Pc) → (top_frame m p).place ≡ o → IsFinished m p
      by None e = finished_by m hs r.shows.shows r.good.steady p within e
      by (Some c) e =
          absurd (inside m hs shows r.good.steady
          (at_rest_wait_for_outside (level_of rank) (size * 2 + 1) (world m) hs shows.world
          (ap (λ (s : Setup). halts s.mode) r.setup_is ∙ on)
          (tidy m hs shows r.good.steady)
          (ranked m hs shows r.good.steady rank size (subst (IsOrdered rank size) (sym r.setup_is) ordered))
          r.good.followed
          (is_at_rest m hs shows unpreempted still)
          (top_of m p) (top_frame m p) c
          (record { live = live; above = λ d lt. above_top m p d lt; place = e })))

pub ordered_runs_go_on_halting : OrderedRunsGoOnHalting
ordered_runs_go_on_halting rank size setup acts ok ordered on range unpreempted still p within =
    finished_at rank size setup ordered on (machine_after (at_rest setup) acts)
    (reached_from_rest IsHalting IsHeadServed kept_served setup acts ok on
    (λ e. absurd (let z = on in cc (e, z))) range) unpreempted still p within
