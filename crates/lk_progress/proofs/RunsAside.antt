-- No run of an ordered setup of the family that moves waiters aside comes to a deadlock.
use Rattle.std.proofs.Common.{◌≡◌, ◌⊎◌, inl, inr, ℕ, ◌<◌, ◌+◌, ◌*◌, Option, Some, None, true, false}
use Rattle.std.proofs.Common.{refl, sym, ap, ◌∙◌, subst, length}
use Rattle.lk_progress.proofs.Names.{LockHistory, history_of, LockName, Waiter, next, Machine}
use Rattle.lk_progress.proofs.Names.{top_frame, top_of, at_rest, machine_after, Frame, Pc, Setup}
use Rattle.lk_progress.proofs.Names.{nobody_halts, halts, moves_aside, ShowsAll, world, row_in}
use Rattle.lk_progress.proofs.Names.{level_of, IsBarred, above_top, frame_within, top_live}
use Rattle.lk_progress.proofs.Names.{IsOrdered, IsFinished, TurnsOnTheSpot}
use Rattle.lk_rows.specs.Machine.{frame_at, preempted_at}
use Rattle.lk_waits.proofs.{AsideFollowed.row_keeps_aside, Changed.quietly_of}
use Rattle.lk_waits.proofs.ClimbAside.{at_bay_wait_for_outside}
use Rattle.lk_waits.proofs.Quiet.{heads_stay_aside, rests_aside}
use Rattle.lk_waits.specs.{Aside.IsFollowedAside, Waits.IsAtBay}
use Rattle.lk_progress.proofs.{Good.{IsKept, IsAwake}, Ranked.{tidy, ranked, inside}}
use Rattle.lk_progress.proofs.Reached.{Reached, reached_from_rest, top_is, stuck_at, finished_by}
use Rattle.lk_progress.proofs.Runs.{LeadsOn, all_or, leads_on}
use Rattle.lk_progress.specs.Runs.{OrderedRunsGoOnAside, SomebodyLeadsOnAside}
use Rattle.lk_names.specs.declared.events.Act.TheVariants as act
use Rattle.lk_waits.specs.Waits as waits

-- heads that choose their successor are kept followed
pub kept_aside : IsKept (IsAwake true) IsFollowedAside
kept_aside = record {
  rest = rests_aside;
  comes = λ a b w came. heads_stay_aside a b w came.quietly;
  rows = λ c m n hs w f ok family live at inner room changed inv.
      heads_stay_aside (row_in m w f c).0 n w (quietly_of m n w f c changed)
      (row_keeps_aside c m hs w f ok family.0 family.1 live at inner (λ e. room e family.0) inv);
  ends = λ m n hs w f ok family newest live halted roused inv.
      absurd (let z = nobody_halts m hs ok family.0 w.cpu in cc (z, halted));
}

-- a machine in which nothing changes is a world that is stuck
module _ (m : Machine) (hs : LockName → LockHistory) (shows : ShowsAll m hs) (awake : halts m.setup.mode ≡ false) (unpreempted : (p : ℕ) → p < length m.cpus → preempted_at m p ≡ false) where
  pub is_at_bay : ((p : ℕ) → p < length m.cpus → ((next m (act.Step p)).0 ≡ m) ⊎ TurnsOnTheSpot m p) → IsAtBay (world m)
  is_at_bay still w f c top =
      let lt = frame_within m w f top.live in
      let same = top_is m hs shows w f c top in
      let live : frame_at m (top_of m w.cpu) ≡ Some f = ap (frame_at m) (sym same) ∙ top.live in
      elim (still w.cpu lt) [
        | inl e ↦ inl (subst (λ (u : Waiter). waits.StandsStill (world m) u f c) (sym same)
            (stuck_at m hs shows awake unpreempted w.cpu f c lt live top.place e))
        | inr t ↦
            let is : top_frame m w.cpu ≡ f =
            (let z : Some (top_frame m w.cpu) ≡ Some f = sym (top_live m w.cpu hs shows lt) ∙ live in cc z) in
            let place : t.place ≡ c =
            (let z : Some t.place ≡ Some c = sym t.here ∙ ap (λ (g : Frame). g.place) is ∙ top.place in cc z) in
            inr (subst (λ (d : Pc). IsBarred (world m) f d) place (subst (λ (g : Frame). IsBarred (world m) g t.place) is t.barred))
      ]

-- where each step changes nothing, or is that of a head that turns on the spot, all have finished
pub finished_aside : (rank : ℕ → ℕ) (size : ℕ) (setup : Setup) → IsOrdered rank size setup → halts setup.mode ≡ false
    → moves_aside setup.mode ≡ true → (m : Machine) → Reached IsFollowedAside setup m
    → ((p : ℕ) → p < length m.cpus → preempted_at m p ≡ false)
    → ((p : ℕ) → p < length m.cpus → ((next m (act.Step p)).0 ≡ m) ⊎ TurnsOnTheSpot m p)
    → (p : ℕ) → p < length m.cpus → IsFinished m p
finished_aside rank size setup ordered awake plain m r unpreempted still p within = by (top_frame m p).place refl
  where
    shows : ShowsAll m (λ l. history_of l r.events)
    shows = r.shows.shows

    awake_m : halts m.setup.mode ≡ false
    awake_m = ap (λ (s : Setup). halts s.mode) r.setup_is ∙ awake

    plain_m : moves_aside m.setup.mode ≡ true
    plain_m = ap (λ (s : Setup). moves_aside s.mode) r.setup_is ∙ plain

    live : frame_at m (top_of m p) ≡ Some (top_frame m p)
    live = top_live m p (λ l. history_of l r.events) shows within

    by : (o : Option Pc) → (top_frame m p).place ≡ o → IsFinished m p
    by None e = finished_by m (λ l. history_of l r.events) shows r.good.steady p within e
    by (Some c) e =
        absurd (inside m (λ l. history_of l r.events) shows r.good.steady
        (at_bay_wait_for_outside (level_of rank) (size * 2 + 1) (world m) (λ l. history_of l r.events) shows.world awake_m plain_m
        (tidy m (λ l. history_of l r.events) shows r.good.steady)
        (ranked m (λ l. history_of l r.events) shows r.good.steady rank size
        (subst (IsOrdered rank size) (sym r.setup_is) ordered))
        r.good.followed
        (is_at_bay m (λ l. history_of l r.events) shows awake_m unpreempted still)
        (top_of m p) (top_frame m p) c
        (record { live = live; above = λ d lt. above_top m p d lt; place = e })))

-- all have finished, or somebody's step leads on
pub goes_on_aside : (rank : ℕ → ℕ) (size : ℕ) (setup : Setup) → IsOrdered rank size setup → halts setup.mode ≡ false
    → moves_aside setup.mode ≡ true → (m : Machine) → Reached IsFollowedAside setup m
    → ((p : ℕ) → p < length m.cpus → preempted_at m p ≡ false)
    → ((p : ℕ) → p < length m.cpus → IsFinished m p) ⊎ ((p : ℕ) × (p < length m.cpus) × LeadsOn m p)
goes_on_aside rank size setup ordered awake plain m r unpreempted =
    elim (all_or (length m.cpus) (λ p. ((next m (act.Step p)).0 ≡ m) ⊎ TurnsOnTheSpot m p) (λ p. LeadsOn m p)
    (λ p lt. leads_on m (λ l. history_of l r.events) r.shows.shows (ap (λ (s : Setup). halts s.mode) r.setup_is ∙ awake) p lt)) [
      | inl still ↦ inl (finished_aside rank size setup ordered awake plain m r unpreempted still)
      | inr z ↦ inr z
    ]

pub ordered_runs_go_on_aside : OrderedRunsGoOnAside
ordered_runs_go_on_aside rank size setup acts ok ordered awake plain has_room range unpreempted still p within =
    finished_aside rank size setup ordered awake plain (machine_after (at_rest setup) acts)
    (reached_from_rest (IsAwake true) IsFollowedAside kept_aside setup acts ok (awake, plain) (λ e. has_room) range)
    unpreempted still p within

pub somebody_leads_on_aside : SomebodyLeadsOnAside
somebody_leads_on_aside rank size setup acts ok ordered awake plain has_room range unpreempted =
    elim (goes_on_aside rank size setup ordered awake plain (machine_after (at_rest setup) acts)
    (reached_from_rest (IsAwake true) IsFollowedAside kept_aside setup acts ok (awake, plain) (λ e. has_room) range) unpreempted) [
      | inl all ↦ inl all
      | inr z ↦ inr (record { processor = z.0; inside = z.1; moves = z.2.changes; off = z.2.off })
    ]
