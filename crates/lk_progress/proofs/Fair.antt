-- Under a fair schedule everybody finishes.
use Rattle.std.proofs.Common.{◌≡◌, ◌≢◌, ◌⊎◌, inl, inr, ℕ, zero, suc, ◌<◌, ◌≤◌, ◌+◌, ◌-◌, Bool, true}
use Rattle.std.proofs.Common.{false, refl, sym, ap, ◌∙◌, subst, arith, [], ◌∷◌, length}
use Rattle.std.proofs.Common.{if◌then◌else◌, None}
use Rattle.lk_progress.proofs.Names.{cases_Bool, cases_eq, history_of, Act, Waiter, idle, next}
use Rattle.lk_progress.proofs.Names.{processor_of, Machine, set_preempted, at_rest, Setup, halts}
use Rattle.lk_progress.proofs.Names.{moves_aside, World, setup_kept, is_pause, price, IsFinished}
use Rattle.lk_progress.proofs.Names.{TurnsOnTheSpot}
use Rattle.lk_rows.specs.Machine.{preempted_at}
use Rattle.lk_waits.specs.{Aside.IsFollowedAside, Followed.IsHeadFollowed}
use Rattle.lk_core.proofs.IdleActs.{preempted_now}
use Rattle.lk_progress.proofs.{Budget.{IsQuiet, falls}, Good.IsAwake, Potential.Staying}
use Rattle.lk_progress.proofs.Reached.{Reached, start, reached}
use Rattle.lk_progress.proofs.Runs.{LeadsOn, kept_followed, leads_from}
use Rattle.lk_progress.proofs.RunsAside.{kept_aside, goes_on_aside}
use Rattle.lk_progress.proofs.Spot.{Like, spot_same, still_same}
use Rattle.lk_progress.specs.Fair.{after_first, processors, IsRound, IsFair, FairRunsFinish}
use Rattle.lk_names.specs.declared.events.Act.TheVariants as act

module _ (F : World → Type 0) (setup : Setup) (schedule : ℕ → Act) (awake : halts setup.mode ≡ false)
    (fair : IsFair setup schedule) (begins : Reached F setup (at_rest setup))
    (keeps : (m : Machine) (a : Act) → Reached F setup m → processor_of a < length m.cpus → Reached F setup (next m a).0)
    (goes_on : (m : Machine) → Reached F setup m → ((p : ℕ) → p < length m.cpus → preempted_at m p ≡ false)
    → ((p : ℕ) → p < length m.cpus → IsFinished m p) ⊎ ((p : ℕ) × (p < length m.cpus) × LeadsOn m p)) where
  abbrev after : ℕ → Machine
  after n = after_first setup schedule n

  cpus : (m : Machine) → Reached F setup m → length m.cpus ≡ processors setup
  cpus m r = r.shows.shows.whole.cpus ∙ ap processors r.setup_is

  come_to : (n : ℕ) → Reached F setup (after n)
  come_to zero = begins
  come_to (suc n) =
      let r = come_to n in
      keeps (after n) (schedule n) r
      (subst (λ (i : ℕ). processor_of (schedule n) < i) (sym (cpus (after n) r)) (fair.inside n))

  awake_at : (n : ℕ) → halts (after n).setup.mode ≡ false
  awake_at n = ap (λ (s : Setup). halts s.mode) (come_to n).setup_is ∙ awake

  within : (n : ℕ) → processor_of (schedule n) < length (after n).cpus
  within n = subst (λ (i : ℕ). processor_of (schedule n) < i) (sym (cpus (after n) (come_to n))) (fair.inside n)

  low_at : (n p : ℕ) → p < processors setup → p < length (after n).cpus
  low_at n p low = subst (λ (i : ℕ). p < i) (sym (cpus (after n) (come_to n))) low

  -- what an act does to the price
  lowers : (n : ℕ) → (after (suc n) ≡ after n) ⊎ (price (after (suc n)) < price (after n))
      ⊎ (IsQuiet (after n) (schedule n) × (price (after (suc n)) ≡ price (after n)))
  lowers n =
      falls (after n) (λ l. history_of l (come_to n).events) (come_to n).shows.shows (awake_at n) (schedule n) (within n)

  act_lowers : (n : ℕ) → price (after (suc n)) ≤ price (after n)
  act_lowers n = elim (lowers n) [
    | inl e ↦ (let z = ap price e in omega (arith, z))
    | inr x ↦ elim x [
      | inl lt ↦ omega (arith, lt)
      | inr p ↦ (let z = p.1 in omega (arith, z))
    ]
  ]

  no_more : (n k : ℕ) → price (after (n + k)) ≤ price (after n)
  no_more n zero =
      let e : n + 0 ≡ n = omega arith in
      let z = ap (λ (i : ℕ). price (after i)) e in
      omega (arith, z)
  no_more n (suc k) =
      let e : n + suc k ≡ suc (n + k) = omega arith in
      let z = ap (λ (i : ℕ). price (after i)) e in
      let h = no_more n k in
      let g = act_lowers (n + k) in
      omega (arith, z, h, g)

  never_more : (n k : ℕ) → n ≤ k → price (after k) ≤ price (after n)
  never_more n k le =
      let e : n + (k - n) ≡ k = omega (arith, le) in
      subst (λ (i : ℕ). price (after i) ≤ price (after n)) e (no_more n (k - n))

  module _ (first size : ℕ) (round : IsRound setup schedule first size) where
    -- a pause in a round leaves the machine
    pause_same : (i : ℕ) → i < size → (a : Act) → schedule (first + i) ≡ a → is_pause a ≡ true
        → after (suc (first + i)) ≡ after (first + i)
    pause_same i lt (act.Preempt p) e pause =
        let n = first + i in
        let r = come_to n in
        let low : p < processors setup = subst (λ (b : Act). processor_of b < processors setup) e (fair.inside n) in
        let in_range : p < length (after n).cpus = subst (λ (j : ℕ). p < j) (sym (cpus (after n) r)) low in
        let off = round.runs i p (omega (arith, lt)) low in
        let is : after (suc n) ≡ set_preempted (after n) p true =
        ap (λ (b : Act). (next (after n) b).0) e
        ∙ ap (λ (t : Bool). (if t then idle (after n) else (set_preempted (after n) p true, None)).0) off in
        let on : preempted_at (after (suc n)) p ≡ true =
        ap (λ (m : Machine). preempted_at m p) is ∙ preempted_now (after n) p true in_range in
        let next_is : suc n ≡ first + suc i = omega arith in
        let still : preempted_at (after (suc n)) p ≡ false =
        ap (λ (j : ℕ). preempted_at (after j) p) next_is ∙ round.runs (suc i) p (omega (arith, lt)) low in
        absurd (let z : true ≡ false = sym on ∙ still in cc z)
    pause_same i lt (act.Resume p) e pause =
        let n = first + i in
        let low : p < processors setup = subst (λ (b : Act). processor_of b < processors setup) e (fair.inside n) in
        let off = round.runs i p (omega (arith, lt)) low in
        ap (λ (b : Act). (next (after n) b).0) e
        ∙ ap (λ (t : Bool). (if t then (set_preempted (after n) p false, None) else idle (after n)).0) off
    pause_same i lt (act.Step p) e pause = cc pause
    pause_same i lt (act.Interrupt p) e pause = cc pause
    pause_same i lt (act.Nudge p) e pause = cc pause

    -- while a processor has not stepped that leads on, the machine is the same to it, or the price is lower
    module _ (q : ℕ) (low : q < processors setup) (leads : LeadsOn (after first) q) where
      abbrev So : ℕ → Type 0
      So i = Like (after first) (after (first + i)) q ⊎ (price (after (first + i)) < price (after first))

      unpreempted : (i p : ℕ) → i ≤ size → p < processors setup → preempted_at (after (first + i)) p ≡ false
      unpreempted i p le lt = round.runs i p le lt

      first_is : after (first + 0) ≡ after first
      first_is = let e : first + 0 ≡ first = omega arith in ap (λ (j : ℕ). after j) e

      stays_off : (i : ℕ) → Like (after first) (after (first + i)) q → TurnsOnTheSpot (after (first + i)) q → ⊥
      stays_off i like t =
          leads.off (spot_same (after first) (after (first + i)) q (λ l. history_of l (come_to first).events)
          (λ l. history_of l (come_to (first + i)).events) (come_to first).shows.shows (come_to (first + i)).shows.shows
          (awake_at first) (low_at first q low) (low_at (first + i) q low) like t)

      -- the step of the processor itself
      stepped : (i : ℕ) → i < size → Like (after first) (after (first + i)) q → schedule (first + i) ≡ act.Step q
          → price (after (suc (first + i))) < price (after (first + i))
      stepped i lt like is = elim (lowers (first + i)) [
        | inl e ↦ absurd (leads.changes (still_same (after first) (after (first + i)) q (λ l. history_of l (come_to first).events)
            (λ l. history_of l (come_to (first + i)).events) (come_to first).shows.shows (come_to (first + i)).shows.shows
            (awake_at first) (low_at first q low) (low_at (first + i) q low) like
            (ap (λ (m : Machine). preempted_at m q) (sym first_is) ∙ unpreempted 0 q (omega arith) low)
            (unpreempted i q (omega (arith, lt)) low) leads.off
            (ap (λ (b : Act). (next (after (first + i)) b).0) (sym is) ∙ e)))
        | inr x ↦ elim x [
          | inl less ↦ less
          | inr p ↦ elim p.0 [
            | inl pause ↦ absurd (let z : is_pause (act.Step q) ≡ true = ap is_pause (sym is) ∙ pause in cc z)
            | inr t ↦ absurd (stays_off i like (subst (TurnsOnTheSpot (after (first + i)))
                (let z : act.Step t.0 ≡ act.Step q = sym t.1 ∙ is in (let y : t.0 ≡ q = cc z in y)) t.2.spot))
          ]
        ]
      ]

      -- another head turns on the spot
      turned : (n p : ℕ) → p ≢ q → Like (after first) (after n) q → Staying (after n) (after (suc n)) p
          → Like (after first) (after (suc n)) q
      turned n p ne like s =
          record {
            setup = setup_kept (after n) (schedule n) ∙ like.setup;
            word = λ l. s.words l ∙ like.word l;
            rw = λ j. s.rw j ∙ like.rw j;
            node = λ k. s.nodes k ∙ like.node k;
            frame = λ c. s.others (record { cpu = q; ctx = c }) (λ e. ne (sym (ap (λ (u : Waiter). u.cpu) e))) ∙ like.frame c;
          }

      -- an act of the round
      on : (i : ℕ) → i < size → Like (after first) (after (first + i)) q
          → Like (after first) (after (suc (first + i))) q ⊎ (price (after (suc (first + i))) < price (after first))
      on i lt like = elim (lowers (first + i)) [
        | inl e ↦ inl (subst (λ (m : Machine). Like (after first) m q) (sym e) like)
        | inr x ↦ elim x [
          | inl less ↦ inr (let le = no_more first i in omega (arith, less, le))
          | inr p ↦ elim p.0 [
            | inl pause ↦ inl (subst (λ (m : Machine). Like (after first) m q)
                (sym (pause_same i lt (schedule (first + i)) refl pause)) like)
            | inr s ↦ elim (cases_eq s.0 q) [
              | inl e ↦ absurd (stays_off i like (subst (TurnsOnTheSpot (after (first + i))) e s.2.spot))
              | inr ne ↦ inl (turned (first + i) s.0 ne like s.2)
            ]
          ]
        ]
      ]

      changed : (i : ℕ) → i ≤ size → So i
      changed zero le = inl (subst (λ (m : Machine). Like (after first) m q) (sym first_is)
          (record { setup = refl; word = λ l. refl; rw = λ i. refl; node = λ k. refl; frame = λ c. refl }))
      changed (suc i) le =
          let e : suc (first + i) ≡ first + suc i = omega arith in
          subst (λ (j : ℕ). Like (after first) (after j) q ⊎ (price (after j) < price (after first))) e
          (by (changed i (omega (arith, le))))
        where
          by : So i → Like (after first) (after (suc (first + i))) q ⊎ (price (after (suc (first + i))) < price (after first))
          by (inl like) = on i (omega (arith, le)) like
          by (inr low) = inr (let z = act_lowers (first + i) in omega (arith, low, z))

      -- its step lowers the price
      lower_by : (n : ℕ) × (price (after n) < price (after first))
      lower_by =
          let t = round.steps q low in
          let lt = t.1 in
          elim (changed t.0 (omega (arith, lt))) [
            | inr less ↦ (first + t.0, less)
            | inl like ↦ (
              suc (first + t.0),
              let less = stepped t.0 lt like t.2 in let le = no_more first t.0 in omega (arith, less, le),
            )
          ]

  abbrev Finishes : Type 0
  Finishes = (n : ℕ) × ((p : ℕ) → p < processors setup → IsFinished (after n) p)

  pub finishes_from : (b n : ℕ) → price (after n) < b → Finishes
  finishes_from zero n lt = absurd (omega (arith, lt))
  finishes_from (suc b) n lt =
      let g = fair.rounds n in
      let first = g.0 in
      let r = come_to first in
      let le = never_more n first g.2 in
      elim (goes_on (after first) r
      (λ p low. ap (λ (j : ℕ). preempted_at (after j) p) (let e : first ≡ first + 0 = omega arith in e)
      ∙ g.3.runs 0 p (omega arith) (subst (λ (i : ℕ). p < i) (cpus (after first) r) low))) [
        | inl all ↦ (first, λ p low. all p (subst (λ (i : ℕ). p < i) (sym (cpus (after first) r)) low))
        | inr s ↦ (let t = lower_by first g.1 g.3 s.0 (subst (λ (i : ℕ). s.0 < i) (cpus (after first) r) s.1) s.2 in
            let less = t.1 in finishes_from b t.0 (omega (arith, lt, le, less)))
      ]

pub fair_runs_finish : FairRunsFinish
fair_runs_finish rank ranks setup schedule ok ordered awake has_room fair = elim (cases_Bool (moves_aside setup.mode)) [
  | inl aside ↦
      finishes_from IsFollowedAside setup schedule awake fair (start (IsAwake true) IsFollowedAside kept_aside setup ok)
      (λ m a r range. reached (IsAwake true) IsFollowedAside kept_aside setup (awake, aside) (λ e. has_room) (a ∷ []) m (range, tt) r)
      (λ m r free. goes_on_aside rank ranks setup ordered awake aside m r free)
      (suc (price (at_rest setup))) 0 (omega arith)
  | inr plain ↦
      finishes_from IsHeadFollowed setup schedule awake fair (start (IsAwake false) IsHeadFollowed kept_followed setup ok)
      (λ m a r range. reached (IsAwake false) IsHeadFollowed kept_followed setup (awake, plain) (λ e. has_room) (a ∷ []) m (range, tt) r)
      (λ m r free. leads_from rank ranks setup ordered awake plain m r free)
      (suc (price (at_rest setup))) 0 (omega arith)
]
