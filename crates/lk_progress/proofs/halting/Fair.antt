-- Where processors halt, everybody finishes under a fair schedule in which nudges come to an end.
use Rattle.std.proofs.Common.{◌≡◌, ◌⊎◌, inl, inr, ℕ, zero, suc, ◌<◌, ◌≤◌, ◌+◌, ◌-◌, Bool, true}
use Rattle.std.proofs.Common.{false, None, Some, refl, sym, ap, ◌∙◌, subst, arith, length}
use Rattle.std.proofs.Common.{if◌then◌else◌}
use Rattle.lk_progress.proofs.Names.{LockHistory, history_of, Act, LockName, idle, next}
use Rattle.lk_progress.proofs.Names.{processor_of, Machine, set_preempted, top_frame, IsLawfulSetup}
use Rattle.lk_progress.proofs.Names.{Frame, Setup, halts, IsHeadServed, setup_kept, SpinsAreFew}
use Rattle.lk_progress.proofs.Names.{IsOrdered, is_pause, GoesAround, IsFinished, StepsNowhere}
use Rattle.lk_rows.specs.Machine.{preempted_at}
use Rattle.lk_core.proofs.IdleActs.{preempted_now}
use Rattle.lk_progress.proofs.{Good.IsHalting, HaltingSteps.decided, Reached.{Reached, start}}
use Rattle.lk_progress.proofs.{Runs.all_or, RunsHalting.{finished_at, kept_served}}
use Rattle.lk_progress.proofs.halting.Back.{still_back}
use Rattle.lk_progress.proofs.halting.Budget.{IsQuietAct, act_spins, falls}
use Rattle.lk_progress.proofs.halting.Calm.{AllCalmer, soothe_all, steps_on, unrest_of}
use Rattle.lk_progress.proofs.halting.Ends.{cpus_is}
use Rattle.lk_progress.proofs.halting.Like.{LikeHalting, around_back, circle_like, like_sym}
use Rattle.lk_progress.proofs.{halting.Like.like_then, halting.Potential.Circles}
use Rattle.lk_progress.proofs.halting.Rest.{rest_spins}
use Rattle.lk_progress.specs.Fair.{after_first, processors, IsRound, IsFair, HaltingFairRunsFinish}
use Rattle.lk_progress.specs.HaltingPrice.{halting_price, is_nudge}
use Rattle.lk_names.specs.declared.events.Act.TheVariants as act

module _ (rank : ℕ → ℕ) (ranks : ℕ) (setup : Setup) (schedule : ℕ → Act) (ok : IsLawfulSetup setup) (ordered : IsOrdered rank ranks setup)
    (on : halts setup.mode ≡ true) (fair : IsFair setup schedule) (last : ℕ)
    (calm : (n : ℕ) → last ≤ n → is_nudge (schedule n) ≡ true → after_first setup schedule (suc n) ≡ after_first setup schedule n) where
  abbrev after : ℕ → Machine
  after n = after_first setup schedule n

  abbrev R : Machine → Type 0
  R m = Reached IsHeadServed setup m

  abbrev hs : (m : Machine) → R m → LockName → LockHistory
  hs m r l = history_of l r.events

  cpus : (m : Machine) → R m → length m.cpus ≡ processors setup
  cpus m r = r.shows.shows.whole.cpus ∙ ap processors r.setup_is

  halting : (m : Machine) → R m → halts m.setup.mode ≡ true
  halting m r = ap (λ (s : Setup). halts s.mode) r.setup_is ∙ on

  come_to : (n : ℕ) → R (after n)
  come_to zero = start IsHalting IsHeadServed kept_served setup ok
  come_to (suc n) =
      let r = come_to n in
      steps_on setup on (after n) (schedule n) r
      (subst (λ (i : ℕ). processor_of (schedule n) < i) (sym (cpus (after n) r)) (fair.inside n))

  within : (n : ℕ) → processor_of (schedule n) < length (after n).cpus
  within n = subst (λ (i : ℕ). processor_of (schedule n) < i) (sym (cpus (after n) (come_to n))) (fair.inside n)

  low_at : (n p : ℕ) → p < processors setup → p < length (after n).cpus
  low_at n p low = subst (λ (i : ℕ). p < i) (sym (cpus (after n) (come_to n))) low

  few_at : (n : ℕ) → SpinsAreFew (after n)
  few_at zero = rest_spins setup ok
  few_at (suc n) =
      let r = come_to n in
      act_spins (after n) (hs (after n) r) r.shows.shows (halting (after n) r) (few_at n) (schedule n) (within n)

  -- an act that leads nobody on
  abbrev Quiet : ℕ → Type 0
  Quiet n = IsQuietAct (after n) (hs (after n) (come_to n)) (come_to n).shows.shows (halting (after n) (come_to n)) (schedule n)

  -- what an act does to the price, where no nudge changes anything
  lowers : (n : ℕ) → last ≤ n → (after (suc n) ≡ after n) ⊎ (halting_price (after (suc n)) < halting_price (after n))
      ⊎ (Quiet n × (halting_price (after (suc n)) ≡ halting_price (after n)))
  lowers n late =
      let r = come_to n in
      elim (falls (after n) (hs (after n) r) r.shows.shows (halting (after n) r) (few_at n) (schedule n) (within n)) [
        | inl same ↦ inl same
        | inr x ↦ elim x [
          | inl lt ↦ inr (inl lt)
          | inr x ↦ elim x [ inl q ↦ inr (inr q) | inr z ↦ inl (calm n late z.0) ]
        ]
      ]

  act_lowers : (n : ℕ) → last ≤ n → halting_price (after (suc n)) ≤ halting_price (after n)
  act_lowers n late = elim (lowers n late) [
    | inl e ↦ equal (halting_price (after (suc n))) (halting_price (after n)) (ap halting_price e)
    | inr x ↦ elim x [
      | inl lt ↦ less (halting_price (after (suc n))) (halting_price (after n)) lt
      | inr p ↦ equal (halting_price (after (suc n))) (halting_price (after n)) p.1
    ]
  ]
    where
      equal : (x y : ℕ) → x ≡ y → x ≤ y
      equal x y e = omega (arith, e)

      less : (x y : ℕ) → x < y → x ≤ y
      less x y lt = omega (arith, lt)

  at_most : (x y z : ℕ) → x ≤ y → y ≤ z → x ≤ z
  at_most x y z a b = omega (arith, a, b)

  below : (x y z : ℕ) → x < y → y ≤ z → x < z
  below x y z a b = omega (arith, a, b)

  below_by : (x y z : ℕ) → x ≤ y → y < z → x < z
  below_by x y z a b = omega (arith, a, b)

  no_more : (n : ℕ) → last ≤ n → (k : ℕ) → halting_price (after (n + k)) ≤ halting_price (after n)
  no_more n late zero =
      let e : n + 0 ≡ n = omega arith in
      subst (λ (i : ℕ). halting_price (after (n + 0)) ≤ halting_price (after i)) e (omega arith)
  no_more n late (suc k) =
      let e : suc (n + k) ≡ n + suc k = omega arith in
      subst (λ (i : ℕ). halting_price (after i) ≤ halting_price (after n)) e
      (at_most (halting_price (after (suc (n + k)))) (halting_price (after (n + k))) (halting_price (after n))
      (act_lowers (n + k) (omega (arith, late))) (no_more n late k))

  never_more : (n k : ℕ) → last ≤ n → n ≤ k → halting_price (after k) ≤ halting_price (after n)
  never_more n k late le =
      let e : n + (k - n) ≡ k = omega (arith, le) in
      subst (λ (i : ℕ). halting_price (after i) ≤ halting_price (after n)) e (no_more n late (k - n))

  module _ (first size : ℕ) (late : last ≤ first) (round : IsRound setup schedule first size) where
    unpreempted : (i p : ℕ) → i ≤ size → p < length (after (first + i)).cpus → preempted_at (after (first + i)) p ≡ false
    unpreempted i p le lt = round.runs i p le (subst (λ (j : ℕ). p < j) (cpus (after (first + i)) (come_to (first + i))) lt)

    -- a pause in a round leaves the machine
    pause_same : (i : ℕ) → i < size → (a : Act) → schedule (first + i) ≡ a → is_pause a ≡ true
        → after (suc (first + i)) ≡ after (first + i)
    pause_same i lt (act.Preempt p) e pause =
        let n = first + i in
        let low : p < processors setup = subst (λ (b : Act). processor_of b < processors setup) e (fair.inside n) in
        let off = round.runs i p (omega (arith, lt)) low in
        let is : after (suc n) ≡ set_preempted (after n) p true =
        ap (λ (b : Act). (next (after n) b).0) e
        ∙ ap (λ (t : Bool). (if t then idle (after n) else (set_preempted (after n) p true, None)).0) off in
        let gone : preempted_at (after (suc n)) p ≡ true =
        ap (λ (m : Machine). preempted_at m p) is ∙ preempted_now (after n) p true (low_at n p low) in
        let next_is : suc n ≡ first + suc i = omega arith in
        let still : preempted_at (after (suc n)) p ≡ false =
        ap (λ (j : ℕ). preempted_at (after j) p) next_is ∙ round.runs (suc i) p (omega (arith, lt)) low in
        absurd (let z : true ≡ false = sym gone ∙ still in cc z)
    pause_same i lt (act.Resume p) e pause =
        let n = first + i in
        let low : p < processors setup = subst (λ (b : Act). processor_of b < processors setup) e (fair.inside n) in
        let off = round.runs i p (omega (arith, lt)) low in
        ap (λ (b : Act). (next (after n) b).0) e
        ∙ ap (λ (t : Bool). (if t then (set_preempted (after n) p false, None) else idle (after n)).0) off
    pause_same i lt (act.Step p) e pause = cc pause
    pause_same i lt (act.Interrupt p) e pause = cc pause
    pause_same i lt (act.Nudge p) e pause = cc pause

    -- m is the machine at the beginning of the round after heads that go around came to rest, in which the next step of q leads on
    module _ (m : Machine) (c : AllCalmer setup on (after first) m (length (after first).cpus)) (off : (p : ℕ) → p < length m.cpus → preempted_at m p ≡ false)
        (q : ℕ) (low : q < length m.cpus) (leads : StepsNowhere m q → ⊥) where
      r : R m
      r = c.reached

      abbrev So : ℕ → Type 0
      So n = LikeHalting m (after n) ⊎ (halting_price (after n) < halting_price (after first))

      low_q : q < processors setup
      low_q = subst (λ (j : ℕ). q < j) (cpus m r) low

      rests : (p : ℕ) → p < length m.cpus → GoesAround m p → unrest_of (top_frame m p) ≡ 0
      rests p lt t = c.rests p (subst (λ (j : ℕ). p < j) c.like.cpus lt) t

      -- the step of the processor itself
      stepped : (i : ℕ) → i < size → LikeHalting m (after (first + i)) → schedule (first + i) ≡ act.Step q
          → halting_price (after (suc (first + i))) < halting_price (after (first + i))
      stepped i lt like is = elim (lowers (first + i) (omega (arith, late))) [
        | inl e ↦ absurd (leads (inl (still_back m (after (first + i)) (hs m r) (hs (after (first + i)) (come_to (first + i))) r.shows.shows
            (come_to (first + i)).shows.shows (halting m r) off (λ p lt_p. unpreempted i p (omega (arith, lt)) lt_p) like rests q low (λ t. leads (inr t))
            (ap (λ (b : Act). (next (after (first + i)) b).0) (sym is) ∙ e))))
        | inr x ↦ elim x [
          | inl less ↦ less
          | inr p ↦ elim p.0 [
            | inl pause ↦ absurd (let z : is_pause (act.Step q) ≡ true = ap is_pause (sym is) ∙ pause in cc z)
            | inr t ↦ absurd (leads (inr (around_back m (after (first + i)) like q (subst (GoesAround (after (first + i)))
                (let z : act.Step t.0 ≡ act.Step q = sym t.1 ∙ is in (let y : t.0 ≡ q = cc z in y)) t.3.around)).0))
          ]
        ]
      ]

      -- an act of the round
      goes_on : (i : ℕ) → i < size → LikeHalting m (after (first + i)) → So (suc (first + i))
      goes_on i lt like = elim (lowers (first + i) (omega (arith, late))) [
        | inl e ↦ inl (subst (LikeHalting m) (sym e) like)
        | inr x ↦ elim x [
          | inl less ↦ inr (below (halting_price (after (suc (first + i)))) (halting_price (after (first + i))) (halting_price (after first)) less (no_more first late i))
          | inr p ↦ elim p.0 [
            | inl pause ↦ inl (subst (LikeHalting m) (sym (pause_same i lt (schedule (first + i)) refl pause)) like)
            | inr s ↦ inl (like_then m (after (first + i)) (after (suc (first + i))) like (turned (first + i) s.0 s.1 s.3))
          ]
        ]
      ]
        where
          turned : (n p : ℕ) → schedule n ≡ act.Step p → Circles (after n) (after (suc n)) p → LikeHalting (after n) (after (suc n))
          turned n p is z =
              let r = come_to n in
              circle_like (after n) (after (suc n)) (hs (after n) r) r.shows.shows p
              (subst (λ (b : Act). processor_of b < length (after n).cpus) is (within n))
              (setup_kept (after n) (schedule n))
              (cpus_is (after n) (hs (after n) r) r.shows.shows (halting (after n) r) (schedule n) (within n)) z

      changed : (i : ℕ) → i ≤ size → So (first + i)
      changed zero le =
          let e : first ≡ first + 0 = omega arith in
          inl (subst (λ (j : ℕ). LikeHalting m (after j)) e (like_sym (after first) m c.like))
      changed (suc i) le =
          let e : suc (first + i) ≡ first + suc i = omega arith in
          subst So e (by (changed i (omega (arith, le))))
        where
          by : So (first + i) → So (suc (first + i))
          by (inl like) = goes_on i (omega (arith, le)) like
          by (inr less) = inr (below_by (halting_price (after (suc (first + i)))) (halting_price (after (first + i))) (halting_price (after first))
              (act_lowers (first + i) (omega (arith, late))) less)

      -- its step lowers the price
      pub lower_by : (n : ℕ) × (last ≤ n) × (halting_price (after n) < halting_price (after first))
      lower_by =
          let t = round.steps q low_q in
          let lt = t.1 in
          elim (changed t.0 (omega (arith, lt))) [
            | inr less ↦ (first + t.0, omega (arith, late), less)
            | inl like ↦ (
              suc (first + t.0),
              omega (arith, late),
              below (halting_price (after (suc (first + t.0)))) (halting_price (after (first + t.0))) (halting_price (after first))
                  (stepped t.0 lt like t.2) (no_more first late t.0),
            )
          ]

    -- all have finished, or the price is lowered in the round
    off_first : (p : ℕ) → p < length (after first).cpus → preempted_at (after first) p ≡ false
    off_first p lt =
        let e : first + 0 ≡ first = omega arith in
        subst (λ (j : ℕ). preempted_at (after j) p ≡ false) e
        (round.runs 0 p (omega arith) (subst (λ (j : ℕ). p < j) (cpus (after first) (come_to first)) lt))

    round_lowers : ((p : ℕ) → p < processors setup → IsFinished (after first) p)
        ⊎ ((n : ℕ) × (last ≤ n) × (halting_price (after n) < halting_price (after first)))
    round_lowers =
        let c = soothe_all setup on (after first) (come_to first) off_first (length (after first).cpus) (omega arith) in
        by c.0 c.1
      where
        by : (m : Machine) → AllCalmer setup on (after first) m (length (after first).cpus)
            → ((p : ℕ) → p < processors setup → IsFinished (after first) p)
            ⊎ ((n : ℕ) × (last ≤ n) × (halting_price (after n) < halting_price (after first)))
        by m c =
            elim (all_or (length m.cpus) (StepsNowhere m) (λ p. StepsNowhere m p → ⊥)
            (λ p lt. decided m (hs m c.reached) c.reached.shows.shows (halting m c.reached) p lt off)) [
              | inl nowhere ↦ inl (λ p lt. ended p (finished_at rank ranks setup ordered on m c.reached off nowhere p
                  (subst (λ (j : ℕ). p < j) (sym (cpus m c.reached)) lt)))
              | inr z ↦ inr (lower_by m c off z.0 z.1 z.2)
            ]
          where
            off : (p : ℕ) → p < length m.cpus → preempted_at m p ≡ false
            off p lt = c.runs p ∙ off_first p (subst (λ (j : ℕ). p < j) c.like.cpus lt)

            ended : (p : ℕ) → IsFinished m p → IsFinished (after first) p
            ended p e = elim (c.like.tops p) [
              | inl same ↦ record { place = ap (λ (f : Frame). f.place) (sym same) ∙ e.place; alone = sym (c.like.depth p) ∙ e.alone }
              | inr z ↦ absurd (let y = z.1.here in let x = e.place in (let v : Some z.1.place ≡ None = sym y ∙ x in cc v))
            ]

  abbrev Finishes : Type 0
  Finishes = (n : ℕ) × ((p : ℕ) → p < processors setup → IsFinished (after n) p)

  finishes_from : (b n : ℕ) → last ≤ n → halting_price (after n) < b → Finishes
  finishes_from zero n late lt = absurd (omega (arith, lt))
  finishes_from (suc b) n late lt =
      let g = fair.rounds n in
      let first = g.0 in
      let le = g.2 in
      elim (round_lowers first g.1 (omega (arith, late, le)) g.3) [
        | inl all ↦ (first, all)
        | inr z ↦ finishes_from b z.0 z.1
            (lower (halting_price (after z.0)) (halting_price (after first)) (halting_price (after n)) b z.2 (never_more n first late le) lt)
      ]
    where
      lower : (x y z b : ℕ) → x < y → y ≤ z → z < suc b → x < b
      lower x y z b p q r = omega (arith, p, q, r)

  pub finishes : Finishes
  finishes = finishes_from (suc (halting_price (after last))) last (omega arith) (omega arith)

pub halting_fair_runs_finish : HaltingFairRunsFinish
halting_fair_runs_finish rank ranks setup schedule ok ordered on fair ends =
    finishes rank ranks setup schedule ok ordered on fair ends.0 ends.1
