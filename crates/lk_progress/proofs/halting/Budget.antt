-- Where processors halt every act lowers the price that changes something and leads somebody on, but for the ends of
-- halts without a kick.
use Rattle.std.proofs.Common.{◌≡◌, ◌≢◌, ◌⊎◌, inl, inr, ℕ, suc, ◌<◌, ◌≤◌, ◌+◌, ◌*◌, None, Bool, true}
use Rattle.std.proofs.Common.{false, refl, sym, ap, ◌∙◌, subst, arith, List, [], ◌∷◌, length}
use Rattle.std.proofs.Common.{if◌then◌else◌, ◌||◌, ◌&&◌, not, nat_le}
use Rattle.lk_progress.proofs.Names.{cases_Bool, leb-false, or_parts, LockHistory, history_of, Act}
use Rattle.lk_progress.proofs.Names.{Event, LockName, handler_frame, idle, is_shut, kicked_awake}
use Rattle.lk_progress.proofs.Names.{next, nudged, processor_of, stands_halting, step_halted, woken}
use Rattle.lk_progress.proofs.Names.{Machine, halted_at, handlers_at, kicked_at, push}
use Rattle.lk_progress.proofs.Names.{set_preempted, top_frame, settled}
use Rattle.lk_progress.proofs.Names.{handlers_of, row, Frame, Setup, halts, with_event, ShowsLawful}
use Rattle.lk_progress.proofs.Names.{ShowsAll, World, act_kept, acts_keep, KeepsFrames}
use Rattle.lk_progress.proofs.Names.{world-set_preempted, setup_kept, halting_turn_of, SpinsAreFew}
use Rattle.lk_progress.proofs.Names.{halting_budget, halting_cpu_weight, halting_debt}
use Rattle.lk_progress.proofs.Names.{halting_turns, halting_weight, kick_turns, is_pause, sum_below}
use Rattle.lk_rows.specs.{Acts.{interrupted, awake}, Machine.{frame_at, preempted_at, depth_at}}
use Rattle.lk_law.specs.Steps.{told_on}
use Rattle.lk_core.proofs.Same.{same_set_preempted, same_self}
use Rattle.lk_progress.proofs.{Sums.{sum_same, times_less}, Woken.woken_keeps}
use Rattle.lk_progress.proofs.halting.Bound.{halting_turns_few}
use Rattle.lk_progress.proofs.halting.Ends.{cpus_is, pending_same, weight_same, comes, comes_spins}
use Rattle.lk_progress.proofs.halting.Ends.{woken_budget, woken_spins, kicked_budget, kicked_spins}
use Rattle.lk_progress.proofs.halting.Ends.{kick_pays}
use Rattle.lk_progress.proofs.halting.Potential.{Circles, halting_lowers, halting_handlers}
use Rattle.lk_progress.proofs.halting.Potential.{row_spins}
use Rattle.lk_progress.specs.HaltingPrice.{six_turns, halting_cost, halting_price, is_nudge}
use Rattle.lk_progress.specs.HaltingPrice.{HaltingLeadsNobodyOn, HaltingActsLower}
use Rattle.lk_progress.specs.HaltingPrice.{HaltingPriceFalls, HasHaltingChanges}
use Rattle.lk_progress.specs.HaltingPrice.{HaltingRunsAreShort}
use Rattle.lk_names.specs.declared.events.Act.TheVariants as act

module _ (m : Machine) (hs : LockName → LockHistory) (shows : ShowsAll m hs) (on : halts m.setup.mode ≡ true) where
  -- a pause
  paused_budget : (p : ℕ) (b : Bool) → halting_budget (set_preempted m p b) ≡ halting_budget m
  paused_budget p b =
      let w = world-set_preempted m p b in
      let same = same_set_preempted m p b in
      let k : Machine = set_preempted m p b in
      let a : sum_below (length k.cpus) (λ q. halting_cpu_weight k q) ≡ sum_below (length k.cpus) (λ q. halting_cpu_weight m q) =
      sum_same (length k.cpus) (λ q. halting_cpu_weight m q) (λ q. halting_cpu_weight k q)
      (λ q lt. sum_same 6 (λ i. halting_weight m q (frame_at m (record { cpu = q; ctx = i })))
      (λ i. halting_weight k q (frame_at k (record { cpu = q; ctx = i })))
      (λ i lt. weight_same m hs shows on k same.keeps.setup q (frame_at k (record { cpu = q; ctx = i }))
      ∙ ap (λ (y : World). halting_weight m q (y.frame (record { cpu = q; ctx = i }))) w)) in
      let c = ap (λ (i : ℕ). sum_below i (λ q. halting_cpu_weight m q)) same.keeps.cpus in
      let d = pending_same m hs shows on k same.keeps.setup same.keeps.cpus same.handlers in
      omega (arith, a, c, d)

  paused_turns : (p : ℕ) (b : Bool) → halting_turns (set_preempted m p b) ≡ halting_turns m
  paused_turns p b =
      ap (λ (y : World). sum_below (length (set_preempted m p b).cpus)
      (λ q. sum_below 6 (λ i. halting_turn_of y (record { cpu = q; ctx = i }) (y.frame (record { cpu = q; ctx = i }))) + kick_turns y.turns (y.kicked q)))
      (world-set_preempted m p b)
      ∙ ap (λ (n : ℕ). sum_below n (λ q. halting_debt m q)) (same_set_preempted m p b).keeps.cpus

  -- the price goes by the budget, the setup, the turns, and the number of processors
  price_same : (n : Machine) → n.setup ≡ m.setup → length n.cpus ≡ length m.cpus → halting_budget n ≡ halting_budget m
      → halting_turns n ≡ halting_turns m → halting_price n ≡ halting_price m
  price_same n setup cpus left same =
      ap (λ (x : ℕ). x * halting_cost n.setup.spins (length n.cpus) + halting_turns n) left
      ∙ ap (λ (s : Setup). halting_budget m * halting_cost s.spins (length n.cpus) + halting_turns n) setup
      ∙ ap (λ (i : ℕ). halting_budget m * halting_cost m.setup.spins i + halting_turns n) cpus
      ∙ ap (λ (t : ℕ). halting_budget m * halting_cost m.setup.spins (length m.cpus) + t) same

  paused_price : (p : ℕ) (b : Bool) → halting_price (set_preempted m p b) ≡ halting_price m
  paused_price p b =
      let same = same_set_preempted m p b in
      price_same (set_preempted m p b) same.keeps.setup same.keeps.cpus (paused_budget p b) (paused_turns p b)

  -- an act that leads nobody on: a pause, or a step of a head that goes around, of which little changes
  abbrev pub IsQuietAct : Act → Type 0
  IsQuietAct a = (is_pause a ≡ true) ⊎ ((p : ℕ) × (a ≡ act.Step p) × (preempted_at m p ≡ false) × Circles m (next m a).0 p)

  abbrev Lowered : Act → Type 0
  Lowered a = ((next m a).0 ≡ m) ⊎ (halting_budget (next m a).0 < halting_budget m)
      ⊎ ((is_nudge a ≡ true) × (halting_budget (next m a).0 ≡ halting_budget m))
      ⊎ (IsQuietAct a × (halting_budget (next m a).0 ≡ halting_budget m) × (halting_price (next m a).0 ≡ halting_price m))
      ⊎ ((p : ℕ) × (a ≡ act.Step p) × (halting_budget (next m a).0 ≡ halting_budget m) × (halting_turns (next m a).0 < halting_turns m))

  -- a step of a processor that has halted
  halted_steps : SpinsAreFew m → (p : ℕ) → p < length m.cpus → preempted_at m p ≡ false → halted_at m p ≡ true → Lowered (act.Step p)
  halted_steps few p range off h = by (kicked_at m p) refl
    where
      to : (b : Bool) → kicked_at m p ≡ b → (next m (act.Step p)).0 ≡ (if b then kicked_awake m p else idle m).0
      to b e =
          ap (λ (t : Bool). (if t then idle m else (if halted_at m p then step_halted m p else row m p)).0) off
          ∙ ap (λ (t : Bool). (if t then step_halted m p else row m p).0) h
          ∙ ap (λ (t : Bool). (if t then kicked_awake m p else idle m).0) e

      by : (b : Bool) → kicked_at m p ≡ b → Lowered (act.Step p)
      by false e = inl (to false e)
      by true e =
          inr (inr (inr (inr (
            p,
            refl,
            ap halting_budget (to true e) ∙ kicked_budget m hs shows on p range h,
            subst (λ (y : Machine). halting_turns y < halting_turns m) (sym (to true e)) (kick_pays m hs shows on p range h e few),
          ))))

  running_steps : (p : ℕ) → p < length m.cpus → preempted_at m p ≡ false → halted_at m p ≡ false → Lowered (act.Step p)
  running_steps p range off up =
      let h = pending_same m hs shows on (next m (act.Step p)).0 (setup_kept m (act.Step p)) (cpus_is m hs shows on (act.Step p) range)
      (halting_handlers m hs p shows on range off up) in
      elim (halting_lowers m hs p shows on range off up) [
        | inl same ↦ inl same
        | inr r ↦ elim r [
          | inl lt ↦ inr (inl (omega (arith, lt, h)))
          | inr r ↦ elim r [
            | inl z ↦ (let l = z.0 in inr (inr (inr (inr (p, refl, omega (arith, l, h), z.1)))))
            | inr z ↦
                let l = z.left in
                let b : halting_budget (next m (act.Step p)).0 ≡ halting_budget m = omega (arith, l, h) in
                inr (inr (inr (inl (
                  inr (p, refl, off, z),
                  b,
                  price_same (next m (act.Step p)).0 (setup_kept m (act.Step p)) (cpus_is m hs shows on (act.Step p) range) b z.same,
                ))))
          ]
        ]
      ]

-- what of an interrupt that comes is known
or_open : (m : Machine) (p : ℕ) → is_shut m p ≡ false
    → (preempted_at m p ≡ false) × (depth_at m p < 6) × (handlers_at m p < handlers_of m.setup p)
or_open m p e =
    let a = or_parts
    (preempted_at m p || nat_le 6 (depth_at m p)
    || nat_le (handlers_of m.setup p) (handlers_at m p))
    (stands_halting (top_frame m p).place && not (halted_at m p)) e in
    let b =
    or_parts (preempted_at m p || nat_le 6 (depth_at m p))
    (nat_le (handlers_of m.setup p) (handlers_at m p)) a.0 in
    let c = or_parts (preempted_at m p) (nat_le 6 (depth_at m p)) b.0 in
    (c.0, leb-false 6 (depth_at m p) c.1, leb-false (handlers_of m.setup p) (handlers_at m p) b.1)

module _ (m : Machine) (hs : LockName → LockHistory) (shows : ShowsAll m hs) (on : halts m.setup.mode ≡ true) where
  -- the machine to which the frame of an interrupt comes: its processor has not halted, or was woken
  module _ (p : ℕ) (range : p < length m.cpus) (shut : is_shut m p ≡ false) where
    unpreempted : preempted_at m p ≡ false
    unpreempted = (or_open m p shut).0

    is : (next m (act.Interrupt p)).0 ≡ settled (push (awake m p) p (handler_frame m p)) p (handler_frame m p)
    is = ap (λ (t : Bool). (if t then idle m else interrupted m p).0) shut

    -- to a machine n that is awake
    came_to : (n : Machine) → awake m p ≡ n → KeepsFrames m n → (gs : LockName → LockHistory) → ShowsAll n gs
        → halting_budget n ≡ halting_budget m → (SpinsAreFew m → SpinsAreFew n)
        → (halting_budget (next m (act.Interrupt p)).0 < halting_budget m)
        × (SpinsAreFew m → SpinsAreFew (next m (act.Interrupt p)).0)
    came_to n e same gs now left few =
        let parts = or_open m p shut in
        let frame : handler_frame n p ≡ handler_frame m p =
        (λ i. record Rattle.lk_rows.specs.Machine.rest_frame { ctx = same.depth p i; program = same.handlers p i + 1 }) in
        let to : (next m (act.Interrupt p)).0 ≡ settled (push n p (handler_frame n p)) p (handler_frame n p) =
        is ∙ ap (λ (y : Machine). settled (push y p (handler_frame m p)) p (handler_frame m p)) e
        ∙ ap (λ (g : Frame). settled (push n p g) p g) (sym frame) in
        let low : p < length n.cpus = subst (λ (i : ℕ). p < i) (sym same.keeps.cpus) range in
        let shallow : depth_at n p < 6 = subst (λ (i : ℕ). i < 6) (sym (same.depth p)) parts.1 in
        let more : handlers_at n p < handlers_of n.setup p =
        subst (λ (i : ℕ). i < handlers_of n.setup p) (sym (same.handlers p))
        (subst (λ (s : Setup). handlers_at m p < handlers_of s p) (sym same.keeps.setup) parts.2) in
        let setup : (settled (push n p (handler_frame n p)) p (handler_frame n p)).setup ≡ n.setup =
        ap (λ (y : Machine). y.setup) (sym to) ∙ setup_kept m (act.Interrupt p) ∙ sym same.keeps.setup in
        let cpus : length (settled (push n p (handler_frame n p)) p (handler_frame n p)).cpus ≡ length n.cpus =
        ap (λ (y : Machine). length y.cpus) (sym to) ∙ cpus_is m hs shows on (act.Interrupt p) range ∙ sym same.keeps.cpus in
        let halting : halts n.setup.mode ≡ true = ap (λ (s : Setup). halts s.mode) same.keeps.setup ∙ on in
        let lt = comes n gs now halting p low shallow more setup cpus in (
          subst (λ (y : Machine). halting_budget y < halting_budget m) (sym to) (omega (arith, lt, left)),
          λ z. subst SpinsAreFew (sym to) (comes_spins n gs now halting p low shallow more (few z) setup),
        )

    came : (halting_budget (next m (act.Interrupt p)).0 < halting_budget m)
        × (SpinsAreFew m → SpinsAreFew (next m (act.Interrupt p)).0)
    came = elim (cases_Bool (halted_at m p)) [
      | inr h ↦ came_to m (ap (λ (t : Bool). if t then woken m p else m) h) (same_self m) hs shows refl (λ z. z)
      | inl h ↦
          let runs : preempted_at m p || not (halted_at m p) ≡ false = (let a = unpreempted in grind (arith, a, h)) in
          let to : (next m (act.Nudge p)).0 ≡ woken m p = ap (λ (t : Bool). (if t then idle m else nudged m p).0) runs in
          let after = act_kept m hs shows (act.Nudge p) range in
          came_to (woken m p) (ap (λ (t : Bool). if t then woken m p else m) h) (woken_keeps m p)
          (told_on hs (next m (act.Nudge p)).1)
          (subst (λ (y : Machine). ShowsAll y (told_on hs (next m (act.Nudge p)).1)) to after.shows) (woken_budget m hs shows on p range h) (woken_spins m hs shows on p range h)
    ]

  pub act_lowers : SpinsAreFew m → (a : Act) → processor_of a < length m.cpus → Lowered m hs shows on a
  act_lowers few (act.Step p) range = elim (cases_Bool (preempted_at m p)) [
    | inl e ↦ inl (ap (λ (b : Bool). (if b then idle m else (if halted_at m p then step_halted m p else row m p)).0) e)
    | inr e ↦ elim (cases_Bool (halted_at m p)) [
      | inl h ↦ halted_steps m hs shows on few p range e h
      | inr h ↦ running_steps m hs shows on p range e h
    ]
  ]
  act_lowers few (act.Interrupt p) range = elim (cases_Bool (is_shut m p)) [
    | inl e ↦ inl (ap (λ (t : Bool). (if t then idle m else interrupted m p).0) e)
    | inr e ↦ inr (inl (came p range e).0)
  ]
  act_lowers few (act.Preempt p) range = elim (cases_Bool (preempted_at m p)) [
    | inl e ↦ inl (ap (λ (t : Bool). (if t then idle m else (set_preempted m p true, None)).0) e)
    | inr e ↦
        let to : (next m (act.Preempt p)).0 ≡ set_preempted m p true = ap (λ (t : Bool). (if t then idle m else (set_preempted m p true, None)).0) e in
        inr (inr (inr (inl (
          inl refl,
          ap halting_budget to ∙ paused_budget m hs shows on p true,
          ap halting_price to ∙ paused_price m hs shows on p true,
        ))))
  ]
  act_lowers few (act.Resume p) range = elim (cases_Bool (preempted_at m p)) [
    | inr e ↦ inl (ap (λ (t : Bool). (if t then (set_preempted m p false, None) else idle m).0) e)
    | inl e ↦
        let to : (next m (act.Resume p)).0 ≡ set_preempted m p false = ap (λ (t : Bool). (if t then (set_preempted m p false, None) else idle m).0) e in
        inr (inr (inr (inl (
          inl refl,
          ap halting_budget to ∙ paused_budget m hs shows on p false,
          ap halting_price to ∙ paused_price m hs shows on p false,
        ))))
  ]
  act_lowers few (act.Nudge p) range = elim (cases_Bool (preempted_at m p || not (halted_at m p))) [
    | inl e ↦ inl (ap (λ (t : Bool). (if t then idle m else nudged m p).0) e)
    | inr e ↦
        let to : (next m (act.Nudge p)).0 ≡ woken m p = ap (λ (t : Bool). (if t then idle m else nudged m p).0) e in
        let h : halted_at m p ≡ true = grind (arith, e) in
        inr (inr (inl (refl, ap halting_budget to ∙ woken_budget m hs shows on p range h)))
  ]

  paused_spins : (p : ℕ) (b : Bool) → SpinsAreFew m → SpinsAreFew (set_preempted m p b)
  paused_spins p b few u f e =
      subst (λ (s : Setup). f.left ≤ s.spins) (sym (same_set_preempted m p b).keeps.setup)
      (few u f (sym (ap (λ (y : World). y.frame u) (world-set_preempted m p b)) ∙ e))

  -- no act leaves more turns of a spin than the spin bound says
  pub act_spins : SpinsAreFew m → (a : Act) → processor_of a < length m.cpus → SpinsAreFew (next m a).0
  act_spins few (act.Step p) range = elim (cases_Bool (preempted_at m p)) [
    | inl e ↦ rw e few
    | inr e ↦ elim (cases_Bool (halted_at m p)) [
      | inl h ↦ rw (e, h) (elim (cases_Bool (kicked_at m p)) [
        | inl k ↦ rw k (kicked_spins m hs shows on p range h few)
        | inr k ↦ rw k few
      ])
      | inr h ↦ rw (e, h) (row_spins m hs p shows on range e h few)
    ]
  ]
  act_spins few (act.Interrupt p) range = elim (cases_Bool (is_shut m p)) [
    | inl e ↦ rw e few
    | inr e ↦ (came p range e).1 few
  ]
  act_spins few (act.Preempt p) range = elim (cases_Bool (preempted_at m p)) [
    | inl e ↦ rw e few
    | inr e ↦ rw e (paused_spins p true few)
  ]
  act_spins few (act.Resume p) range = elim (cases_Bool (preempted_at m p)) [
    | inl e ↦ rw e (paused_spins p false few)
    | inr e ↦ rw e few
  ]
  act_spins few (act.Nudge p) range = elim (cases_Bool (preempted_at m p || not (halted_at m p))) [
    | inl e ↦ rw e few
    | inr e ↦ rw e (woken_spins m hs shows on p range (grind (arith, e)) few)
  ]

  -- a lower budget pays for all turns that are spoilt, and the cost of one row for a halt that ends without a kick
  turns_below : (n : Machine) → n.setup ≡ m.setup → length n.cpus ≡ length m.cpus → SpinsAreFew n
      → halting_turns n < halting_cost m.setup.spins (length m.cpus)
  turns_below n setup cpus few =
      subst (λ (i : ℕ). halting_turns n < i * (2 * six_turns m.setup.spins + 1) + 1) cpus
      (subst (λ (s : Setup). halting_turns n < length n.cpus * (2 * six_turns s.spins + 1) + 1) setup
      (let z = halting_turns_few n few in less_one (halting_turns n) (length n.cpus * (2 * six_turns n.setup.spins + 1)) z))
    where
      less_one : (t k : ℕ) → t ≤ k → t < k + 1
      less_one t k le = omega (arith, le)

  price_is : (n : Machine) → n.setup ≡ m.setup → length n.cpus ≡ length m.cpus
      → halting_price n ≡ halting_budget n * halting_cost m.setup.spins (length m.cpus) + halting_turns n
  price_is n setup cpus =
      ap (λ (s : Setup). halting_budget n * halting_cost s.spins (length n.cpus) + halting_turns n) setup
      ∙ ap (λ (i : ℕ). halting_budget n * halting_cost m.setup.spins i + halting_turns n) cpus

  pub falls : SpinsAreFew m → (a : Act) → processor_of a < length m.cpus
      → ((next m a).0 ≡ m) ⊎ (halting_price (next m a).0 < halting_price m)
      ⊎ (IsQuietAct m hs shows on a × (halting_price (next m a).0 ≡ halting_price m))
      ⊎ ((is_nudge a ≡ true) × (halting_price (next m a).0 < halting_price m + halting_cost m.setup.spins (length m.cpus)))
  falls few a range =
      let spins = act_spins few a range in
      let setup = setup_kept m a in
      let cpus = cpus_is m hs shows on a range in
      let cost = halting_cost m.setup.spins (length m.cpus) in
      let now = price_is (next m a).0 setup cpus in
      let below = turns_below (next m a).0 setup cpus spins in
      elim (act_lowers few a range) [
        | inl same ↦ inl same
        | inr x ↦ elim x [
          | inl lt ↦ inr (inl (pays (halting_budget (next m a).0 * cost) cost (halting_budget m * cost) (halting_price (next m a).0)
              (halting_turns (next m a).0) (halting_turns m) (times_less cost (halting_budget (next m a).0) (halting_budget m) lt) below now))
          | inr x ↦ elim x [
            | inl z ↦ inr (inr (inr (
              z.0,
              raised (halting_budget m * cost) cost (halting_price (next m a).0)
                  (halting_turns (next m a).0) (halting_turns m) below (now ∙ ap (λ (i : ℕ). i * cost + halting_turns (next m a).0) z.1),
            )))
            | inr x ↦ elim x [
              | inl z ↦ inr (inr (inl (z.0, z.2)))
              | inr z ↦ inr (inl (nearer (halting_budget m * cost) (halting_price (next m a).0) (halting_turns (next m a).0) (halting_turns m) z.3
                  (now ∙ ap (λ (i : ℕ). i * cost + halting_turns (next m a).0) z.2)))
            ]
          ]
        ]
      ]
    where
      pays : (x k y q t u : ℕ) → x + k ≤ y → t < k → q ≡ x + t → q < y + u
      pays x k y q t u le lt e = omega (arith, le, lt, e)

      raised : (x k q t u : ℕ) → t < k → q ≡ x + t → q < x + u + k
      raised x k q t u lt e = omega (arith, lt, e)

      nearer : (x q t u : ℕ) → t < u → q ≡ x + t → q < x + u
      nearer x q t u lt e = omega (arith, lt, e)

leads_nobody : (m : Machine) (hs : LockName → LockHistory) (shows : ShowsAll m hs) (on : halts m.setup.mode ≡ true) (a : Act)
    → IsQuietAct m hs shows on a → HaltingLeadsNobodyOn m a
leads_nobody m hs shows on a (inl pause) = inl pause
leads_nobody m hs shows on a (inr s) = inr (s.0, s.1, s.3.around)

pub halting_acts_lower : HaltingActsLower
halting_acts_lower m hs a shows on few range = elim (act_lowers m hs shows on few a range) [
  | inl same ↦ inl same
  | inr x ↦ elim x [
    | inl lt ↦ inr (inl lt)
    | inr x ↦ elim x [
      | inl z ↦ inr (inr (inl z))
      | inr x ↦ elim x [
        | inl z ↦ inr (inr (inr (inl (leads_nobody m hs shows on a z.0, z.1, z.2))))
        | inr z ↦ inr (inr (inr (inr z)))
      ]
    ]
  ]
]

pub halting_price_falls : HaltingPriceFalls
halting_price_falls m hs a shows on few range = elim (falls m hs shows on few a range) [
  | inl same ↦ inl same
  | inr x ↦ elim x [
    | inl lt ↦ inr (inl lt)
    | inr x ↦ elim x [
      | inl z ↦ inr (inr (inl (leads_nobody m hs shows on a z.0, z.1)))
      | inr z ↦ inr (inr (inr z))
    ]
  ]
]

-- no nudge leads nobody on
nudge_leads : (m : Machine) (a : Act) → is_nudge a ≡ true → HaltingLeadsNobodyOn m a → ⊥
nudge_leads m (act.Nudge p) e (inl z) = cc z
nudge_leads m (act.Nudge p) e (inr z) = let y = z.1 in cc y
nudge_leads m (act.Step p) e z = cc e
nudge_leads m (act.Interrupt p) e z = cc e
nudge_leads m (act.Preempt p) e z = cc e
nudge_leads m (act.Resume p) e z = cc e

-- a machine of this family, and its events
pub record IsHaltingShown (m : Machine) : Type 0 where
  pub events : List Event
  pub shows : ShowsLawful m events
  pub on : halts m.setup.mode ≡ true
  pub few : SpinsAreFew m

pub shown_on : (m : Machine) (a : Act) → IsHaltingShown m → processor_of a < length m.cpus → IsHaltingShown (next m a).0
shown_on m a s range = record {
  events = with_event s.events (next m a).1;
  shows = acts_keep m s.events a range s.shows;
  on = ap (λ (r : Setup). halts r.mode) (setup_kept m a) ∙ s.on;
  few = act_spins m (λ l. history_of l s.events) s.shows.shows s.on s.few a range;
}

same_or : (k c p q : ℕ) → k ≤ p + c → p ≡ q → k ≤ q + c
same_or k c p q h e = omega (arith, h, e)

less_or : (k c p q : ℕ) → k ≤ p + c → p < q → k ≤ q + c
less_or k c p q h e = omega (arith, h, e)

less_by : (i c p q : ℕ) → i ≤ p + c → p < q → suc i ≤ q + c
less_by i c p q h e = omega (arith, h, e)

one_more : (k i c p q : ℕ) → k ≤ p + i * c → p ≤ q + c → k ≤ q + suc i * c
one_more k i c p q h e = omega (arith, h, e)

-- an act of a run, and the rest of it
module _ (m : Machine) (a : Act) (s : IsHaltingShown m) (range : processor_of a < length m.cpus) where
  abbrev before : ℕ
  before = halting_price m

  abbrev after : ℕ
  after = halting_price (next m a).0

  abbrev cost : ℕ
  cost = halting_cost m.setup.spins (length m.cpus)

  low : ((next m a).0 ≡ m) ⊎ (after < before) ⊎ (HaltingLeadsNobodyOn m a × (after ≡ before)) ⊎ ((is_nudge a ≡ true) × (after < before + cost))
  low = halting_price_falls m (λ l. history_of l s.events) a s.shows.shows s.on s.few range

  cost_same : halting_cost (next m a).0.setup.spins (length (next m a).0.cpus) ≡ cost
  cost_same =
      ap (λ (r : Setup). halting_cost r.spins (length (next m a).0.cpus)) (setup_kept m a)
      ∙ ap (halting_cost m.setup.spins) (cpus_is m (λ l. history_of l s.events) s.shows.shows s.on a range)

  quiet : (k c : ℕ) → ((next m a).0 ≡ m) ⊎ HaltingLeadsNobodyOn m a → k ≤ after + c → k ≤ before + c
  quiet k c (inl same) h = same_or k c after before h (ap halting_price same)
  quiet k c (inr off) h = elim low [
    | inl same ↦ same_or k c after before h (ap halting_price same)
    | inr x ↦ elim x [
      | inl lt ↦ less_or k c after before h lt
      | inr x ↦ elim x [
        | inl q ↦ same_or k c after before h q.1
        | inr q ↦ absurd (nudge_leads m a q.0 off)
      ]
    ]
  ]

  raised : after ≤ before + cost
  raised = elim low [
    | inl e ↦ same after before cost (ap halting_price e)
    | inr x ↦ elim x [
      | inl lt ↦ most after before cost lt
      | inr x ↦ elim x [ inl q ↦ same after before cost q.1 | inr q ↦ weak after (before + cost) q.1 ]
    ]
  ]
    where
      most : (p q c : ℕ) → p < q → p ≤ q + c
      most p q c lt = omega (arith, lt)

      same : (p q c : ℕ) → p ≡ q → p ≤ q + c
      same p q c e = omega (arith, e)

      weak : (p q : ℕ) → p < q → p ≤ q
      weak p q lt = omega (arith, lt)

  lowered : is_nudge a ≡ false → (next m a).0 ≢ m → (HaltingLeadsNobodyOn m a → ⊥) → (i c : ℕ) → i ≤ after + c → suc i ≤ before + c
  lowered kick moves leads i c h = elim low [
    | inl same ↦ absurd (moves same)
    | inr x ↦ elim x [
      | inl lt ↦ less_by i c after before h lt
      | inr x ↦ elim x [ inl q ↦ absurd (leads q.0) | inr q ↦ absurd (let b = q.0 in cc (kick, b)) ]
    ]
  ]

  counts : (k j : ℕ) (acts : List Act)
      → ((k j : ℕ) → HasHaltingChanges (next m a).0 acts k j
      → k ≤ after + j * halting_cost (next m a).0.setup.spins (length (next m a).0.cpus))
      → HasHaltingChanges m (a ∷ acts) k j → k ≤ before + j * cost
  counts k j acts ih z = by z.1
    where
      rest : (k j : ℕ) → HasHaltingChanges (next m a).0 acts k j → k ≤ after + j * cost
      rest k j h = subst (λ (i : ℕ). k ≤ after + j * i) cost_same (ih k j h)

      by : ((((next m a).0 ≡ m) ⊎ HaltingLeadsNobodyOn m a) × HasHaltingChanges (next m a).0 acts k j)
          ⊎ ((i : ℕ) × (j ≡ suc i) × (is_nudge a ≡ true) × ((next m a).0 ≢ m) × HasHaltingChanges (next m a).0 acts k i)
          ⊎ ((i : ℕ) × (k ≡ suc i) × (is_nudge a ≡ false) × ((next m a).0 ≢ m) × (HaltingLeadsNobodyOn m a → ⊥)
          × HasHaltingChanges (next m a).0 acts i j)
          → k ≤ before + j * cost
      by (inl y) = quiet k (j * cost) y.0 (rest k j y.1)
      by (inr (inl y)) = subst (λ (i : ℕ). k ≤ before + i * cost) (sym y.1) (one_more k y.0 cost after before (rest k y.0 y.4) raised)
      by (inr (inr y)) = subst (λ (i : ℕ). i ≤ before + j * cost) (sym y.1) (lowered y.2 y.3 y.4 y.0 (j * cost) (rest y.0 j y.5))

changes_bounded : (m : Machine) (acts : List Act) (k j : ℕ) → IsHaltingShown m → HasHaltingChanges m acts k j
    → k ≤ halting_price m + j * halting_cost m.setup.spins (length m.cpus)
changes_bounded m [] k j s z = least k (halting_price m + j * halting_cost m.setup.spins (length m.cpus)) z.0
  where
    least : (k n : ℕ) → k ≡ 0 → k ≤ n
    least k n e = omega (arith, e)
changes_bounded m (a ∷ acts) k j s z =
    counts m a s z.0 k j acts (λ k j h. changes_bounded (next m a).0 acts k j (shown_on m a s z.0) h) z

pub halting_runs_are_short : HaltingRunsAreShort
halting_runs_are_short m es acts k j shows on few z =
    changes_bounded m acts k j (record { events = es; shows = shows; on = on; few = few }) z
