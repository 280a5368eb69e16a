-- Every act lowers the price that changes something and leads somebody on.
use Rattle.std.proofs.Common.{◌≡◌, ◌≢◌, ◌⊎◌, inl, inr, ℕ, ◌<◌, ◌≤◌, ◌+◌, ◌-◌, ◌*◌, Option, Some}
use Rattle.std.proofs.Common.{None, Bool, true, false, refl, sym, ap, ◌∙◌, subst, arith, List, []}
use Rattle.std.proofs.Common.{◌∷◌, length, if◌then◌else◌, ◌||◌, ◌&&◌, not, nat_le, nat_lt}
use Rattle.lk_progress.proofs.Names.{cases_Bool, cases_lt, leb-false, or_parts, LockHistory}
use Rattle.lk_progress.proofs.Names.{history_of, same_waiter, Act, Event, LockName, Mode, Waiter}
use Rattle.lk_progress.proofs.Names.{handler_frame, idle, is_shut, next, processor_of}
use Rattle.lk_progress.proofs.Names.{stands_halting, step_halted, woken, HasTop, Machine, halted_at}
use Rattle.lk_progress.proofs.Names.{handlers_at, push, set_preempted, top_frame, top_of, settled}
use Rattle.lk_progress.proofs.Names.{started, handlers_of, program_at, row, Frame, Setup}
use Rattle.lk_progress.proofs.Names.{nobody_halts, same_waiter-else, same_waiter-self, halts}
use Rattle.lk_progress.proofs.Names.{moves_aside, with_event, ShowsLawful, ShowsAll, world}
use Rattle.lk_progress.proofs.Names.{spin_part, World, above_top, act_kept, acts_keep, depth_push}
use Rattle.lk_progress.proofs.Names.{tops_push, next_of, world-push, world-set_preempted}
use Rattle.lk_progress.proofs.Names.{setup_kept, left_in, turn_of, cpu_turns, is_pause, price}
use Rattle.lk_progress.proofs.Names.{sum_below, turns}
use Rattle.lk_rows.specs.Machine.{frame_at, preempted_at, depth_at}
use Rattle.lk_core.proofs.Same.{handlers_push, handlers_push_other, same_set_preempted}
use Rattle.lk_progress.proofs.{Descends.begin_is_short, Moves.{Settles, Settled, settled_is}}
use Rattle.lk_progress.proofs.Potential.{Staying, step_lowers, row_handlers, step_is_row}
use Rattle.lk_progress.proofs.{Sums.{sum_same, sum_more, times_less}, Turned.turns_few}
use Rattle.lk_progress.specs.Measure.{most_rows}
use Rattle.lk_progress.specs.Potential.{weight_of, cpu_weight, pending_weight, budget, most_turns}
use Rattle.lk_progress.specs.Potential.{cost, TurnIsMade, LeadsNobodyOn, PriceFalls, HasChanges}
use Rattle.lk_progress.specs.Potential.{ActsLower, RunsAreShort}
use Rattle.lk_names.specs.declared.events.Act.TheVariants as act

-- the act is a pause, or a step of a head that turns on the spot, of which only the frame changes
abbrev pub IsQuiet : Machine → Act → Type 0
IsQuiet m a = (is_pause a ≡ true) ⊎ ((p : ℕ) × (a ≡ act.Step p) × Staying m (next m a).0 p)

module _ (m : Machine) (hs : LockName → LockHistory) (shows : ShowsAll m hs) (awake : halts m.setup.mode ≡ false) where
  unhalted : (p : ℕ) → halted_at m p ≡ false
  unhalted p = nobody_halts (world m) (spin_part (world m).kind hs) shows.world.spins awake p

  cpus_is : (a : Act) → processor_of a < length m.cpus → length (next m a).0.cpus ≡ length m.cpus
  cpus_is a range =
      let after = (act_kept m hs shows a range).shows.whole in
      after.cpus ∙ ap (λ (s : Setup). length s.topology.sockets.items) (setup_kept m a) ∙ sym shows.whole.cpus

  -- the handlers to come, where none was used up
  pending_same : (k : Machine) → k.setup ≡ m.setup → length k.cpus ≡ length m.cpus
      → ((q : ℕ) → handlers_at k q ≡ handlers_at m q)
      → sum_below (length k.cpus) (λ q. pending_weight k q) ≡ sum_below (length m.cpus) (λ q. pending_weight m q)
  pending_same k setup cpus handlers =
      sum_same (length k.cpus) (λ q. pending_weight m q) (λ q. pending_weight k q) (λ q lt. same q)
      ∙ ap (λ (n : ℕ). sum_below n (λ q. pending_weight m q)) cpus
    where
      same : (q : ℕ) → pending_weight k q ≡ pending_weight m q
      same q =
          ap (λ (s : Setup). sum_below (handlers_of s q)
          (λ i. if nat_lt i (handlers_at k q) then 0 else length (program_at s q (i + 1)) * most_rows s.mode + most_rows s.mode)) setup
          ∙ ap (λ (h : ℕ). sum_below (handlers_of m.setup q)
          (λ i. if nat_lt i h then 0 else length (program_at m.setup q (i + 1)) * most_rows m.setup.mode + most_rows m.setup.mode)) (handlers q)

  weight_same : (k : Machine) → k.setup ≡ m.setup → (q : ℕ) (o : Option Frame) → weight_of k q o ≡ weight_of m q o
  weight_same k setup q None = refl
  weight_same k setup q (Some g) =
      ap (λ (s : Setup). (length (program_at s q g.program) - g.«at») * most_rows s.mode + left_in s.mode g) setup

  -- a step
  abbrev Acts : ℕ → Type 0
  Acts p = ((next m (act.Step p)).0 ≡ m) ⊎ (budget (next m (act.Step p)).0 < budget m)
      ⊎ TurnIsMade m (next m (act.Step p)).0 p
      ⊎ (Staying m (next m (act.Step p)).0 p × (budget (next m (act.Step p)).0 ≡ budget m))

  step_acts : (p : ℕ) → p < length m.cpus → Acts p
  step_acts p range = by (preempted_at m p) refl
    where
      by : (b : Bool) → preempted_at m p ≡ b → Acts p
      by true e = inl (ap (λ (b : Bool). (if b then idle m else (if halted_at m p then step_halted m p else row m p)).0) e)
      by false e =
          let h = pending_same (next m (act.Step p)).0 (setup_kept m (act.Step p)) (cpus_is (act.Step p) range)
          (λ q. ap (λ (k : Machine). handlers_at k q) (step_is_row m hs p shows awake range e)
          ∙ row_handlers m hs p shows awake range e q) in
          elim (step_lowers m hs p shows awake range e) [
            | inl same ↦ inl same
            | inr r ↦ elim r [
              | inl lt ↦ inr (inl (omega (arith, lt, h)))
              | inr r ↦ elim r [
                | inl z ↦
                    let l = z.left in
                    inr (inr (inl (record {
                      place = z.place;
                      here = z.here;
                      turn = z.turn;
                      left = omega (arith, l, h);
                      fewer = z.fewer;
                    })))
                | inr z ↦ (let l = z.left in inr (inr (inr (z, omega (arith, l, h)))))
              ]
            ]
          ]

  -- an interrupt that comes
  module _ (p : ℕ) (range : p < length m.cpus) (low : depth_at m p < 6) (left : handlers_at m p < handlers_of m.setup p) where
    abbrev g : Frame
    g = handler_frame m p

    abbrev n : Machine
    n = push m p g

    abbrev k : Machine
    k = settled n p g

    abbrev v : Waiter
    v = next_of m p

    top : HasTop m p
    top = shows.whole.tops p range

    s : Settled n p g (settled n p g)
    s = settled_is n p g (tops_push m p g range low p top)

    frames : (u : Waiter) → frame_at n u ≡ (if same_waiter u v then Some g else frame_at m u)
    frames u = ap (λ (y : World). y.frame u) (world-push m p g range)

    top_is : top_of n p ≡ v
    top_is = let e : depth_at n p - 1 ≡ depth_at m p = (let z = depth_push m p g range in omega (arith, z)) in
        (λ i. record { cpu = p; ctx = e i })

    absent : frame_at m v ≡ None
    absent = above_top m p (depth_at m p) (let z = top.some in omega (arith, z))

    here : frame_at k v ≡ s.now
    here = s.follows.frame v
        ∙ ap (λ (b : Bool). if b then s.now else frame_at n v) (ap (same_waiter v) top_is ∙ same_waiter-self v)

    there : (u : Waiter) → u ≢ v → frame_at k u ≡ frame_at m u
    there u ne = s.follows.frame u
        ∙ ap (λ (b : Bool). if b then s.now else frame_at n u) (ap (same_waiter u) top_is ∙ same_waiter-else u v ne)
        ∙ frames u ∙ ap (λ (b : Bool). if b then Some g else frame_at m u) (same_waiter-else u v ne)

    handlers_here : handlers_at k p ≡ handlers_at m p + 1
    handlers_here = s.follows.handlers p ∙ handlers_push m p g range

    handlers_there : (q : ℕ) → q ≢ p → handlers_at k q ≡ handlers_at m q
    handlers_there q ne = s.follows.handlers q ∙ handlers_push_other m p q g ne

    -- the operations of the handler
    abbrev size : ℕ
    size = length (program_at m.setup p (handlers_at m p + 1))

    some : 0 < most_rows m.setup.mode
    some = by (moves_aside m.setup.mode)
      where
        by : (b : Bool) → 0 < (if b then 31 else 23)
        by true = omega arith
        by false = omega arith

    light : weight_of m p s.now < size * most_rows m.setup.mode + most_rows m.setup.mode
    light = by s.settles
      where
        nothing : (b : Bool) → ◌≡◌ {A = ℕ} (0 + (if b then 0 else 0)) 0
        nothing true = refl
        nothing false = refl

        whole : size - 0 ≡ size
        whole = omega arith

        by : Settles n.setup.mode g s.now → weight_of m p s.now < size * most_rows m.setup.mode + most_rows m.setup.mode
        by (inl e) = let z : weight_of m p s.now ≡ 0 = ap (weight_of m p) e in let k = some in omega (arith, z, k)
        by (inr (inl e)) =
            let z : weight_of m p s.now ≡ size * most_rows m.setup.mode + left_in m.setup.mode (record g { place = None }) =
            ap (weight_of m p) e.0
            ∙ ap (λ (i : ℕ). i * most_rows m.setup.mode + left_in m.setup.mode (record g { place = None })) whole in
            let none : left_in m.setup.mode (record g { place = None }) ≡ 0 = nothing (moves_aside m.setup.mode) in
            let k = some in
            omega (arith, z, none, k)
        by (inr (inr o)) =
            let z : weight_of m p s.now ≡ size * most_rows m.setup.mode + left_in m.setup.mode (started n.setup.mode g o.0) =
            ap (weight_of m p) o.1
            ∙ ap (λ (i : ℕ). i * most_rows m.setup.mode + left_in m.setup.mode (started n.setup.mode g o.0)) whole in
            let mode : n.setup.mode ≡ m.setup.mode = ap (λ (y : World). y.mode) (world-push m p g range) in
            let short : left_in m.setup.mode (started n.setup.mode g o.0) < most_rows m.setup.mode =
            subst (λ (x : Mode). left_in m.setup.mode (started x g o.0) < most_rows m.setup.mode) (sym mode) (begin_is_short (world m) g o.0 awake) in
            omega (arith, z, short)

    pub comes : k.setup ≡ m.setup → length k.cpus ≡ length m.cpus → budget k < budget m
    comes setup cpus =
        let one = sum_more 6 (λ i. weight_of m p (frame_at m (record { cpu = p; ctx = i })))
        (λ i. weight_of k p (frame_at k (record { cpu = p; ctx = i }))) v.ctx low
        (λ i ne. weight_same k setup p (frame_at k (record { cpu = p; ctx = i }))
        ∙ ap (weight_of m p) (there (record { cpu = p; ctx = i }) (λ e. ne (ap (λ (u : Waiter). u.ctx) e)))) in
        let nothing : weight_of m p (frame_at m v) ≡ 0 = ap (weight_of m p) absent in
        let new : weight_of k p (frame_at k v) ≡ weight_of m p s.now =
        weight_same k setup p (frame_at k v) ∙ ap (weight_of m p) here in
        let all : sum_below (length m.cpus) (λ q. cpu_weight k q) + cpu_weight m p
        ≡ sum_below (length m.cpus) (λ q. cpu_weight m q) + cpu_weight k p =
        sum_more (length m.cpus) (λ q. cpu_weight m q) (λ q. cpu_weight k q) p range
        (λ q ne. sum_same 6 (λ i. weight_of m q (frame_at m (record { cpu = q; ctx = i })))
        (λ i. weight_of k q (frame_at k (record { cpu = q; ctx = i })))
        (λ i lt. weight_same k setup q (frame_at k (record { cpu = q; ctx = i }))
        ∙ ap (weight_of m q) (there (record { cpu = q; ctx = i }) (λ e. ne (ap (λ (u : Waiter). u.cpu) e))))) in
        let rest : sum_below (length m.cpus) (λ q. pending_weight k q) + pending_weight m p
        ≡ sum_below (length m.cpus) (λ q. pending_weight m q) + pending_weight k p =
        sum_more (length m.cpus) (λ q. pending_weight m q) (λ q. pending_weight k q) p range (λ q ne. other q ne) in
        let used = fewer in
        let l = light in
        let count = ap (λ (i : ℕ). sum_below i (λ q. cpu_weight k q)) cpus in
        let count2 = ap (λ (i : ℕ). sum_below i (λ q. pending_weight k q)) cpus in
        omega (arith, one, nothing, new, all, rest, used, l, count, count2)
      where
        pending_by : (q h : ℕ) → handlers_at k q ≡ h
            → pending_weight k q
            ≡ sum_below (handlers_of m.setup q) (λ i. if nat_lt i h then 0 else length (program_at m.setup q (i + 1)) * most_rows m.setup.mode + most_rows m.setup.mode)
        pending_by q h e =
            ap (λ (s : Setup). sum_below (handlers_of s q)
            (λ i. if nat_lt i (handlers_at k q) then 0 else length (program_at s q (i + 1)) * most_rows s.mode + most_rows s.mode)) setup
            ∙ ap (λ (h : ℕ). sum_below (handlers_of m.setup q)
            (λ i. if nat_lt i h then 0 else length (program_at m.setup q (i + 1)) * most_rows m.setup.mode + most_rows m.setup.mode)) e

        other : (q : ℕ) → q ≢ p → pending_weight k q ≡ pending_weight m q
        other q ne = pending_by q (handlers_at m q) (handlers_there q ne)

        fewer : pending_weight k p + (size * most_rows m.setup.mode + most_rows m.setup.mode) ≡ pending_weight m p
        fewer =
            let h : ℕ = handlers_at m p in
            let a = pending_by p (handlers_at m p + 1) handlers_here in
            let z : sum_below (handlers_of m.setup p) (λ i. if nat_lt i (handlers_at m p + 1) then 0 else length (program_at m.setup p (i + 1)) * most_rows m.setup.mode + most_rows m.setup.mode)
            + (if nat_lt (handlers_at m p) (handlers_at m p) then 0 else size * most_rows m.setup.mode + most_rows m.setup.mode)
            ≡ sum_below (handlers_of m.setup p) (λ i. if nat_lt i (handlers_at m p) then 0 else length (program_at m.setup p (i + 1)) * most_rows m.setup.mode + most_rows m.setup.mode)
            + (if nat_lt (handlers_at m p) (handlers_at m p + 1) then 0 else size * most_rows m.setup.mode + most_rows m.setup.mode) =
            sum_more (handlers_of m.setup p)
            (λ i. if nat_lt i (handlers_at m p) then 0 else length (program_at m.setup p (i + 1)) * most_rows m.setup.mode + most_rows m.setup.mode)
            (λ i. if nat_lt i (handlers_at m p + 1) then 0 else length (program_at m.setup p (i + 1)) * most_rows m.setup.mode + most_rows m.setup.mode)
            (handlers_at m p) left
            (λ i ne. ap (λ (b : Bool). if b then 0 else length (program_at m.setup p (i + 1)) * most_rows m.setup.mode + most_rows m.setup.mode) (step_up i (handlers_at m p) ne)) in
            let f : (if nat_lt (handlers_at m p) (handlers_at m p) then 0 else size * most_rows m.setup.mode + most_rows m.setup.mode) ≡ size * most_rows m.setup.mode + most_rows m.setup.mode =
            ap (λ (b : Bool). if b then 0 else size * most_rows m.setup.mode + most_rows m.setup.mode) (lt_false (handlers_at m p) (handlers_at m p) (omega arith)) in
            let t : (if nat_lt (handlers_at m p) (handlers_at m p + 1) then 0 else size * most_rows m.setup.mode + most_rows m.setup.mode) ≡ 0 =
            ap (λ (b : Bool). if b then 0 else size * most_rows m.setup.mode + most_rows m.setup.mode) (lt_true (handlers_at m p) (handlers_at m p + 1) (omega arith)) in
            omega (arith, a, z, f, t)
          where
            lt_true : (i j : ℕ) → i < j → nat_lt i j ≡ true
            lt_true i j lt = grind (arith, lt)

            lt_false : (i j : ℕ) → j ≤ i → nat_lt i j ≡ false
            lt_false i j le = grind (arith, le)

            step_up : (i j : ℕ) → i ≢ j → nat_lt i (j + 1) ≡ nat_lt i j
            step_up i j ne = elim (cases_lt i j) [
              | inl lt ↦ lt_true i (j + 1) (omega (arith, lt)) ∙ sym (lt_true i j lt)
              | inr ge ↦ lt_false i (j + 1) (let z = ne in grind (arith, z, ge)) ∙ sym (lt_false i j ge)
            ]

  -- a pause
  paused : (p : ℕ) (b : Bool) → budget (set_preempted m p b) ≡ budget m
  paused p b =
      let w = world-set_preempted m p b in
      let same = same_set_preempted m p b in
      let k : Machine = set_preempted m p b in
      let a : sum_below (length k.cpus) (λ q. cpu_weight k q) ≡ sum_below (length k.cpus) (λ q. cpu_weight m q) =
      sum_same (length k.cpus) (λ q. cpu_weight m q) (λ q. cpu_weight k q)
      (λ q lt. sum_same 6 (λ i. weight_of m q (frame_at m (record { cpu = q; ctx = i })))
      (λ i. weight_of k q (frame_at k (record { cpu = q; ctx = i })))
      (λ i lt. weight_same k same.keeps.setup q (frame_at k (record { cpu = q; ctx = i }))
      ∙ ap (λ (y : World). weight_of m q (y.frame (record { cpu = q; ctx = i }))) w)) in
      let c = ap (λ (i : ℕ). sum_below i (λ q. cpu_weight m q)) same.keeps.cpus in
      let d = pending_same k same.keeps.setup same.keeps.cpus same.handlers in
      omega (arith, a, c, d)

  -- the price goes by the budget, the setup, the turns, and the number of processors
  price_same : (n : Machine) → n.setup ≡ m.setup → length n.cpus ≡ length m.cpus → budget n ≡ budget m → turns n ≡ turns m
      → price n ≡ price m
  price_same n setup cpus left same =
      ap (λ (x : ℕ). x * cost n.setup.mode (length n.cpus) + turns n) left
      ∙ ap (λ (s : Setup). budget m * cost s.mode (length n.cpus) + turns n) setup
      ∙ ap (λ (i : ℕ). budget m * cost m.setup.mode i + turns n) cpus
      ∙ ap (λ (t : ℕ). budget m * cost m.setup.mode (length m.cpus) + t) same

  paused_turns : (p : ℕ) (b : Bool) → turns (set_preempted m p b) ≡ turns m
  paused_turns p b =
      ap (λ (y : World). sum_below (length (set_preempted m p b).cpus) (λ q. sum_below 6 (λ i. turn_of y (y.frame (record { cpu = q; ctx = i })))))
      (world-set_preempted m p b)
      ∙ ap (λ (n : ℕ). sum_below n (λ q. cpu_turns m q)) (same_set_preempted m p b).keeps.cpus

  paused_price : (p : ℕ) (b : Bool) → price (set_preempted m p b) ≡ price m
  paused_price p b =
      let same = same_set_preempted m p b in
      price_same (set_preempted m p b) same.keeps.setup same.keeps.cpus (paused p b) (paused_turns p b)

  abbrev Lowered : Act → Type 0
  Lowered a = ((next m a).0 ≡ m) ⊎ (budget (next m a).0 < budget m)
      ⊎ (IsQuiet m a × (budget (next m a).0 ≡ budget m) × (price (next m a).0 ≡ price m))
      ⊎ ((p : ℕ) × (a ≡ act.Step p) × TurnIsMade m (next m a).0 p)

  pub act_lowers : (a : Act) → processor_of a < length m.cpus → Lowered a
  act_lowers (act.Step p) range = elim (step_acts p range) [
    | inl same ↦ inl same
    | inr r ↦ elim r [
      | inl lt ↦ inr (inl lt)
      | inr r ↦ elim r [
        | inl z ↦ inr (inr (inr (p, refl, z)))
        | inr z ↦ inr (inr (inl (
          inr (p, refl, z.0),
          z.1,
          price_same (next m (act.Step p)).0 (setup_kept m (act.Step p)) (cpus_is (act.Step p) range) z.1 z.0.same,
        )))
      ]
    ]
  ]
  act_lowers (act.Interrupt p) range =
      elim (cases_Bool (is_shut m p)) [
        | inl e ↦ inl (rw e refl)
        | inr e ↦
            let a = or_parts
            (preempted_at m p || nat_le 6 (depth_at m p)
            || nat_le (handlers_of m.setup p) (handlers_at m p))
            (stands_halting (top_frame m p).place && not (halted_at m p)) e in
            let b =
            or_parts (preempted_at m p || nat_le 6 (depth_at m p))
            (nat_le (handlers_of m.setup p) (handlers_at m p)) a.0 in
            let c = or_parts (preempted_at m p) (nat_le 6 (depth_at m p)) b.0 in
            let awake_is : Rattle.lk_rows.specs.Acts.awake m p ≡ m = ap (λ (t : Bool). if t then woken m p else m) (unhalted p) in
            let is : (next m (act.Interrupt p)).0 ≡ settled (push m p (handler_frame m p)) p (handler_frame m p) =
            ap (λ (t : Bool). (if t then idle m else Rattle.lk_rows.specs.Acts.interrupted m p).0) e
            ∙ ap (λ (y : Machine). settled (push y p (handler_frame m p)) p (handler_frame m p)) awake_is in
            let setup = ap (λ (y : Machine). y.setup) (sym is) ∙ setup_kept m (act.Interrupt p) in
            let cpus = ap (λ (y : Machine). length y.cpus) (sym is) ∙ cpus_is (act.Interrupt p) range in
            let lt = comes p range (leb-false 6 (depth_at m p) c.1)
            (leb-false (handlers_of m.setup p) (handlers_at m p) b.1) setup cpus in
            inr (inl (subst (λ (y : Machine). budget y < budget m) (sym is) lt))
      ]
  act_lowers (act.Preempt p) range = by (preempted_at m p) refl
    where
      by : (b : Bool) → preempted_at m p ≡ b → Lowered (act.Preempt p)
      by true e = inl (ap (λ (t : Bool). (if t then idle m else (set_preempted m p true, None)).0) e)
      by false e = inr (inr (inl (
        inl refl,
        ap (λ (t : Bool). budget (if t then idle m else (set_preempted m p true, None)).0) e ∙ paused p true,
        ap (λ (t : Bool). price (if t then idle m else (set_preempted m p true, None)).0) e ∙ paused_price p true,
      )))
  act_lowers (act.Resume p) range = by (preempted_at m p) refl
    where
      by : (b : Bool) → preempted_at m p ≡ b → Lowered (act.Resume p)
      by false e = inl (ap (λ (t : Bool). (if t then (set_preempted m p false, None) else idle m).0) e)
      by true e = inr (inr (inl (
        inl refl,
        ap (λ (t : Bool). budget (if t then (set_preempted m p false, None) else idle m).0) e ∙ paused p false,
        ap (λ (t : Bool). price (if t then (set_preempted m p false, None) else idle m).0) e ∙ paused_price p false,
      )))
  act_lowers (act.Nudge p) range = inl (by (preempted_at m p))
    where
      by : (b : Bool) → (if b || not (halted_at m p) then idle m else Rattle.lk_rows.specs.Acts.nudged m p).0 ≡ m
      by true = refl
      by false = rw (unhalted p) refl

  -- a lower budget pays for all turns that are spoilt
  budget_pays : (n : Machine) (gs : LockName → LockHistory) → ShowsAll n gs → n.setup ≡ m.setup → length n.cpus ≡ length m.cpus
      → budget n < budget m → price n < price m
  budget_pays n gs now setup cpus lt =
      pays (budget n * cost m.setup.mode (length m.cpus)) (cost m.setup.mode (length m.cpus)) (budget m * cost m.setup.mode (length m.cpus))
      (price n) (turns n) (turns m)
      (times_less (cost m.setup.mode (length m.cpus)) (budget n) (budget m) lt)
      (subst (λ (i : ℕ). turns n < i * (6 * most_turns m.setup.mode i) + 1) cpus
      (subst (λ (s : Setup). turns n < length n.cpus * (6 * most_turns s.mode (length n.cpus)) + 1) setup
      (let few = turns_few n gs now in less_one (turns n) (length n.cpus * (6 * most_turns n.setup.mode (length n.cpus))) few)))
      (ap (λ (s : Setup). budget n * cost s.mode (length n.cpus) + turns n) setup
      ∙ ap (λ (i : ℕ). budget n * cost m.setup.mode i + turns n) cpus)
    where
      less_one : (t k : ℕ) → t ≤ k → t < k + 1
      less_one t k le = omega (arith, le)

      pays : (x k y q t u : ℕ) → x + k ≤ y → t < k → q ≡ x + t → q < y + u
      pays x k y q t u le lt e = omega (arith, le, lt, e)

  pub falls : (a : Act) → processor_of a < length m.cpus
      → ((next m a).0 ≡ m) ⊎ (price (next m a).0 < price m) ⊎ (IsQuiet m a × (price (next m a).0 ≡ price m))
  falls a range = elim (act_lowers a range) [
    | inl same ↦ inl same
    | inr x ↦ elim x [
      | inl lt ↦
          let after = act_kept m hs shows a range in
          inr (inl (budget_pays (next m a).0 _ after.shows (setup_kept m a) (cpus_is a range) lt))
      | inr y ↦ elim y [
        | inl p ↦ inr (inr (p.0, p.2))
        | inr t ↦
            let z = t.2 in
            inr (inl (fewer (next m a).0 (setup_kept m a) (cpus_is a range) z.left z.fewer))
      ]
    ]
  ]
    where
      fewer : (n : Machine) → n.setup ≡ m.setup → length n.cpus ≡ length m.cpus → budget n ≡ budget m → turns n < turns m → price n < price m
      fewer n setup cpus left lt =
          more (budget m * cost m.setup.mode (length m.cpus)) (price n) (turns n) (turns m) lt
          (ap (λ (x : ℕ). x * cost n.setup.mode (length n.cpus) + turns n) left
          ∙ ap (λ (s : Setup). budget m * cost s.mode (length n.cpus) + turns n) setup
          ∙ ap (λ (i : ℕ). budget m * cost m.setup.mode i + turns n) cpus)
        where
          more : (x q t u : ℕ) → t < u → q ≡ x + t → q < x + u
          more x q t u lt e = omega (arith, lt, e)

-- such an act leads nobody on
leads_nobody : (m : Machine) (a : Act) → IsQuiet m a → LeadsNobodyOn m a
leads_nobody m a (inl pause) = inl pause
leads_nobody m a (inr s) = inr (s.0, s.1, s.2.spot)

pub acts_lower : ActsLower
acts_lower m hs a shows awake range = elim (act_lowers m hs shows awake a range) [
  | inl same ↦ inl same
  | inr x ↦ elim x [
    | inl lt ↦ inr (inl lt)
    | inr y ↦ elim y [
      | inl q ↦ inr (inr (inl (leads_nobody m a q.0, q.1, q.2)))
      | inr t ↦ inr (inr (inr t))
    ]
  ]
]

pub price_falls : PriceFalls
price_falls m hs a shows awake range = elim (falls m hs shows awake a range) [
  | inl same ↦ inl same
  | inr x ↦ elim x [ inl lt ↦ inr (inl lt) | inr q ↦ inr (inr (leads_nobody m a q.0, q.1)) ]
]

-- A number bounds the changes of a run if each act changes nothing, or lowers it, or leads nobody on and leaves it.
module _ (I : Machine → Type 0) (size : Machine → ℕ)
    (keeps : (m : Machine) (a : Act) → I m → processor_of a < length m.cpus → I (next m a).0)
    (lowers : (m : Machine) (a : Act) → I m → processor_of a < length m.cpus
    → ((next m a).0 ≡ m) ⊎ (size (next m a).0 < size m) ⊎ (LeadsNobodyOn m a × (size (next m a).0 ≡ size m))) where
  pub changes_bounded : (m : Machine) (acts : List Act) (k : ℕ) → I m → HasChanges m acts k → k ≤ size m
  changes_bounded m [] k inv z = let e : k ≡ 0 = z in omega (arith, e)
  changes_bounded m (a ∷ acts) k inv z =
      go (lowers m a inv z.0) (λ j h. changes_bounded (next m a).0 acts j (keeps m a inv z.0) h)
    where
      go : (((next m a).0 ≡ m) ⊎ (size (next m a).0 < size m) ⊎ (LeadsNobodyOn m a × (size (next m a).0 ≡ size m)))
          → ((j : ℕ) → HasChanges (next m a).0 acts j → j ≤ size (next m a).0) → k ≤ size m
      go low rest = elim z.1 [
        | inl y ↦ (let r = rest k y.1 in elim low [
          | inl same ↦ (let e = ap size same in omega (arith, r, e))
          | inr x ↦ elim x [ inl lt ↦ omega (arith, r, lt) | inr e ↦ (let q = e.1 in omega (arith, r, q)) ]
        ])
        | inr y ↦ (let r = rest y.0 y.4 in let i = y.1 in elim low [
          | inl same ↦ absurd (y.2 same)
          | inr x ↦ elim x [ inl lt ↦ omega (arith, r, lt, i) | inr e ↦ absurd (y.3 e.0) ]
        ])
      ]

-- a machine of these families, and its events
pub record IsShown (m : Machine) : Type 0 where
  pub events : List Event
  pub shows : ShowsLawful m events
  pub awake : halts m.setup.mode ≡ false

pub runs_are_short : RunsAreShort
runs_are_short m es acts k shows awake z =
    changes_bounded IsShown price shown_on
    (λ m a s range. price_falls m (λ l. history_of l s.events) a s.shows.shows s.awake range)
    m acts k (record { events = es; shows = shows; awake = awake }) z
  where
    shown_on : (m : Machine) (a : Act) → IsShown m → processor_of a < length m.cpus → IsShown (next m a).0
    shown_on m a s range =
        record {
          events = with_event s.events (next m a).1;
          shows = acts_keep m s.events a range s.shows;
          awake = ap (λ (s : Setup). halts s.mode) (setup_kept m a) ∙ s.awake;
        }
