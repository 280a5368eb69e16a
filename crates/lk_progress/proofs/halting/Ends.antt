-- Where processors halt: what an interrupt that comes leaves, and what the end of a halt does.
use Rattle.std.proofs.Common.{◌≡◌, ◌≢◌, ◌⊎◌, inl, inr, ℕ, ◌<◌, ◌≤◌, ◌+◌, ◌-◌, ◌*◌, Option, Some}
use Rattle.std.proofs.Common.{None, Bool, true, false, refl, sym, ap, ◌∙◌, subst, arith, length}
use Rattle.std.proofs.Common.{if◌then◌else◌, ◌==◌, nat_lt}
use Rattle.lk_progress.proofs.Names.{cases_eq, cases_lt, eqb-true, LockHistory, same_waiter, Act}
use Rattle.lk_progress.proofs.Names.{LockName, Waiter, after_halt, handler_frame, next}
use Rattle.lk_progress.proofs.Names.{processor_of, woken, HasTop, Machine, halted_at, handlers_at}
use Rattle.lk_progress.proofs.Names.{kicked_at, push, set_kicked, top_frame, top_of, program_of}
use Rattle.lk_progress.proofs.Names.{settled, started, handlers_of, program_at, Frame, Pc, E2, E12}
use Rattle.lk_progress.proofs.Names.{W6, W7, Setup, waiter_cases, if-false, if-true, not-true}
use Rattle.lk_progress.proofs.Names.{same_waiter-else, same_waiter-self, halts, ShowsAll, world}
use Rattle.lk_progress.proofs.Names.{put_halted, World, above_top, act_kept, KeepsFrames}
use Rattle.lk_progress.proofs.Names.{depth_push, same_then, tops_push, next_of, seated, world-push}
use Rattle.lk_progress.proofs.Names.{setup_kept, halting_left, halting_left_at, halting_turn_of}
use Rattle.lk_progress.proofs.Names.{SpinsAreFew, halting_budget, halting_cpu_weight, halting_debt}
use Rattle.lk_progress.proofs.Names.{halting_turns, halting_weight, kick_turns, sum_below}
use Rattle.lk_rows.specs.Machine.{frame_at, depth_at}
use Rattle.lk_law.specs.Steps.{put_kicked}
use Rattle.lk_core.proofs.Same.{handlers_push, handlers_push_other, same_set_kicked}
use Rattle.lk_progress.proofs.Moves.{Settles, Settled, settled_is}
use Rattle.lk_progress.proofs.Sums.{sum_fall, sum_same, sum_more, total_same}
use Rattle.lk_progress.proofs.Woken.{woken_keeps, woken_is, kick_is, kicked_is, roused_is, sleeps}
use Rattle.lk_progress.proofs.{Woken.on_top, halting.Bound.{cpu_turns_few, turn_alike}}
use Rattle.lk_progress.proofs.{halting.Potential.frames_left, halting.Spins.halting_begin_is_short}
use Rattle.lk_progress.specs.HaltingPrice.{halting_pending}

module _ (m : Machine) (hs : LockName → LockHistory) (shows : ShowsAll m hs) (on : halts m.setup.mode ≡ true) where
  pub cpus_is : (a : Act) → processor_of a < length m.cpus → length (next m a).0.cpus ≡ length m.cpus
  cpus_is a range =
      let after = (act_kept m hs shows a range).shows.whole in
      after.cpus ∙ ap (λ (s : Setup). length s.topology.sockets.items) (setup_kept m a) ∙ sym shows.whole.cpus

  -- the handlers to come, where none was used up
  pub pending_same : (k : Machine) → k.setup ≡ m.setup → length k.cpus ≡ length m.cpus
      → ((q : ℕ) → handlers_at k q ≡ handlers_at m q)
      → sum_below (length k.cpus) (λ q. halting_pending k q) ≡ sum_below (length m.cpus) (λ q. halting_pending m q)
  pending_same k setup cpus handlers =
      sum_same (length k.cpus) (λ q. halting_pending m q) (λ q. halting_pending k q) (λ q lt. same q)
      ∙ ap (λ (n : ℕ). sum_below n (λ q. halting_pending m q)) cpus
    where
      same : (q : ℕ) → halting_pending k q ≡ halting_pending m q
      same q =
          ap (λ (s : Setup). sum_below (handlers_of s q)
          (λ i. if nat_lt i (handlers_at k q) then 0 else length (program_at s q (i + 1)) * 28 + 28)) setup
          ∙ ap (λ (h : ℕ). sum_below (handlers_of m.setup q)
          (λ i. if nat_lt i h then 0 else length (program_at m.setup q (i + 1)) * 28 + 28)) (handlers q)

  pub weight_same : (k : Machine) → k.setup ≡ m.setup → (q : ℕ) (o : Option Frame) → halting_weight k q o ≡ halting_weight m q o
  weight_same k setup q None = refl
  weight_same k setup q (Some g) =
      ap (λ (s : Setup). (length (program_at s q g.program) - g.«at») * 28 + halting_left g) setup

  -- an interrupt that comes
  module _ (p : ℕ) (range : p < length m.cpus) (low : depth_at m p < 6) (left : handlers_at m p < handlers_of m.setup p) where
    abbrev g : Frame
    g = handler_frame m p

    abbrev n : Machine
    n = push m p g

    abbrev k : Machine
    k = settled n p g

    abbrev v : Waiter
    v = next_of m p

    top : HasTop m p
    top = shows.whole.tops p range

    s : Settled n p g (settled n p g)
    s = settled_is n p g (tops_push m p g range low p top)

    frames : (u : Waiter) → frame_at n u ≡ (if same_waiter u v then Some g else frame_at m u)
    frames u = ap (λ (y : World). y.frame u) (world-push m p g range)

    top_is : top_of n p ≡ v
    top_is = let e : depth_at n p - 1 ≡ depth_at m p = (let z = depth_push m p g range in omega (arith, z)) in
        (λ i. record { cpu = p; ctx = e i })

    absent : frame_at m v ≡ None
    absent = above_top m p (depth_at m p) (let z = top.some in omega (arith, z))

    here : frame_at k v ≡ s.now
    here = s.follows.frame v
        ∙ ap (λ (b : Bool). if b then s.now else frame_at n v) (ap (same_waiter v) top_is ∙ same_waiter-self v)

    there : (u : Waiter) → u ≢ v → frame_at k u ≡ frame_at m u
    there u ne = s.follows.frame u
        ∙ ap (λ (b : Bool). if b then s.now else frame_at n u) (ap (same_waiter u) top_is ∙ same_waiter-else u v ne)
        ∙ frames u ∙ ap (λ (b : Bool). if b then Some g else frame_at m u) (same_waiter-else u v ne)

    handlers_here : handlers_at k p ≡ handlers_at m p + 1
    handlers_here = s.follows.handlers p ∙ handlers_push m p g range

    handlers_there : (q : ℕ) → q ≢ p → handlers_at k q ≡ handlers_at m q
    handlers_there q ne = s.follows.handlers q ∙ handlers_push_other m p q g ne

    -- the operations of the handler
    abbrev size : ℕ
    size = length (program_at m.setup p (handlers_at m p + 1))

    light : halting_weight m p s.now < size * 28 + 28
    light = by s.settles
      where
        whole : size - 0 ≡ size
        whole = omega arith

        by : Settles n.setup.mode g s.now → halting_weight m p s.now < size * 28 + 28
        by (inl e) = let z : halting_weight m p s.now ≡ 0 = ap (halting_weight m p) e in omega (arith, z)
        by (inr (inl e)) =
            let z : halting_weight m p s.now ≡ size * 28 + 0 = ap (halting_weight m p) e.0 ∙ ap (λ (i : ℕ). i * 28 + 0) whole in
            omega (arith, z)
        by (inr (inr o)) =
            let z : halting_weight m p s.now ≡ size * 28 + halting_left (started n.setup.mode g o.0) =
            ap (halting_weight m p) o.1 ∙ ap (λ (i : ℕ). i * 28 + halting_left (started n.setup.mode g o.0)) whole in
            let mode : n.setup.mode ≡ m.setup.mode = ap (λ (y : World). y.mode) (world-push m p g range) in
            let short : halting_left (started n.setup.mode g o.0) < 28 = halting_begin_is_short n.setup.mode g o.0 (ap halts mode ∙ on) in
            omega (arith, z, short)

    pub comes : k.setup ≡ m.setup → length k.cpus ≡ length m.cpus → halting_budget k < halting_budget m
    comes setup cpus =
        let one = sum_more 6 (λ i. halting_weight m p (frame_at m (record { cpu = p; ctx = i })))
        (λ i. halting_weight k p (frame_at k (record { cpu = p; ctx = i }))) v.ctx low
        (λ i ne. weight_same k setup p (frame_at k (record { cpu = p; ctx = i }))
        ∙ ap (halting_weight m p) (there (record { cpu = p; ctx = i }) (λ e. ne (ap (λ (u : Waiter). u.ctx) e)))) in
        let nothing : halting_weight m p (frame_at m v) ≡ 0 = ap (halting_weight m p) absent in
        let new : halting_weight k p (frame_at k v) ≡ halting_weight m p s.now =
        weight_same k setup p (frame_at k v) ∙ ap (halting_weight m p) here in
        let all : sum_below (length m.cpus) (λ q. halting_cpu_weight k q) + halting_cpu_weight m p
        ≡ sum_below (length m.cpus) (λ q. halting_cpu_weight m q) + halting_cpu_weight k p =
        sum_more (length m.cpus) (λ q. halting_cpu_weight m q) (λ q. halting_cpu_weight k q) p range
        (λ q ne. sum_same 6 (λ i. halting_weight m q (frame_at m (record { cpu = q; ctx = i })))
        (λ i. halting_weight k q (frame_at k (record { cpu = q; ctx = i })))
        (λ i lt. weight_same k setup q (frame_at k (record { cpu = q; ctx = i }))
        ∙ ap (halting_weight m q) (there (record { cpu = q; ctx = i }) (λ e. ne (ap (λ (u : Waiter). u.cpu) e))))) in
        let rest : sum_below (length m.cpus) (λ q. halting_pending k q) + halting_pending m p
        ≡ sum_below (length m.cpus) (λ q. halting_pending m q) + halting_pending k p =
        sum_more (length m.cpus) (λ q. halting_pending m q) (λ q. halting_pending k q) p range (λ q ne. other q ne) in
        let used = fewer in
        let l = light in
        let count = ap (λ (i : ℕ). sum_below i (λ q. halting_cpu_weight k q)) cpus in
        let count2 = ap (λ (i : ℕ). sum_below i (λ q. halting_pending k q)) cpus in
        omega (arith, one, nothing, new, all, rest, used, l, count, count2)
      where
        pending_by : (q h : ℕ) → handlers_at k q ≡ h
            → halting_pending k q
            ≡ sum_below (handlers_of m.setup q) (λ i. if nat_lt i h then 0 else length (program_at m.setup q (i + 1)) * 28 + 28)
        pending_by q h e =
            ap (λ (s : Setup). sum_below (handlers_of s q)
            (λ i. if nat_lt i (handlers_at k q) then 0 else length (program_at s q (i + 1)) * 28 + 28)) setup
            ∙ ap (λ (h : ℕ). sum_below (handlers_of m.setup q)
            (λ i. if nat_lt i h then 0 else length (program_at m.setup q (i + 1)) * 28 + 28)) e

        other : (q : ℕ) → q ≢ p → halting_pending k q ≡ halting_pending m q
        other q ne = pending_by q (handlers_at m q) (handlers_there q ne)

        fewer : halting_pending k p + (size * 28 + 28) ≡ halting_pending m p
        fewer =
            let h : ℕ = handlers_at m p in
            let a = pending_by p (handlers_at m p + 1) handlers_here in
            let z : sum_below (handlers_of m.setup p) (λ i. if nat_lt i (handlers_at m p + 1) then 0 else length (program_at m.setup p (i + 1)) * 28 + 28)
            + (if nat_lt (handlers_at m p) (handlers_at m p) then 0 else size * 28 + 28)
            ≡ sum_below (handlers_of m.setup p) (λ i. if nat_lt i (handlers_at m p) then 0 else length (program_at m.setup p (i + 1)) * 28 + 28)
            + (if nat_lt (handlers_at m p) (handlers_at m p + 1) then 0 else size * 28 + 28) =
            sum_more (handlers_of m.setup p)
            (λ i. if nat_lt i (handlers_at m p) then 0 else length (program_at m.setup p (i + 1)) * 28 + 28)
            (λ i. if nat_lt i (handlers_at m p + 1) then 0 else length (program_at m.setup p (i + 1)) * 28 + 28)
            (handlers_at m p) left
            (λ i ne. ap (λ (b : Bool). if b then 0 else length (program_at m.setup p (i + 1)) * 28 + 28) (step_up i (handlers_at m p) ne)) in
            let f : (if nat_lt (handlers_at m p) (handlers_at m p) then 0 else size * 28 + 28) ≡ size * 28 + 28 =
            ap (λ (b : Bool). if b then 0 else size * 28 + 28) (lt_false (handlers_at m p) (handlers_at m p) (omega arith)) in
            let t : (if nat_lt (handlers_at m p) (handlers_at m p + 1) then 0 else size * 28 + 28) ≡ 0 =
            ap (λ (b : Bool). if b then 0 else size * 28 + 28) (lt_true (handlers_at m p) (handlers_at m p + 1) (omega arith)) in
            omega (arith, a, z, f, t)
          where
            lt_true : (i j : ℕ) → i < j → nat_lt i j ≡ true
            lt_true i j lt = grind (arith, lt)

            lt_false : (i j : ℕ) → j ≤ i → nat_lt i j ≡ false
            lt_false i j le = grind (arith, le)

            step_up : (i j : ℕ) → i ≢ j → nat_lt i (j + 1) ≡ nat_lt i j
            step_up i j ne = elim (cases_lt i j) [
              | inl lt ↦ lt_true i (j + 1) (omega (arith, lt)) ∙ sym (lt_true i j lt)
              | inr ge ↦ lt_false i (j + 1) (let z = ne in grind (arith, z, ge)) ∙ sym (lt_false i j ge)
            ]

    -- nor has its frame more turns of a spin left than the spin bound says
    pub comes_spins : SpinsAreFew m → k.setup ≡ m.setup → SpinsAreFew k
    comes_spins few setup u h e = subst (λ (s : Setup). h.left ≤ s.spins) (sym setup) (elim (waiter_cases u v) [
      | inr ne ↦ few u h (sym (there u ne) ∙ e)
      | inl i ↦ new (sym here ∙ ap (frame_at k) (sym i) ∙ e) s.settles
    ])
      where
        none : (h : Frame) → h.left ≡ 0 → h.left ≤ m.setup.spins
        none h e = omega (arith, e)

        new : s.now ≡ Some h → Settles n.setup.mode g s.now → h.left ≤ m.setup.spins
        new q (inl z) = absurd (let y : None ≡ Some h = sym z ∙ q in cc y)
        new q (inr (inl z)) =
            none h (let y : Some (record g { place = None }) ≡ Some h = sym z.0 ∙ q in
            ap (λ (i : Frame). i.left) (sym (let x : record g { place = None } ≡ h = cc y in x)))
        new q (inr (inr z)) =
            none h (let y : Some (started n.setup.mode g z.0) ≡ Some h = sym z.1 ∙ q in
            ap (λ (i : Frame). i.left) (sym (let x : started n.setup.mode g z.0 ≡ h = cc y in x)))

-- the end of a halt
module _ (m : Machine) (hs : LockName → LockHistory) (shows : ShowsAll m hs) (on : halts m.setup.mode ≡ true) where
  module _ (p : ℕ) (range : p < length m.cpus) (halted : halted_at m p ≡ true) where
    abbrev sleeper : Waiter
    sleeper = top_of m p

    abbrev e : Frame
    e = top_frame m p

    abbrev behind : Frame
    behind = record e { place = after_halt e.place }

    abbrev waked : Machine
    waked = set_kicked (woken m p) p false

    live : frame_at m sleeper ≡ Some e
    live = on_top m hs shows p range halted

    -- as many rows are left
    left_behind : halting_left behind ≡ halting_left e
    left_behind = by (sleeps m hs shows p range halted)
      where
        by : (e.place ≡ Some W6) ⊎ (e.place ≡ Some E12) → halting_left_at (after_halt e.place) behind ≡ halting_left_at e.place e
        by (inl q) =
            let z : halting_left_at (after_halt e.place) behind ≡ halting_left_at (Some W7) behind =
            ap (λ (o : Option Pc). halting_left_at (after_halt o) behind) q in
            z ∙ sym (ap (λ (o : Option Pc). halting_left_at o e) q)
        by (inr q) =
            let z : halting_left_at (after_halt e.place) behind ≡ halting_left_at (Some E2) behind =
            ap (λ (o : Option Pc). halting_left_at (after_halt o) behind) q in
            let y : ◌≡◌ {A = ℕ} (if e.hashed then 0 else 4) 0 =
            ap (λ (t : Bool). if t then 0 else 4) ((shows.world.spins.registers sleeper e live).choice.hashed E12 q refl) in
            let x = ap (λ (o : Option Pc). halting_left_at o e) q in
            omega (arith, z, y, x)

    weights_kept : (n : Machine) → n.setup ≡ m.setup → length n.cpus ≡ length m.cpus → frame_at n sleeper ≡ Some behind
        → ((u : Waiter) → u ≢ sleeper → frame_at n u ≡ frame_at m u) → frames_left n ≡ frames_left m
    weights_kept n setup cpus here others =
        ap (λ (i : ℕ). sum_below i (λ q. halting_cpu_weight n q)) cpus
        ∙ total_same (length m.cpus) (λ u. halting_weight m u.cpu (frame_at m u)) (λ u. halting_weight n u.cpu (frame_at n u)) each
      where
        own : halting_weight n sleeper.cpu (frame_at n sleeper) ≡ halting_weight m sleeper.cpu (frame_at m sleeper)
        own =
            weight_same m hs shows on n setup p (frame_at n sleeper) ∙ ap (halting_weight m p) here
            ∙ ap (λ (i : ℕ). (length (program_of m p e) - e.«at») * 28 + i) left_behind
            ∙ sym (ap (halting_weight m p) live)

        each : (u : Waiter) → halting_weight n u.cpu (frame_at n u) ≡ halting_weight m u.cpu (frame_at m u)
        each u = elim (waiter_cases u sleeper) [
          | inl i ↦ subst (λ (x : Waiter). halting_weight n x.cpu (frame_at n x) ≡ halting_weight m x.cpu (frame_at m x)) (sym i) own
          | inr ne ↦ weight_same m hs shows on n setup u.cpu (frame_at n u) ∙ ap (halting_weight m u.cpu) (others u ne)
        ]

    budget_kept : (n : Machine) → KeepsFrames m n → frame_at n sleeper ≡ Some behind
        → ((u : Waiter) → u ≢ sleeper → frame_at n u ≡ frame_at m u) → halting_budget n ≡ halting_budget m
    budget_kept n same here others =
        let a = weights_kept n same.keeps.setup same.keeps.cpus here others in
        let b = pending_same m hs shows on n same.keeps.setup same.keeps.cpus same.handlers in
        omega (arith, a, b)

    spins_kept : (n : Machine) → n.setup ≡ m.setup → frame_at n sleeper ≡ Some behind
        → ((u : Waiter) → u ≢ sleeper → frame_at n u ≡ frame_at m u) → SpinsAreFew m → SpinsAreFew n
    spins_kept n setup here others few u h q = subst (λ (s : Setup). h.left ≤ s.spins) (sym setup) (elim (waiter_cases u sleeper) [
      | inr ne ↦ few u h (sym (others u ne) ∙ q)
      | inl i ↦
          let y : Some behind ≡ Some h = sym here ∙ ap (frame_at n) (sym i) ∙ q in
          let x : behind ≡ h = cc y in
          subst (λ (j : Frame). j.left ≤ m.setup.spins) x (few sleeper e live)
    ])

    pub woken_budget : halting_budget (woken m p) ≡ halting_budget m
    woken_budget =
        let r = roused_is m hs shows p range halted in
        budget_kept (woken m p) (woken_keeps m p) r.here r.others

    pub woken_spins : SpinsAreFew m → SpinsAreFew (woken m p)
    woken_spins =
        let r = roused_is m hs shows p range halted in
        spins_kept (woken m p) (woken_keeps m p).keeps.setup r.here r.others

    kicked_keeps : KeepsFrames m waked
    kicked_keeps = same_then m (woken m p) waked (woken_keeps m p) (same_set_kicked (woken m p) p false)

    pub kicked_budget : halting_budget waked ≡ halting_budget m
    kicked_budget =
        let r = kicked_is m hs shows p range halted in
        budget_kept waked kicked_keeps r.here r.others

    pub kicked_spins : SpinsAreFew m → SpinsAreFew waked
    kicked_spins =
        let r = kicked_is m hs shows p range halted in
        spins_kept waked kicked_keeps.keeps.setup r.here r.others

    -- the world behind the end of a halt by a kick
    after_is : world waked ≡ put_kicked (put_halted (seated m sleeper (Some behind)) p false) p false
    after_is =
        kick_is m hs shows p range halted
        ∙ ap (λ (y : World). put_kicked y p false) (woken_is m hs shows p range halted)

    -- the kick that is remembered pays for the turns that its end renews
    pub kick_pays : kicked_at m p ≡ true → SpinsAreFew m → halting_turns waked < halting_turns m
    kick_pays remembered few =
        let all = sum_fall (length m.cpus) (λ q. halting_debt m q) (λ q. halting_debt waked q) p range own each in
        let o = ap (λ (i : ℕ). sum_below i (λ q. halting_debt waked q)) kicked_keeps.keeps.cpus in
        omega (arith, all, o)
      where
        spins : waked.setup.spins ≡ m.setup.spins
        spins = ap (λ (s : Setup). s.spins) kicked_keeps.keeps.setup

        own : halting_debt waked p < halting_debt m p
        own =
            let t = cpu_turns_few waked (kicked_spins few) p in
            let s = spins in
            let gone : kicked_at waked p ≡ false = ap (λ (y : World). y.kicked p) after_is ∙ if-true (p == p) false (kicked_at m p) (grind arith) in
            let a = ap (kick_turns waked.setup.spins) gone in
            let b = ap (kick_turns m.setup.spins) remembered in
            omega (arith, t, s, a, b)

        other : (q : ℕ) → q ≢ p → halting_debt waked q ≡ halting_debt m q
        other q ne =
            let off : q == p ≡ false = not-true (q == p) (λ h. ne (eqb-true q p h)) in
            let t = sum_same 6 (λ c. halting_turn_of (world m) (record { cpu = q; ctx = c }) (frame_at m (record { cpu = q; ctx = c })))
            (λ c. halting_turn_of (world waked) (record { cpu = q; ctx = c }) (frame_at waked (record { cpu = q; ctx = c })))
            (λ c low. ap (halting_turn_of (world waked) (record { cpu = q; ctx = c }))
            ((kicked_is m hs shows p range halted).others (record { cpu = q; ctx = c }) (λ i. ne (ap (λ (u : Waiter). u.cpu) i)))
            ∙ turn_alike (world m) (world waked) (ap (λ (y : World). y.turns) after_is)
            (λ l. ap (λ (y : World). (y.word l).locked) after_is) (λ l. ap (λ (y : World). (y.word l).tail) after_is)
            (λ i. ap (λ (y : World). y.rw i) after_is) (λ i. ap (λ (y : World). (y.node i).flag) after_is) (record { cpu = q; ctx = c })
            (ap (λ (y : World). y.halted q) after_is ∙ if-false (q == p) false (halted_at m q) off) (frame_at m (record { cpu = q; ctx = c }))) in
            let kick : kick_turns waked.setup.spins (kicked_at waked q) ≡ kick_turns m.setup.spins (kicked_at m q) =
            ap (λ (i : ℕ). kick_turns i (kicked_at waked q)) spins
            ∙ ap (kick_turns m.setup.spins) (ap (λ (y : World). y.kicked q) after_is ∙ if-false (q == p) false (kicked_at m q) off) in
            omega (arith, t, kick)

        each : (q : ℕ) → halting_debt waked q ≤ halting_debt m q
        each q = elim (cases_eq q p) [
          | inl i ↦ subst (λ (j : ℕ). halting_debt waked j ≤ halting_debt m j) (sym i) (let lt = own in omega (arith, lt))
          | inr ne ↦ let same = other q ne in omega (arith, same)
        ]
