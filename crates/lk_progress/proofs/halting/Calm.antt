-- From each machine to which an ordered setup comes, heads that go around can be led to rows at which no lock is pending.
use Rattle.std.proofs.Common.{◌≡◌, ◌≢◌, inl, inr, ℕ, zero, suc, ◌<◌, ◌≤◌, ◌-◌, Option, Some, None}
use Rattle.std.proofs.Common.{List, [], ◌∷◌, true, false, refl, sym, ap, ◌∙◌, subst, arith, length}
use Rattle.std.proofs.Common.{slice_set}
use Rattle.lk_progress.proofs.Names.{cases_Bool, cases_eq, Fields, NodeName, LockHistory}
use Rattle.lk_progress.proofs.Names.{history_of, LockName, next, stands_halting, CpuState, Machine}
use Rattle.lk_progress.proofs.Names.{halted_at, no_cpu, top_frame, top_of, word_at, node_of, Done}
use Rattle.lk_progress.proofs.Names.{Effect, Enters, Freed, Goes, Granted, Lead, Leaves, Missed}
use Rattle.lk_progress.proofs.Names.{TakesWait, Yields, gone, moved, row_at, row_on, target, Frame}
use Rattle.lk_progress.proofs.Names.{Node, Pc, E2, E3, E4, E5, E10, E11, State, Setup, halts}
use Rattle.lk_progress.proofs.Names.{course_in, ShowsAll, world, spin_part, IsHeadServed}
use Rattle.lk_progress.proofs.Names.{goes_around, top_live, setup_kept, HaltingTurnStays, goes}
use Rattle.lk_progress.proofs.Names.{GoesAround}
use Rattle.lk_rows.specs.Machine.{cpu_at, depth_at, node_at, preempted_at, set_cpu, set_counts}
use Rattle.lk_rows.specs.{Machine.{set_lock, set_node, set_top, set_word}, Row.{Counter, counted}}
use Rattle.lk_rows.specs.TopRow.{on_state, on_word, stored_state, stored_word}
use Rattle.lk_rows.specs.rows.Pv.{pv_row, state_row}
use Rattle.lk_progress.proofs.{Good.IsHalting, Reached.{Reached, reached}, Rows.set_like}
use Rattle.lk_progress.proofs.{RunsHalting.kept_served, Woken.sleeping_place}
use Rattle.lk_progress.proofs.{halting.Around.{robbed_stays, unrest}, halting.Ends.cpus_is}
use Rattle.lk_progress.proofs.halting.Like.{LikeHalting, around_back, around_or, circle_like}
use Rattle.lk_progress.proofs.halting.Like.{like_self, like_then, others_same, round_now}
use Rattle.lk_progress.proofs.halting.Potential.{Circles, circle_at, step_row}
use Rattle.lk_names.specs.declared.events.Act.TheVariants as act

-- a row of a head that goes around preempts nobody

kept_cpu : (m : Machine) (p : ℕ) (c : CpuState) → c.preempted ≡ (cpu_at m p).preempted → (q : ℕ)
    → preempted_at (set_cpu m p c) q ≡ preempted_at m q
unfolding set_cpu cpu_at preempted_at
kept_cpu m p c e q = set_like (λ (x : CpuState). x.preempted) m.cpus no_cpu p q c e

kept_top : (m : Machine) (p : ℕ) (f : Frame) (q : ℕ) → preempted_at (set_top m p f) q ≡ preempted_at m q
unfolding set_top
kept_top m p f q = kept_cpu m p (record (cpu_at m p) { frames = slice_set (cpu_at m p).frames (depth_at m p - 1) f }) refl q

kept_node : (m : Machine) (n : NodeName) (x : Node) (q : ℕ) → preempted_at (set_node m n x) q ≡ preempted_at m q
unfolding set_node
kept_node m n x q = kept_cpu m n.cpu (record (cpu_at m n.cpu) { nodes = slice_set (cpu_at m n.cpu).nodes n.index x }) refl q

kept_word : (m : Machine) (l : LockName) (x : Fields) (q : ℕ) → preempted_at (set_word m l x) q ≡ preempted_at m q
unfolding set_word set_lock preempted_at cpu_at
kept_word m l x q = refl

kept_counts : (m : Machine) (cs : List Counter) (q : ℕ) → preempted_at (counted m cs) q ≡ preempted_at m q
unfolding set_counts preempted_at cpu_at
kept_counts m [] q = refl
kept_counts m (c ∷ cs) q = refl

kept_moved : (m : Machine) (p : ℕ) (f : Frame) (lead : Lead) → goes lead ≡ true → (q : ℕ)
    → preempted_at (moved m p f lead) q ≡ preempted_at m q
kept_moved m p f (Goes c cs) e q = kept_top m p (gone f c cs) q
kept_moved m p f (Enters me c) e q = cc e
kept_moved m p f Granted e q = cc e
kept_moved m p f Freed e q = cc e
kept_moved m p f Missed e q = cc e
kept_moved m p f Done e q = cc e
kept_moved m p f (TakesWait c) e q = cc e
kept_moved m p f Leaves e q = cc e
kept_moved m p f (Yields c cs) e q = cc e

kept_on_word : (m : Machine) (p : ℕ) (f : Frame) (o : Effect Fields) → goes o.leads ≡ true → (q : ℕ)
    → preempted_at (on_word m p f o).0 q ≡ preempted_at m q
kept_on_word m p f o away q =
    kept_moved (counted (stored_word m f o.stores) o.counts) p f o.leads away q
    ∙ kept_counts (stored_word m f o.stores) o.counts q ∙ by o.stores
  where
    by : (s : Option Fields) → preempted_at (stored_word m f s) q ≡ preempted_at m q
    by None = refl
    by (Some x) = kept_word m f.lock x q

kept_on_state : (m : Machine) (p : ℕ) (f : Frame) (n : NodeName) (o : Effect State) → goes o.leads ≡ true → (q : ℕ)
    → preempted_at (on_state m p f n o).0 q ≡ preempted_at m q
kept_on_state m p f n o away q =
    kept_moved (counted (stored_state m n o.stores) o.counts) p f o.leads away q
    ∙ kept_counts (stored_state m n o.stores) o.counts q ∙ by o.stores
  where
    by : (s : Option State) → preempted_at (stored_state m n s) q ≡ preempted_at m q
    by None = refl
    by (Some x) = kept_node m n (record (node_at m n) { state = x }) q

kept_row : (m : Machine) (p : ℕ) (f : Frame) (c : Pc) → goes_around c ≡ true
    → goes (course_in (world m) (top_of m p) f c (target c f)).leads ≡ true → (q : ℕ)
    → preempted_at (row_on m p f c (target c f)).0 q ≡ preempted_at m q
kept_row m p f E2 g away q =
    kept_on_state m p f (node_of f.me) (state_row m.setup.spins E2 f (node_at m (node_of f.me)).state) away q
kept_row m p f E3 g away q = kept_on_word m p f (pv_row m.setup.spins E3 f (word_at m f.lock)) away q
kept_row m p f E4 g away q = kept_on_word m p f (pv_row m.setup.spins E4 f (word_at m f.lock)) away q
kept_row m p f E5 g away q = kept_on_word m p f (pv_row m.setup.spins E5 f (word_at m f.lock)) away q
kept_row m p f E10 g away q =
    kept_on_state m p f (node_of f.me) (state_row m.setup.spins E10 f (node_at m (node_of f.me)).state) away q
kept_row m p f E11 g away q = kept_on_word m p f (pv_row m.setup.spins E11 f (word_at m f.lock)) away q
kept_row m p f c g away q = cc g

-- how many steps the newest frame is from a row at which its lock is not pending
abbrev pub unrest_if : Option Pc → Frame → ℕ
unrest_if None f = 0
unrest_if (Some c) f = unrest c f

abbrev pub unrest_of : Frame → ℕ
unrest_of f = unrest_if f.place f

awake_around : (c : Pc) → stands_halting (Some c) ≡ true → goes_around c ≡ true → ⊥
awake_around c h g = grind (arith, h, g)

module _ (setup : Setup) (on : halts setup.mode ≡ true) where
  abbrev R : Machine → Type 0
  R m = Reached IsHeadServed setup m

  abbrev hs : (m : Machine) → R m → LockName → LockHistory
  hs m r l = history_of l r.events

  halting : (m : Machine) → R m → halts m.setup.mode ≡ true
  halting m r = ap (λ (s : Setup). halts s.mode) r.setup_is ∙ on

  pub steps_on : (m : Machine) (a : Rattle.lk_names.specs.declared.events.Act.Act) → R m
      → Rattle.lk_rows.specs.Acts.processor_of a < length m.cpus → R (next m a).0
  steps_on m a r range =
      reached IsHalting IsHeadServed kept_served setup on (λ e. absurd (let z = on in cc (e, z))) (a ∷ []) m (range, tt) r

  -- the step of a head that goes around
  module _ (m : Machine) (r : R m) (p : ℕ) (range : p < length m.cpus) (off : preempted_at m p ≡ false) (t : GoesAround m p) where
    shows : ShowsAll m (hs m r)
    shows = r.shows.shows

    up : halted_at m p ≡ false
    up = elim (cases_Bool (halted_at m p)) [
      | inr e ↦ e
      | inl e ↦
          let s = sleeping_place m (hs m r) shows p range e in
          let z : Some s.0 ≡ Some t.place = sym s.1 ∙ t.here in
          let y : s.0 ≡ t.place = cc z in
          absurd (awake_around t.place (ap (λ (c : Pc). stands_halting (Some c)) (sym y) ∙ s.2) t.robbed.0)
    ]

    stays : HaltingTurnStays (world m) (top_of m p) (top_frame m p) t.place
    stays = robbed_stays (world m) (spin_part (world m).kind (hs m r)) shows.world.spins (top_of m p) (top_frame m p)
        (top_live m p (hs m r) shows range) t.place t.here t.robbed

    pub circle : Circles m (next m (act.Step p)).0 p
    circle = circle_at m (hs m r) p shows (halting m r) range off up t.place t.here stays

    pub preempts_none : (q : ℕ) → preempted_at (next m (act.Step p)).0 q ≡ preempted_at m q
    preempts_none q =
        ap (λ (y : Machine). preempted_at y q) (step_row m (hs m r) p shows (halting m r) range off up)
        ∙ ap (λ (o : Option Pc). preempted_at (row_at m p (top_frame m p) o).0 q) t.here
        ∙ kept_row m p (top_frame m p) t.place t.robbed.0 stays.away q

  -- k is m after steps of the head of p alone, and that rests
  pub record Calmer (m k : Machine) (p : ℕ) : Type 0 where
    pub reached : R k
    pub like : LikeHalting m k
    pub runs : (q : ℕ) → preempted_at k q ≡ preempted_at m q
    pub others : (q : ℕ) → q ≢ p → top_frame k q ≡ top_frame m q
    pub rests : GoesAround k p → unrest_of (top_frame k p) ≡ 0

  at_once : (m : Machine) → R m → (p : ℕ) → (GoesAround m p → unrest_of (top_frame m p) ≡ 0) → Calmer m m p
  at_once m r p rests = record { reached = r; like = like_self m; runs = λ q. refl; others = λ q ne. refl; rests = rests }

  pub soothe : (n : ℕ) (m : Machine) → R m → (p : ℕ) → p < length m.cpus → preempted_at m p ≡ false
      → unrest_of (top_frame m p) ≤ n → (k : Machine) × Calmer m k p
  soothe zero m r p range off le = (m, at_once m r p (λ t. omega (arith, le)))
  soothe (suc n) m r p range off le = elim (around_or m p) [
    | inr none ↦ (m, at_once m r p (λ t. absurd (none t)))
    | inl t ↦ elim (cases_eq (unrest_of (top_frame m p)) 0) [
      | inl e ↦ (m, at_once m r p (λ t. e))
      | inr ne ↦
          let k : Machine = (next m (act.Step p)).0 in
          let c = circle m r p range off t in
          let setup_is = setup_kept m (act.Step p) in
          let cpus = cpus_is m (hs m r) r.shows.shows (halting m r) (act.Step p) range in
          let first : LikeHalting m k = circle_like m k (hs m r) r.shows.shows p range setup_is cpus c in
          let round = round_now m k (hs m r) r.shows.shows p range setup_is cpus c in
          let now : unrest_of (top_frame k p) ≡ unrest round.place (top_frame k p) = ap (λ (o : Option Pc). unrest_if o (top_frame k p)) round.here in
          let was : unrest_of (top_frame m p) ≡ unrest c.around.place (top_frame m p) =
          ap (λ (o : Option Pc). unrest_if o (top_frame m p)) c.around.here in
          let near = round.nearer (omega (arith, ne, was)) in
          let rest = soothe n k (steps_on m (act.Step p) r range) p (subst (λ (i : ℕ). p < i) (sym cpus) range)
          (preempts_none m r p range off t p ∙ off) (omega (arith, now, was, near, le)) in (
            rest.0,
            record {
              reached = rest.1.reached;
              like = like_then m k rest.0 first rest.1.like;
              runs = λ q. rest.1.runs q ∙ preempts_none m r p range off t q;
              others = λ q ne. rest.1.others q ne ∙ others_same m k (hs m r) r.shows.shows p range setup_is cpus c q ne;
              rests = rest.1.rests;
            },
          )
    ]
  ]

  -- k is m after steps of heads that go around, and those of the first n processors rest
  pub record AllCalmer (m k : Machine) (n : ℕ) : Type 0 where
    pub reached : R k
    pub like : LikeHalting m k
    pub runs : (q : ℕ) → preempted_at k q ≡ preempted_at m q
    pub rests : (q : ℕ) → q < n → GoesAround k q → unrest_of (top_frame k q) ≡ 0

  pub soothe_all : (m : Machine) → R m → ((p : ℕ) → p < length m.cpus → preempted_at m p ≡ false) → (n : ℕ) → n ≤ length m.cpus
      → (k : Machine) × AllCalmer m k n
  soothe_all m r off zero le =
      (m, record { reached = r; like = like_self m; runs = λ q. refl; rests = λ q lt t. absurd (omega (arith, lt)) })
  soothe_all m r off (suc n) le =
      let some = soothe_all m r off n (omega (arith, le)) in
      let k : Machine = some.0 in
      let cpus = some.1.like.cpus in
      let one = soothe (unrest_of (top_frame k n)) k some.1.reached n (omega (arith, le, cpus))
      (some.1.runs n ∙ off n (omega (arith, le))) (omega arith) in (
        one.0,
        record {
          reached = one.1.reached;
          like = like_then m k one.0 some.1.like one.1.like;
          runs = λ q. one.1.runs q ∙ some.1.runs q;
          rests = λ q lt t. elim (cases_eq q n) [
            | inl e ↦ subst (λ (i : ℕ). unrest_of (top_frame one.0 i) ≡ 0) (sym e) (one.1.rests (subst (GoesAround one.0) e t))
            | inr ne ↦
                let z = some.1.rests q (let y = ne in grind (arith, lt, y)) (around_back k one.0 one.1.like q t).0 in
                ap unrest_of (one.1.others q ne) ∙ z
          ];
        },
      )
