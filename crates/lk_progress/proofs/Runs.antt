-- No run of an ordered setup comes to a deadlock.
use Rattle.std.proofs.Common.{◌≡◌, ◌≢◌, ◌⊎◌, inl, inr, ℕ, zero, suc, ◌<◌, ◌≤◌, ◌+◌, ◌*◌, Option}
use Rattle.std.proofs.Common.{Some, None, true, false, refl, sym, ap, ◌∙◌, subst, arith, List, []}
use Rattle.std.proofs.Common.{◌∷◌, length, slice_index_or}
use Rattle.lk_progress.proofs.Names.{cases_lt, LockHistory, history_of, Act, Spin, LockName, Mode}
use Rattle.lk_progress.proofs.Names.{Native, Waiter, next, processor_of, Machine, top_frame, top_of}
use Rattle.lk_progress.proofs.Names.{program_of, IsLawfulSetup, at_rest, machine_after, Frame, Pc}
use Rattle.lk_progress.proofs.Names.{C1, C2, C3, C10, N1, N2, T1, T2, U1, V1, V2, Wr5, Wr6, Setup}
use Rattle.lk_progress.proofs.Names.{Verb, Lock, RUnlock, Read, Try, TryRead, TryWrite, Unlock}
use Rattle.lk_progress.proofs.Names.{WUnlock, Write, nobody_halts, halts, moves_aside, chooses}
use Rattle.lk_progress.proofs.Names.{BelongsTo, Footing, ShowsAll, Works, world, Freeing, Owing}
use Rattle.lk_progress.proofs.Names.{Sharing, Spinning, Waiting, row_in, World, level_of, IsBarred}
use Rattle.lk_progress.proofs.Names.{above_top, frame_within, top_live, rest_shows, is_turn}
use Rattle.lk_progress.proofs.Names.{IsOrdered, price, turns, IsFinished, TurnsOnTheSpot}
use Rattle.lk_names.specs.declared.names.Kind.TheVariants.{Rw}
use Rattle.lk_rows.specs.Machine.{frame_at, preempted_at}
use Rattle.lk_law.specs.{Families.is_rw_row, Sound.is_lock_row}
use Rattle.lk_waits.proofs.{Changed.quietly_of, Climb.no_deadlock, Followed.row_keeps_followed}
use Rattle.lk_waits.proofs.Quiet.{heads_stay, rests_followed}
use Rattle.lk_waits.specs.{Followed.IsHeadFollowed, Waits.IsStuck}
use Rattle.lk_progress.proofs.Budget.{acts_lower, price_falls, runs_are_short, changes_bounded}
use Rattle.lk_progress.proofs.{Good.{IsKept, IsAwake}, Ranked.{tidy, ranked, inside}}
use Rattle.lk_progress.proofs.Reached.{Reached, start, reached, reached_from_rest, top_is, stuck_at}
use Rattle.lk_progress.proofs.{Reached.finished_by, Spot.spot_or, Turned.rest_turns}
use Rattle.lk_progress.specs.Potential.{budget, cost, LeadsNobodyOn, HasChanges, TurnIsMade}
use Rattle.lk_progress.specs.Runs.{HasRoom, StandsStill, OrderedRunsGoOn, SomebodyMoves}
use Rattle.lk_progress.specs.Runs.{SomebodyMovesOn, RunsEnd, NativeRunsEnd}
use Rattle.lk_names.specs.declared.events.Act.TheVariants as act
use Rattle.lk_waits.specs.Waits as waits

-- heads that wait for a successor are kept followed
pub kept_followed : IsKept (IsAwake false) IsHeadFollowed
kept_followed = record {
  rest = rests_followed;
  comes = λ a b w came. heads_stay a b w came.quietly;
  rows = λ c m n hs w f ok family live at inner room changed inv.
      heads_stay (row_in m w f c).0 n w (quietly_of m n w f c changed)
      (row_keeps_followed c m hs w f ok family.0 family.1 live at inner (λ e. room e family.0) inv);
  ends = λ m n hs w f ok family newest live halted roused inv.
      absurd (let z = nobody_halts m hs ok family.0 w.cpu in cc (z, halted));
}

-- a head that turns on the spot chooses its successor
barred_chooses : (m : World) (f : Frame) (c : Pc) → IsBarred m f c → chooses c ≡ true
barred_chooses m f C1 b = refl
barred_chooses m f C3 b = refl
barred_chooses m f C10 b = refl
barred_chooses m f _ b = absurd b

-- where nobody is moved aside no head does
pub no_spot : (m : Machine) (hs : LockName → LockHistory) → ShowsAll m hs → moves_aside m.setup.mode ≡ false → (p : ℕ)
    → p < length m.cpus → TurnsOnTheSpot m p → ⊥
no_spot m hs shows plain p lt t =
    let e = barred_chooses (world m) (top_frame m p) t.place t.barred in
    let z = (shows.world.spins.registers (top_of m p) (top_frame m p) (top_live m p hs shows lt)).choice.choice t.place t.here e in
    cc (z, plain)

-- a machine in which nothing changes is a world that is stuck
module _ (m : Machine) (hs : LockName → LockHistory) (shows : ShowsAll m hs) (awake : halts m.setup.mode ≡ false)
    (plain : moves_aside m.setup.mode ≡ false) (unpreempted : (p : ℕ) → p < length m.cpus → preempted_at m p ≡ false) where
  pub is_stuck : StandsStill m → IsStuck (world m)
  is_stuck still w f c top =
      let lt = frame_within m w f top.live in
      let same = top_is m hs shows w f c top in
      subst (λ (u : Waiter). waits.StandsStill (world m) u f c) (sym same)
      (stuck_at m hs shows awake unpreempted w.cpu f c lt (ap (frame_at m) (sym same) ∙ top.live) top.place (still w.cpu lt))

-- all, or one of the others
pub all_or : (n : ℕ) (P Q : ℕ → Type 0) → ((i : ℕ) → i < n → P i ⊎ Q i)
    → ((i : ℕ) → i < n → P i) ⊎ ((i : ℕ) × (i < n) × Q i)
all_or zero P Q each = inl (λ i lt. absurd (omega (arith, lt)))
all_or (suc n) P Q each = elim (all_or n P Q (λ i lt. each i (omega (arith, lt)))) [
  | inr z ↦ inr (z.0, (let lt = z.1 in omega (arith, lt)), z.2)
  | inl below ↦ elim (each n (omega arith)) [
    | inr q ↦ inr (n, omega arith, q)
    | inl p ↦ inl (λ i lt. elim (cases_lt i n) [
      | inl low ↦ below i low
      | inr ge ↦ subst P (let e : n ≡ i = omega (arith, lt, ge) in e) p
    ])
  ]
]

-- the next step of the processor changes the machine, and is not that of a head that turns on the spot
pub record LeadsOn (m : Machine) (p : ℕ) : Type 0 where
  pub changes : (next m (act.Step p)).0 ≢ m
  pub off : TurnsOnTheSpot m p → ⊥

-- where no processor halts a step leads on, or changes nothing, or is that of such a head
pub leads_on : (m : Machine) (hs : LockName → LockHistory) → ShowsAll m hs → halts m.setup.mode ≡ false → (p : ℕ)
    → p < length m.cpus → (((next m (act.Step p)).0 ≡ m) ⊎ TurnsOnTheSpot m p) ⊎ LeadsOn m p
leads_on m hs shows awake p lt = elim (price_falls m hs (act.Step p) shows awake lt) [
  | inl e ↦ inl (inl e)
  | inr r ↦ elim r [
    | inl less ↦ elim (spot_or m p) [
      | inl t ↦ inl (inr t)
      | inr off ↦ inr (record { changes = λ e. (let z = ap price e in omega (arith, z, less)); off = off })
    ]
    | inr z ↦ elim z.0 [
      | inl y ↦ cc y
      | inr y ↦ inl (inr (subst (TurnsOnTheSpot m) (let e : y.0 ≡ p = cc y.1 in e) y.2))
    ]
  ]
]

-- a machine that an ordered setup comes to
module _ (rank : ℕ → ℕ) (size : ℕ) (setup : Setup) (ordered : IsOrdered rank size setup) (awake : halts setup.mode ≡ false)
    (plain : moves_aside setup.mode ≡ false) (m : Machine) (r : Reached IsHeadFollowed setup m)
    (unpreempted : (p : ℕ) → p < length m.cpus → preempted_at m p ≡ false) where
  abbrev hs : LockName → LockHistory
  hs l = history_of l r.events

  awake_now : halts m.setup.mode ≡ false
  awake_now = ap (λ (s : Setup). halts s.mode) r.setup_is ∙ awake

  plain_now : moves_aside m.setup.mode ≡ false
  plain_now = ap (λ (s : Setup). moves_aside s.mode) r.setup_is ∙ plain

  -- where no step changes anything, all have finished
  finished_at : StandsStill m → (p : ℕ) → p < length m.cpus → IsFinished m p
  finished_at still p within = by (top_frame m p).place refl
    where
      shows : ShowsAll m hs
      shows = r.shows.shows

      live : frame_at m (top_of m p) ≡ Some (top_frame m p)
      live = top_live m p hs r.shows.shows within

      by : (o : Option Pc) → (top_frame m p).place ≡ o → IsFinished m p
      by None e = finished_by m hs r.shows.shows r.good.steady p within e
      by (Some c) e =
          absurd (no_deadlock (level_of rank) (size * 2 + 1) (world m) hs shows.world awake_now plain_now
          (tidy m hs shows r.good.steady)
          (ranked m hs shows r.good.steady rank size (subst (IsOrdered rank size) (sym r.setup_is) ordered))
          r.good.followed.followed
          (inside m hs shows r.good.steady)
          (is_stuck m hs shows awake_now plain_now unpreempted still)
          (top_of m p) (top_frame m p) c
          (record { live = live; above = λ d lt. above_top m p d lt; place = e }))

  -- all have finished, or somebody's step leads on
  pub leads_from : ((p : ℕ) → p < length m.cpus → IsFinished m p) ⊎ ((p : ℕ) × (p < length m.cpus) × LeadsOn m p)
  leads_from =
      elim (all_or (length m.cpus) (λ p. ((next m (act.Step p)).0 ≡ m) ⊎ TurnsOnTheSpot m p) (λ p. LeadsOn m p)
      (λ p lt. leads_on m hs r.shows.shows awake_now p lt)) [
        | inl still ↦ inl (finished_at (λ p lt. elim (still p lt) [
          | inl e ↦ e
          | inr t ↦ absurd (no_spot m hs r.shows.shows plain_now p lt t)
        ]))
        | inr z ↦ inr z
      ]

  -- or changes the machine
  pub goes_on : ((p : ℕ) → p < length m.cpus → IsFinished m p) ⊎ SomebodyMoves m
  goes_on = elim leads_from [
    | inl all ↦ inl all
    | inr z ↦ inr (record { processor = z.0; inside = z.1; moves = z.2.changes })
  ]

pub ordered_runs_go_on : OrderedRunsGoOn
ordered_runs_go_on rank size setup acts ok ordered awake plain has_room range unpreempted still p within =
    finished_at rank size setup ordered awake plain (machine_after (at_rest setup) acts)
    (reached_from_rest (IsAwake false) IsHeadFollowed kept_followed setup acts ok (awake, plain) (λ e. has_room) range) unpreempted still p within

pub somebody_moves_on : SomebodyMovesOn
somebody_moves_on rank size setup acts ok ordered awake plain has_room range unpreempted =
    goes_on rank size setup ordered awake plain (machine_after (at_rest setup) acts)
    (reached_from_rest (IsAwake false) IsHeadFollowed kept_followed setup acts ok (awake, plain) (λ e. has_room) range) unpreempted

-- every run ends

pub runs_end : RunsEnd
runs_end setup acts k ok awake z =
    let rest = rest_shows setup ok in
    let le = runs_are_short (at_rest setup) [] acts k rest awake z in
    let none = rest_turns setup ok in
    let cpus : budget (at_rest setup) * cost setup.mode (length (at_rest setup).cpus)
    ≡ budget (at_rest setup) * cost setup.mode (length setup.topology.sockets.items) =
    ap (λ (n : ℕ). budget (at_rest setup) * cost setup.mode n) rest.shows.whole.cpus in
    by k (price (at_rest setup)) (budget (at_rest setup) * cost setup.mode (length (at_rest setup).cpus)) (turns (at_rest setup))
    (budget (at_rest setup) * cost setup.mode (length setup.topology.sockets.items)) le refl none cpus
  where
    by : (k p x t y : ℕ) → k ≤ p → p ≡ x + t → t ≡ 0 → x ≡ y → k ≤ y
    by k p x t y le e none same = omega (arith, le, e, none, same)

-- in `native` with spinlocks alone, and with a node for each, nobody is in a turn

no_footing : (c : Pc) → is_lock_row Native c ≡ false → is_rw_row c ≡ false → c ≢ T1 → c ≢ T2 → c ≢ U1
    → (v : Verb) (f : Frame) → Footing Native v f c → ⊥
no_footing c off spin t1 t2 u1 v f (Spinning a b e) = by v e
  where
    by : (v : Verb) → BelongsTo Native v c → ⊥
    by Lock e = cc (e, off)
    by Try e = elim e [ inl q ↦ t1 q | inr q ↦ t2 q ]
    by Unlock e = u1 e
    by Read e = e
    by Write e = e
    by TryRead e = e
    by TryWrite e = e
    by RUnlock e = e
    by WUnlock e = e
no_footing c off spin t1 t2 u1 v f (Sharing a e) = cc (a, spin)
no_footing c off spin t1 t2 u1 v f (Waiting a b d g e) = cc (e, off)
no_footing c off spin t1 t2 u1 v f (Freeing a b d g e) = u1 e
no_footing c off spin t1 t2 u1 v f (Owing a e g h) = cc a

no_loop_in_native : (c : Pc) → (c ≡ V1) ⊎ (c ≡ V2) → (v : Verb) (f : Frame) → Footing Native v f c → ⊥
no_loop_in_native c which v f footing = elim which [
  | inl e ↦ no_footing V1 refl refl (λ z. cc z) (λ z. cc z) (λ z. cc z) v f (subst (Footing Native v f) e footing)
  | inr e ↦ no_footing V2 refl refl (λ z. cc z) (λ z. cc z) (λ z. cc z) v f (subst (Footing Native v f) e footing)
]

-- the rows of turns: of the loop, of a waiter without a node, and of a writer
turn_cases : (c : Pc) → is_turn c ≡ true
    → ((c ≡ V1) ⊎ (c ≡ V2)) ⊎ ((c ≡ N1) ⊎ (c ≡ N2)) ⊎ (is_rw_row c ≡ true) ⊎ (chooses c ≡ true)
turn_cases V1 e = inl (inl refl)
turn_cases V2 e = inl (inr refl)
turn_cases N1 e = inr (inl (inl refl))
turn_cases N2 e = inr (inl (inr refl))
turn_cases Wr5 e = inr (inr (inl refl))
turn_cases Wr6 e = inr (inr (inl refl))
turn_cases C1 e = inr (inr (inr refl))
turn_cases C2 e = inr (inr (inr refl))
turn_cases C3 e = inr (inr (inr refl))
turn_cases C10 e = inr (inr (inr refl))
turn_cases _ e = cc e

module _ (setup : Setup) (ok : IsLawfulSetup setup) (native : setup.mode ≡ Native)
    (spins : (i : ℕ) → slice_index_or setup.locks.items i Spin ≡ Spin) (has_room : HasRoom setup) where
  awake_in : halts setup.mode ≡ false
  awake_in = ap halts native

  plain_in : moves_aside setup.mode ≡ false
  plain_in = ap moves_aside native

  no_turn : (m n : Machine) → Reached IsHeadFollowed setup m → (p : ℕ) → p < length m.cpus → TurnIsMade m n p → ⊥
  no_turn m n r p range z = elim (turn_cases z.place z.turn) [
    | inl which ↦
        let works : Works m.setup.mode (program_of m p (top_frame m p)) (top_frame m p) z.place =
        (shows.fits (top_of m p) (top_frame m p) live).working z.place z.here in
        no_loop_in_native z.place which works.op.verb (top_frame m p)
        (subst (λ (mode : Mode). Footing mode works.op.verb (top_frame m p) z.place)
        (ap (λ (s : Setup). s.mode) r.setup_is ∙ native) works.stage)
    | inr q ↦ elim q [
      | inl which ↦
          let noded = r.good.followed.noded (top_of m p) (top_frame m p) live in
          elim which [ inl e ↦ noded.0 (z.here ∙ ap Some e) | inr e ↦ noded.1 (z.here ∙ ap Some e) ]
      | inr q ↦ elim q [
        | inr e ↦
            let chosen = (shows.world.spins.registers (top_of m p) (top_frame m p) live).choice.choice z.place z.here e in
            let mode = ap (λ (s : Setup). moves_aside s.mode) r.setup_is ∙ plain_in in
            cc (chosen, mode)
        | inl e ↦
            let kind : slice_index_or m.setup.locks.items (top_frame m p).lock.index Spin ≡ Rw =
            (shows.world.fits (top_of m p) (top_frame m p) live).rw z.place z.here e in
            let spin : slice_index_or m.setup.locks.items (top_frame m p).lock.index Spin ≡ Spin =
            ap (λ (s : Setup). slice_index_or s.locks.items (top_frame m p).lock.index Spin) r.setup_is
            ∙ spins (top_frame m p).lock.index in
            (let y : Rw ≡ Spin = sym kind ∙ spin in cc y)
      ]
    ]
  ]
    where
      shows : ShowsAll m (λ l. history_of l r.events)
      shows = r.shows.shows

      live : frame_at m (top_of m p) ≡ Some (top_frame m p)
      live = top_live m p (λ l. history_of l r.events) r.shows.shows range

  lowers : (m : Machine) (a : Act) → Reached IsHeadFollowed setup m → processor_of a < length m.cpus
      → ((next m a).0 ≡ m) ⊎ (budget (next m a).0 < budget m) ⊎ (LeadsNobodyOn m a × (budget (next m a).0 ≡ budget m))
  lowers m a r range = elim (acts_lower m (λ l. history_of l r.events) a r.shows.shows
      (ap (λ (s : Setup). halts s.mode) r.setup_is ∙ awake_in) range) [
        | inl e ↦ inl e
        | inr x ↦ elim x [
          | inl lt ↦ inr (inl lt)
          | inr y ↦ elim y [
            | inl p ↦ inr (inr (p.0, p.1))
            | inr t ↦ absurd (no_turn m (next m a).0 r t.0 (subst (λ (b : Act). processor_of b < length m.cpus) t.1 range) t.2)
          ]
        ]
      ]

  native_end : (acts : List Act) (k : ℕ) → HasChanges (at_rest setup) acts k → k ≤ budget (at_rest setup)
  native_end acts k z =
      changes_bounded (Reached IsHeadFollowed setup) budget
      (λ m a r range. reached (IsAwake false) IsHeadFollowed kept_followed setup (awake_in, plain_in) (λ e. has_room) (a ∷ []) m (range, tt) r)
      lowers (at_rest setup) acts k (start (IsAwake false) IsHeadFollowed kept_followed setup ok) z

pub native_runs_end : NativeRunsEnd
native_runs_end setup acts k ok native spins has_room z = native_end setup ok native spins has_room acts k z
