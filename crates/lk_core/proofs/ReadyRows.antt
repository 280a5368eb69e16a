-- On a sound machine the top frame can make its row.
use Rattle.std.proofs.Common.{◌≡◌, ◌⊎◌, ℕ, zero, suc, inl, inr, Option, Some, None, Bool, true}
use Rattle.std.proofs.Common.{false, arith, ap, ◌<◌, ◌≤◌, ◌+◌, ◌-◌, ◌*◌, ◌^◌, refl, sym, ◌∙◌}
use Rattle.std.proofs.Common.{length, if◌then◌else◌, is_some, slice_get}
use Rattle.lk_core.proofs.Names.{cases_eq, slice_get_within, NodeName, LockHistory, LockName}
use Rattle.lk_core.proofs.Names.{Waiter, Machine, top_frame, top_of, node_of, HasPrograms}
use Rattle.lk_core.proofs.Names.{handlers_of, kind_of, Frame, Pc, E6, K3, U3, U5, CountsWithin}
use Rattle.lk_core.proofs.Names.{named_front_is_used, halts, chooses, is_rw_row, may_halt, has_node}
use Rattle.lk_core.proofs.Names.{own_in, Fits, ShowsAll, held_at, world, spin_part}
use Rattle.lk_rows.specs.Family.{family_of}
use Rattle.lk_rows.specs.Machine.{cpu_at, depth_at, frame_at, word_at, entry_at, queued_at}
use Rattle.lk_rows.specs.{Moves.CanMove, declared.parts.Pc.TheVariants.E9}
use Rattle.lk_machine.specs.Ready.{IsReady}
use Rattle.lk_cna.specs.Row.{IsCnaReady}
use Rattle.lk_rw.specs.Row.{IsRwReady}
use Rattle.lk_pv.specs.Row.{enters_hash, leaves_hash, IsPvReady}
use Rattle.lk_law.proofs.cna.Knows.{run_is_short, skipped_is_queued, queue_is_distinct}
use Rattle.lk_law.proofs.{common.Knows.row_knows, common.Users.is_node-own}
use Rattle.lk_law.proofs.rw.Few.{each_few, readers_are_few}
use Rattle.lk_law.specs.{Known.KnownHalting, Places.{slow_in, phase_if}, Snapshot.before}
use Rattle.lk_core.proofs.{Access.frame_within, HashRoom.{hash_room, front_acts}}
use Rattle.lk_core.proofs.Reach.{target_within, own_here, phase_there, kick_within}
use Rattle.lk_core.proofs.{RowKept.top_live, Stored.stored_within}
use Rattle.lk_rows.specs.declared.family.Family.TheVariants as family

before_le : (slow : Waiter → Bool) (p n : ℕ) → before slow p n ≤ n
before_le slow p zero = omega arith
before_le slow p (suc n) = by (slow (record { cpu = p; ctx = n })) (before_le slow p n)
  where
    by : (b : Bool) → before slow p n ≤ n → before slow p n + (if b then 1 else 0) ≤ suc n
    by true r = omega arith
    by false r = omega arith

module _ (m : Machine) (hs : LockName → LockHistory) (shows : ShowsAll m hs) (p : ℕ)
    (range : p < length m.cpus) where
  pub has_programs : HasPrograms m.setup p
  has_programs =
      let s = shows.whole.setup in
      let c = shows.whole.cpus in
      record { task = omega (arith, s.progs); handlers = omega (arith, s.irqs); few = s.handlers p }

  fit : Fits m (top_of m p) (top_frame m p)
  fit = shows.fits (top_of m p) (top_frame m p) (top_live m p hs shows range)

  known : (top_frame m p).program ≤ handlers_of m.setup p
  known =
      let h = shows.whole.handlers p in
      elim (cases_eq (top_of m p).ctx 0) [
        | inl e ↦ let z = fit.program.0 e in omega arith
        | inr ne ↦ let z = fit.program.1 (omega arith) in omega (arith, z.1)
      ]

  pub can_move : CanMove m p
  can_move =
      record {
        top = shows.whole.tops p range;
        programs = has_programs;
        known = known;
        short = shows.whole.setup.short p (top_frame m p).program;
        inside = fit.within;
      }

  few_queued : queued_at m p ≤ 6
  few_queued = let e = shows.world.spins.agrees.nodes.counted p in
      let l = before_le (λ u. slow_in (frame_at m u)) p 6 in omega arith

  pub ready_at : (c : Pc) → (top_frame m p).place ≡ Some c → CountsWithin (2 ^ 64 - 2) m.counts
      → IsReady m p
  ready_at c at counts =
      let w = fit.working c at in
      let d =
      (shows.whole.setup.lawful p (top_frame m p).program).declared
      (top_frame m p).«at» w.op w.is in
      let r = slice_get_within m.setup.locks.items w.op.lock (kind_of w.op.verb) d in
      let i = w.lock in
      let n = shows.whole.locks in
      record {
        moves = can_move;
        lock = omega arith;
        queued = few_queued;
        reaches = λ x e.
            target_within m hs shows (top_of m p) (top_frame m p) (top_live m p hs shows range) x e;
        stores = λ x e.
            stored_within m hs shows (top_of m p) (top_frame m p) (top_live m p hs shows range) x e;
        counts = counts;
      }

  cna_chooses : (c : Pc) → family_of c ≡ family.Cna → chooses c ≡ true
  cna_chooses c on = grind arith

  cna_noded : (c : Pc) (prev y : NodeName) (b : Bool) → family_of c ≡ family.Cna
      → has_node (phase_if (Some c) b prev y) ≡ true
  cna_noded c prev y b on = grind arith

  ctx_within : (u : Waiter) (f : Frame) → frame_at m u ≡ Some f → u.ctx < 6
  unfolding frame_at depth_at
  ctx_within u f e =
      let top = shows.whole.tops u.cpu (frame_within m u f e) in
      let low = slice_get_within (cpu_at m u.cpu).frames u.ctx f e in
      omega (arith, top.few, low)

  abbrev spins_of : LockName → LockHistory
  spins_of = spin_part (world m).kind hs

  -- a queue has no more waiters than there are frames
  queue_few : (l : LockName) → length (spins_of l).main ≤ 6144
  queue_few l =
      let all = queue_is_distinct (world m) (spin_part (world m).kind hs) l shows.world.spins in
      let cpus = shows.whole.cpus in
      let count = shows.whole.setup.few in
      each_few 6144 (λ u. (i : ℕ) × (slice_get (spins_of l).main i ≡ Some u)) (spins_of l).main
      (record { inside = λ i u h. (i, h); place = λ u h. h; once = all.1 })
      (λ u h. let f = all.0 h.0 u h.1 in
      let in_cpu = frame_within m u f.0 f.1 in
      let in_ctx = ctx_within u f.0 f.1 in
      (in_ctx, omega arith))

  pub cna_ready_at : (c : Pc) → (top_frame m p).place ≡ Some c → family_of c ≡ family.Cna
      → CountsWithin (2 ^ 64 - 2) m.counts → IsCnaReady m p
  cna_ready_at c at on counts =
      let f = top_frame m p in
      let live = top_live m p hs shows range in
      record {
        ready = ready_at c at counts;
        own =
            own_here m hs shows (top_of m p) f live c at
            (cna_noded c (node_of f.prev) (node_of f.y) (is_some f.me) on);
        few = λ q.
            let u =
            skipped_is_queued (world m) (spin_part (world m).kind hs)
            (top_of m p) f shows.world.spins live q in
            let low = slice_get_within (spins_of f.lock).main f.k u.0 u.1 in
            let most = queue_few f.lock in
            omega (arith, low, most);
        short = λ q named.
            let run =
            run_is_short (world m) (spin_part (world m).kind hs)
            (top_of m p) f shows.world.spins live q named in
            let most = shows.whole.setup.threshold in
            omega (arith, run, most);
      }

  rw_is : (c : Pc) → family_of c ≡ family.Rw → is_rw_row c ≡ true
  rw_is c on = grind arith

  pub rw_ready_at : (c : Pc) → (top_frame m p).place ≡ Some c → family_of c ≡ family.Rw
      → CountsWithin (2 ^ 64 - 2) m.counts → IsRwReady m p
  rw_ready_at c at on counts =
      let f = top_frame m p in
      let live = top_live m p hs shows range in
      let cpus = shows.whole.cpus in
      let count = shows.whole.setup.few in
      let kind = (shows.world.fits (top_of m p) f live).rw c at (rw_is c on) in
      let few = readers_are_few 6144 (world m) hs f.lock.index shows.world kind
      (λ u d e. let in_cpu = frame_within m u d e in let in_ctx = ctx_within u d e in
      (in_ctx, omega arith)) (λ u l e. ap (held_at m u l) e) in
      record { ready = ready_at c at counts; room = omega (arith, few) }

  -- a row of the lock that halts processors, with what it asks besides: what is entered in the
  -- hash, and that it has room

  pv_at : (c : Pc) → (top_frame m p).place ≡ Some c → family_of c ≡ family.Pv
      → halts m.setup.mode ≡ true
  pv_at c at on =
      (shows.world.spins.registers (top_of m p) (top_frame m p)
      (top_live m p hs shows range)).choice.halting c at (pv_halts c on)
    where
      pv_halts : (c : Pc) → family_of c ≡ family.Pv → may_halt c ≡ true
      pv_halts c on = grind arith

  enters_at : (o : Option Pc) → enters_hash o ≡ true → (o ≡ Some E6) ⊎ (o ≡ Some K3)
  enters_at (Some E6) e = inl refl
  enters_at (Some K3) e = inr refl
  enters_at (Some _) e = cc
  enters_at None e = cc

  leaves_at : (o : Option Pc) → leaves_hash o ≡ true → (o ≡ Some E9) ⊎ (o ≡ Some U3)
  leaves_at (Some E9) e = inl refl
  leaves_at (Some U3) e = inr refl
  leaves_at (Some _) e = cc
  leaves_at None e = cc

  module _ (on : halts m.setup.mode ≡ true) where
    abbrev f : Frame
    f = top_frame m p

    abbrev w : Waiter
    w = top_of m p

    live : frame_at m w ≡ Some f
    live = top_live m p hs shows range

    -- what the row meets
    met : (c : Pc) → f.place ≡ Some c → KnownHalting c f (word_at m f.lock) (entry_at m f.lock)
    met c at = (row_knows c (world m) spins_of w f shows.world.spins live at).2 on

    own_named : f.place ≡ Some E6 → is_some f.me ≡ true
    own_named at =
        (shows.world.spins.registers w f live).me
        (ap (λ (o : Option Pc). has_node (phase_if o (is_some f.me) (node_of f.prev) (node_of f.y)))
        at)

    next_named : f.place ≡ Some K3 → is_some f.y ≡ true
    next_named at = (shows.world.spins.registers w f live).choice.named K3 at refl

    absent : enters_hash f.place ≡ true → entry_at m f.lock ≡ None
    absent e = elim (enters_at f.place e) [ inl at ↦ met E6 at | inr at ↦ (met K3 at).1 ]

    present : leaves_hash f.place ≡ true → is_some (entry_at m f.lock) ≡ true
    present e =
        elim (leaves_at f.place e) [ inl at ↦ ap is_some (met E9 at).1 | inr at ↦ (met U3 at).1 ]

    room : enters_hash f.place ≡ true → length m.hash < 4 * length m.cpus
    room e = elim (enters_at f.place e) [
      | inl at ↦
          let own = own_here m hs shows w f live E6 at refl in
          let placed =
          shows.world.spins.agrees.nodes.placed f.lock w
          (ap has_node (phase_there m hs shows w f live E6 at)) in
          let is : node_of f.me ≡ own_in (frame_at m w) = sym (ap own_in live) in
          hash_room m hs shows on f.lock (node_of f.me) w f live
          (f, live, is_node-own f.me (own_named at))
          (record {
            cpu = ap (λ (k : NodeName). k.cpu) is ∙ ap (λ (k : NodeName). k.cpu) placed;
            index = own.index;
          }) refl (absent e)
      | inr at ↦
          let u = named_front_is_used (world m) spins_of w f K3 shows.world.spins live at refl in
          hash_room m hs shows on f.lock (node_of f.y) u.0 u.1.0 u.1.1 u.1 u.2
          (front_acts m hs shows on f.lock u.0 u.1.0 u.1.1 u.3) (absent e)
    ]

    kicked : f.place ≡ Some U5 → (node_of f.target).cpu < length m.cpus
    kicked at = kick_within m hs shows w f live (node_of f.target).cpu refl

  pub pv_ready_at : (c : Pc) → (top_frame m p).place ≡ Some c → family_of c ≡ family.Pv
      → CountsWithin (2 ^ 64 - 2) m.counts → IsPvReady m p
  pv_ready_at c at row counts =
      let on = pv_at c at row in
      record {
        ready = ready_at c at counts;
        own = own_named on;
        next = next_named on;
        absent = absent on;
        room = room on;
        present = present on;
        kicked = kicked on;
      }
