-- The machine after any acts from rest: it shows its history, is steady, and has kept what is true of heads.
use Rattle.std.proofs.Common.{◌≡◌, inl, inr, ℕ, zero, suc, ◌<◌, ◌≤◌, ◌+◌, Option, Some, None, Bool}
use Rattle.std.proofs.Common.{true, false, refl, sym, ap, ◌∙◌, subst, arith, List, [], ◌∷◌, length}
use Rattle.std.proofs.Common.{slice_get, if◌then◌else◌}
use Rattle.lk_progress.proofs.Names.{cases_lt, LockHistory, history_of, same_waiter, Act, Event}
use Rattle.lk_progress.proofs.Names.{LockName, Mode, Virt, Waiter, idle, next, step_halted, Machine}
use Rattle.lk_progress.proofs.Names.{halted_at, queued_at, top_frame, top_of, first_place}
use Rattle.lk_progress.proofs.Names.{program_of, started, IsLawfulSetup, handlers_of, program_at}
use Rattle.lk_progress.proofs.Names.{at_rest, first_frame, machine_after, row, target, Frame, Pc}
use Rattle.lk_progress.proofs.Names.{G1, Op, Setup, Verb, Lock, RUnlock, Read, Try, TryRead}
use Rattle.lk_progress.proofs.Names.{TryWrite, Unlock, WUnlock, Write, nobody_halts, if-true}
use Rattle.lk_progress.proofs.Names.{same_waiter-self, row_is_done, halts, with_event, course_in}
use Rattle.lk_progress.proofs.Names.{stored_in, ShowsLawful, BelongsTo, Footing, ShowsAll, Works}
use Rattle.lk_progress.proofs.Names.{world, Freeing, Owing, Sharing, Spinning, Waiting, spin_part}
use Rattle.lk_progress.proofs.Names.{led, World, IsQuietFrame, above_top, frame_within, frames}
use Rattle.lk_progress.proofs.Names.{top_live, acts_keep, rest_shows, setup_kept, IsSteady}
use Rattle.lk_progress.proofs.Names.{IsFinished}
use Rattle.lk_rows.specs.Machine.{frame_at, depth_at, cpu_at, preempted_at}
use Rattle.lk_law.specs.{Families.is_slow, MachineLaws.AreInRange, Places.slow_in, Snapshot.before}
use Rattle.lk_waits.proofs.Quiet.{IsQuietRow, first_quiet}
use Rattle.lk_waits.specs.Waits.{IsTop}
use Rattle.lk_progress.proofs.{Good.{IsGood, IsKept, act_good}, Moves.{Moves, Settles, Turned}}
use Rattle.lk_progress.proofs.Rows.{Put, row_moves}
use Rattle.lk_progress.specs.Runs.{HasRoom}
use Rattle.lk_names.specs.declared.events.Act.TheVariants as act
use Rattle.lk_waits.specs.Waits as waits

first_frame_quiet : (mode : Mode) (o : Option Op) → IsQuietFrame (first_frame mode o)
first_frame_quiet mode None c p = absurd (let z : None ≡ Some c = p in cc z)
first_frame_quiet mode (Some o) c p =
    let i : first_place mode o.verb ≡ c = (let z : Some (first_place mode o.verb) ≡ Some c = p in cc z) in
    subst IsQuietRow i (first_quiet mode o.verb)

-- a node is left

before_bound : (slow : Waiter → Bool) (p n : ℕ) → before slow p n ≤ n
before_bound slow p zero = omega arith
before_bound slow p (suc n) =
    let h = before_bound slow p n in
    by (slow (record { cpu = p; ctx = n })) h
  where
    by : (b : Bool) → before slow p n ≤ n → before slow p n + (if b then 1 else 0) ≤ suc n
    by true h = omega (arith, h)
    by false h = omega (arith, h)

before_le : (slow : Waiter → Bool) (p k : ℕ) → ((c : ℕ) → k ≤ c → slow (record { cpu = p; ctx = c }) ≡ false) → (n : ℕ)
    → before slow p n ≤ k
before_le slow p k off zero = omega arith
before_le slow p k off (suc n) =
    let h = before_le slow p k off n in
    elim (cases_lt n k) [
      | inl lt ↦ let b = before_bound slow p (suc n) in omega (arith, b, lt)
      | inr ge ↦
          let z : before slow p n + (if slow (record { cpu = p; ctx = n }) then 1 else 0) ≡ before slow p n + 0 =
          ap (λ (b : Bool). before slow p n + (if b then 1 else 0)) (off n ge) in
          let e : before slow p (suc n) ≡ before slow p n + 0 = z in
          omega (arith, e, h)
    ]

get_below : (xs : List Frame) (i : ℕ) (f : Frame) → slice_get xs (suc i) ≡ Some f → (g : Frame) × (slice_get xs i ≡ Some g)
get_below [] i f e = cc e
get_below (x ∷ xs) zero f e = (x, refl)
get_below (x ∷ xs) (suc i) f e = get_below xs i f e

module _ (m : Machine) (hs : LockName → LockHistory) (shows : ShowsAll m hs) (steady : IsSteady (world m)) where
  frame_below : (p c : ℕ) (f : Frame) → frame_at m (record { cpu = p; ctx = suc c }) ≡ Some f
      → (g : Frame) × (frame_at m (record { cpu = p; ctx = c }) ≡ Some g)
  unfolding frame_at
  frame_below p c f e = get_below (cpu_at m p).frames c f e

  deep : (p c : ℕ) (f : Frame) → frame_at m (record { cpu = p; ctx = c }) ≡ Some f → c ≤ f.program
  deep p zero f e = omega arith
  deep p (suc c) f e =
      let g = frame_below p c f e in
      let h = deep p c g.0 g.1 in
      let s = steady.stacked (record { cpu = p; ctx = c }) (record { cpu = p; ctx = suc c }) g.0 f refl (omega arith) g.1 e in
      omega (arith, h, s)

  few_deep : ((p : ℕ) → handlers_of m.setup p ≤ 3) → (u : Waiter) (f : Frame) → frame_at m u ≡ Some f → u.ctx ≤ 3
  few_deep few u f e =
      let d = deep u.cpu u.ctx f e in
      let runs = (shows.fits u f e).program in
      let whole = shows.whole.handlers u.cpu in
      let three = few u.cpu in
      elim (cases_lt 0 u.ctx) [
        | inl lt ↦ let z = (runs.1 lt).1 in omega (arith, d, z, whole, three)
        | inr ge ↦ omega (arith, ge)
      ]

  no_entry_in_virt : (v : Verb) (f : Frame) → Footing Virt v f G1 → ⊥
  no_entry_in_virt v f (Spinning a b e) = by v e
    where
      by : (v : Verb) → BelongsTo Virt v G1 → ⊥
      by Lock e = cc e
      by Try e = elim e [ inl q ↦ cc q | inr q ↦ cc q ]
      by Unlock e = cc e
      by Read e = e
      by Write e = e
      by TryRead e = e
      by TryWrite e = e
      by RUnlock e = e
      by WUnlock e = e
  no_entry_in_virt v f (Sharing a e) = cc a
  no_entry_in_virt v f (Waiting a b c d e) = cc e
  no_entry_in_virt v f (Freeing a b c d e) = cc c
  no_entry_in_virt v f (Owing a e g h) = cc a

  pub room : HasRoom m.setup → (p : ℕ) → p < length m.cpus → (top_frame m p).place ≡ Some G1 → queued_at m p < 4
  room (inl virt) p range at =
      absurd (no_entry_in_virt works.op.verb (top_frame m p)
      (subst (λ (mode : Mode). Footing mode works.op.verb (top_frame m p) G1) virt works.stage))
    where
      works : Works m.setup.mode (program_of m p (top_frame m p)) (top_frame m p) G1
      works = (shows.fits (top_of m p) (top_frame m p) (top_live m p hs shows range)).working G1 at
  room (inr few) p range at =
      let live = top_live m p hs shows range in
      let low = few_deep few (top_of m p) (top_frame m p) live in
      let counted = shows.world.spins.agrees.nodes.counted p in
      let le = before_le (λ u. slow_in (frame_at m u)) p (top_of m p).ctx off 6 in
      omega (arith, low, counted, le)
    where
      off : (c : ℕ) → (top_of m p).ctx ≤ c → slow_in (frame_at m (record { cpu = p; ctx = c })) ≡ false
      off c le = elim (cases_lt (top_of m p).ctx c) [
        | inl lt ↦ ap slow_in (above_top m p c lt)
        | inr ge ↦
            let same : c ≡ (top_of m p).ctx = omega (arith, le, ge) in
            ap (λ (i : ℕ). slow_in (frame_at m (record { cpu = p; ctx = i }))) same
            ∙ ap slow_in (top_live m p hs shows range) ∙ ap is_slow at
      ]

-- every run
pub record Reached (F : World → Type 0) (setup : Setup) (m : Machine) : Type 0 where
  pub events : List Event
  pub shows : ShowsLawful m events
  pub good : IsGood F m
  pub setup_is : m.setup ≡ setup

module _ (S : Mode → Type 0) (F : World → Type 0) (kept : IsKept S F) (setup : Setup) where
  pub start : IsLawfulSetup setup → Reached F setup (at_rest setup)
  start ok =
      record {
        events = [];
        shows = rest_shows setup ok;
        good = record {
          steady = record {
            stacked = λ u v g f cpu lt lu lv.
                absurd (let z = (frames setup ok v f lv).0 in omega (arith, z, lt));
            placed = λ u f lt e. absurd (let z = (frames setup ok u f e).0 in omega (arith, z, lt));
            alone = λ u f lt e. absurd (let z = (frames setup ok u f e).0 in omega (arith, z, lt));
          };
          followed = kept.rest (world (at_rest setup)) (λ u f e. subst IsQuietFrame (frames setup ok u f e).1
              (first_frame_quiet setup.mode (slice_get (program_at setup u.cpu 0) 0)));
        };
        setup_is = refl;
      }

  pub reached : S setup.mode → (halts setup.mode ≡ false → HasRoom setup)
      → (acts : List Act) (m : Machine) → AreInRange (length m.cpus) acts → Reached F setup m → Reached F setup (machine_after m acts)
  reached family has_room [] m range r = r
  reached family has_room (a ∷ acts) m range r =
      let k = (next m a).0 in
      let hs : LockName → LockHistory = (λ l. history_of l r.events) in
      let after : ShowsLawful k (with_event r.events (next m a).1) = acts_keep m r.events a range.0 r.shows in
      let good : IsGood F k =
      act_good m hs r.shows.shows S (subst (λ (s : Setup). S s.mode) (sym r.setup_is) family) F kept r.good a range.0
      (λ p lt awake. room m hs r.shows.shows r.good.steady
      (subst HasRoom (sym r.setup_is) (has_room (ap (λ (s : Setup). halts s.mode) (sym r.setup_is) ∙ awake))) p lt) in
      let same : k.setup ≡ m.setup = setup_kept m a in
      let cpus : length m.cpus ≡ length k.cpus =
      r.shows.shows.whole.cpus ∙ ap (λ (s : Setup). length s.topology.sockets.items) (sym same) ∙ sym after.shows.whole.cpus in
      reached family has_room acts k (subst (λ (i : ℕ). AreInRange i acts) cpus range.1) (record {
        events = with_event r.events (next m a).1;
        shows = after;
        good = good;
        setup_is = same ∙ r.setup_is;
      })

  pub reached_from_rest : (acts : List Act) → IsLawfulSetup setup → S setup.mode
      → (halts setup.mode ≡ false → HasRoom setup) → AreInRange (length setup.topology.sockets.items) acts
      → Reached F setup (machine_after (at_rest setup) acts)
  reached_from_rest acts ok family has_room range =
      reached family has_room acts (at_rest setup)
      (subst (λ (i : ℕ). AreInRange i acts) (sym (rest_shows setup ok).shows.whole.cpus) range) (start ok)

-- a machine in which nothing changes
module _ (m : Machine) (hs : LockName → LockHistory) (shows : ShowsAll m hs) where
  -- the newest frame of a processor is its top
  pub top_is : (w : Waiter) (f : Frame) (c : Pc) → IsTop (world m) w f c → w ≡ top_of m w.cpu
  top_is w f c top =
      let lt = frame_within m w f top.live in
      let live = top_live m w.cpu hs shows lt in
      elim (cases_lt w.ctx (top_of m w.cpu).ctx) [
        | inl less ↦ absurd (let z = top.above (top_of m w.cpu).ctx less in
            (let y : None ≡ Some (top_frame m w.cpu) = sym z ∙ live in cc y))
        | inr ge ↦ elim (cases_lt (top_of m w.cpu).ctx w.ctx) [
          | inl less ↦ absurd (let z = above_top m w.cpu w.ctx less in (let y : None ≡ Some f = sym z ∙ top.live in cc y))
          | inr le ↦ (let same : w.ctx ≡ (top_of m w.cpu).ctx = omega (arith, ge, le) in λ i. record { cpu = w.cpu; ctx = same i })
        ]
      ]

  pub row_stuck : (p : ℕ) (f : Frame) (c : Pc) → p < length m.cpus → frame_at m (top_of m p) ≡ Some f → f.place ≡ Some c
      → (row m p).0 ≡ m → waits.StandsStill (world m) (top_of m p) f c
  row_stuck p f c lt live place still = by r.2.turned
    where
      r : (n : Machine) × Put m n (stored_in (world m) (top_of m p) f c (target c f))
          × Moves n (top_of m p) f (led f (course_in (world m) (top_of m p) f c (target c f)).leads) (row m p).0
      r = row_moves m p hs shows lt f c live place (shows.world.fits (top_of m p) f live).after

      now : r.2.now ≡ Some f
      now =
          sym (r.2.follows.frame (top_of m p)
          ∙ ap (λ (t : Bool). if t then r.2.now else frame_at r.0 (top_of m p)) (same_waiter-self (top_of m p)))
          ∙ ap (λ (k : Machine). frame_at k (top_of m p)) still ∙ live

      by : Turned r.0.setup.mode f (led f (course_in (world m) (top_of m p) f c (target c f)).leads) r.2.now
          → waits.StandsStill (world m) (top_of m p) f c
      by (inl t) =
          (row_is_done (world m) (top_of m p) f c (target c f)).frame (top_of m p)
          ∙ if-true (same_waiter (top_of m p) (top_of m p)) (Some (led f (course_in (world m) (top_of m p) f c (target c f)).leads))
          (frame_at m (top_of m p)) (same_waiter-self (top_of m p))
          ∙ sym t.0 ∙ now
      by (inr t) = absurd (ends t.1.0 t.1.3 t.1.4)
        where
          ends : (h : Frame) → f.«at» < h.«at» → Settles r.0.setup.mode h r.2.now → ⊥
          ends h more (inl e) = (let z : None ≡ Some f = sym e ∙ now in cc z)
          ends h more (inr (inl e)) =
              let z : Some (record h { place = None }) ≡ Some f = sym e.0 ∙ now in
              let y : record h { place = None } ≡ f = cc z in
              let x : h.«at» ≡ f.«at» = ap (λ (g : Frame). g.«at») y in
              omega (arith, x, more)
          ends h more (inr (inr v)) =
              let z : Some (started r.0.setup.mode h v.0) ≡ Some f = sym v.1 ∙ now in
              let y : started r.0.setup.mode h v.0 ≡ f = cc z in
              let x : h.«at» ≡ f.«at» = ap (λ (g : Frame). g.«at») y in
              omega (arith, x, more)

  -- where no processor halts a step is a row
  pub stuck_at : halts m.setup.mode ≡ false → ((p : ℕ) → p < length m.cpus → preempted_at m p ≡ false)
      → (p : ℕ) (f : Frame) (c : Pc) → p < length m.cpus → frame_at m (top_of m p) ≡ Some f → f.place ≡ Some c
      → (next m (act.Step p)).0 ≡ m → waits.StandsStill (world m) (top_of m p) f c
  stuck_at awake unpreempted p f c lt live place still = row_stuck p f c lt live place
      (sym (ap (λ (b : Bool). (if b then idle m else (if halted_at m p then step_halted m p else row m p)).0) (unpreempted p lt)
      ∙ ap (λ (b : Bool). (if b then step_halted m p else row m p).0)
      (nobody_halts (world m) (spin_part (world m).kind hs) shows.world.spins awake p))
      ∙ still)

-- a processor whose newest frame has no place has finished
pub finished_by : (m : Machine) (hs : LockName → LockHistory) → ShowsAll m hs → IsSteady (world m) → (p : ℕ) → p < length m.cpus
    → (top_frame m p).place ≡ None → IsFinished m p
finished_by m hs shows steady p within e =
    record {
      place = e;
      alone = elim (cases_lt 1 (depth_at m p)) [
        | inl more ↦ absurd (steady.placed (top_of m p) (top_frame m p) (omega (arith, more)) (top_live m p hs shows within) e)
        | inr le ↦ (let some = (shows.whole.tops p within).some in omega (arith, le, some))
      ];
    }
