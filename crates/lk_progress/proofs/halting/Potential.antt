-- Where processors halt, a step lowers what is left of the frames, or brings the end of a turn nearer, or is that of a
-- head which goes around.
use Rattle.std.proofs.Common.{◌≡◌, ◌≢◌, ◌⊎◌, inl, inr, ℕ, ◌<◌, ◌≤◌, ◌+◌, ◌-◌, ◌*◌, Option, Some}
use Rattle.std.proofs.Common.{None, Bool, true, false, refl, sym, ap, ◌∙◌, subst, arith, length}
use Rattle.std.proofs.Common.{if◌then◌else◌}
use Rattle.lk_progress.proofs.Names.{slice_get_within, Fields, NodeName, LockHistory, same_waiter}
use Rattle.lk_progress.proofs.Names.{LockName, Waiter, idle, next, stands_halting, step_halted}
use Rattle.lk_progress.proofs.Names.{HasTop, Machine, halted_at, handlers_at, kicked_at, top_frame}
use Rattle.lk_progress.proofs.Names.{top_of, word_at, program_of, started, program_at, Done, Enters}
use Rattle.lk_progress.proofs.Names.{Freed, Goes, Granted, Lead, Leaves, Missed, TakesWait, Yields}
use Rattle.lk_progress.proofs.Names.{gone, moved, row, row_at, row_on, target, Frame, Pc, Setup}
use Rattle.lk_progress.proofs.Names.{waiter_cases, if-true, same_waiter-else, same_waiter-self}
use Rattle.lk_progress.proofs.Names.{row_is_done, halts, course_in, stored_in, ShowsAll, Works}
use Rattle.lk_progress.proofs.Names.{world, spin_part, led, World, still_looks_at, act_kept}
use Rattle.lk_progress.proofs.Names.{top_live, has_top_same, same_set_top, setup_kept}
use Rattle.lk_progress.proofs.Names.{HaltingTurnStays, KeepsTurns, halting_left, halting_turn_of}
use Rattle.lk_progress.proofs.Names.{SpinsAreFew, halting_cpu_weight, halting_debt, halting_turns}
use Rattle.lk_progress.proofs.Names.{halting_weight, kick_turns, goes, sum_below, GoesAround}
use Rattle.lk_rows.specs.Machine.{frame_at, preempted_at, depth_at, node_at}
use Rattle.lk_progress.proofs.{HaltingSteps.polled, Moves.{Moves, Settles, Turned}}
use Rattle.lk_progress.proofs.Potential.{moved_goes, led_at, ops_left}
use Rattle.lk_progress.proofs.Rows.{Put, row_moves, row_made}
use Rattle.lk_progress.proofs.Sums.{sum_fall, sum_most_of, sum_same, total_same, total_less}
use Rattle.lk_progress.proofs.halting.Bound.{keeps_then, turn_most, turn_kept}
use Rattle.lk_progress.proofs.halting.Descends.{halting_row_descends}
use Rattle.lk_progress.proofs.halting.Spins.{halting_begin_is_short, row_keeps_spins}
use Rattle.lk_progress.specs.{HaltingMeasure.HaltingTurnGoesOn, HaltingPrice.halting_cpu_turns}
use Rattle.lk_names.specs.declared.events.Act.TheVariants as act
use Rattle.lk_waits.specs.Waits as waits

-- what is left of all frames
abbrev pub frames_left : Machine → ℕ
frames_left m = sum_below (length m.cpus) (λ p. halting_cpu_weight m p)

-- The step is that of a head which goes around: it changes the head's own frame, whether its lock is pending, and the
-- states of nodes.
pub record Circles (m n : Machine) (p : ℕ) : Type 0 where
  pub around : GoesAround m p
  pub here : frame_at n (top_of m p) ≡ Some (led (top_frame m p)
      (course_in (world m) (top_of m p) (top_frame m p) around.place (target around.place (top_frame m p))).leads)
  pub depth : (q : ℕ) → depth_at n q ≡ depth_at m q
  pub pending : (l : LockName) → l ≢ (top_frame m p).lock → (word_at n l).pending ≡ (word_at m l).pending
  pub links : (k : NodeName) → (node_at n k).next ≡ (node_at m k).next
  pub keeps : KeepsTurns (world m) (world n)
  pub halted : (q : ℕ) → halted_at n q ≡ halted_at m q
  pub others : (u : Waiter) → u ≢ top_of m p → frame_at n u ≡ frame_at m u
  pub left : frames_left n ≡ frames_left m
  pub same : halting_turns n ≡ halting_turns m

-- what a step does: nothing, or it lowers what is left, or brings the end of a turn nearer, or is that of such a head
abbrev pub HaltingLower : Machine → Machine → ℕ → Type 0
HaltingLower m n p = (n ≡ m) ⊎ (frames_left n < frames_left m)
    ⊎ ((frames_left n ≡ frames_left m) × (halting_turns n < halting_turns m)) ⊎ Circles m n p

-- a frame that goes to another row leaves as many frames
moved_depth : (n : Machine) (p : ℕ) (f : Frame) (lead : Lead) → goes lead ≡ true → (q : ℕ) → depth_at (moved n p f lead) q ≡ depth_at n q
moved_depth n p f (Goes c cs) e q = (same_set_top n p (gone f c cs)).depth q
moved_depth n p f (Enters me c) e q = cc e
moved_depth n p f Granted e q = cc e
moved_depth n p f Freed e q = cc e
moved_depth n p f Missed e q = cc e
moved_depth n p f Done e q = cc e
moved_depth n p f (TakesWait c) e q = cc e
moved_depth n p f Leaves e q = cc e
moved_depth n p f (Yields c cs) e q = cc e

-- and such a frame has a place
somewhere : (f : Frame) (lead : Lead) → goes lead ≡ true → (led f lead).place ≡ None → ⊥
somewhere f (Goes c cs) h e = cc e
somewhere f (Enters me c) h e = cc h
somewhere f Granted h e = cc h
somewhere f Freed h e = cc h
somewhere f Missed h e = cc h
somewhere f Done h e = cc h
somewhere f (TakesWait c) h e = cc h
somewhere f Leaves h e = cc h
somewhere f (Yields c cs) h e = cc h

-- debts are of frames, worlds and kicks
module _ (m n : Machine) (setup : n.setup ≡ m.setup) (cpus : length n.cpus ≡ length m.cpus) (keeps : KeepsTurns (world m) (world n)) where
  over : (F : ℕ → ℕ) → sum_below (length n.cpus) F ≡ sum_below (length m.cpus) F
  over F = ap (λ (k : ℕ). sum_below k F) cpus

  kicks_same : (q : ℕ) → kick_turns n.setup.spins (kicked_at n q) ≡ kick_turns m.setup.spins (kicked_at m q)
  kicks_same q =
      ap (λ (s : Setup). kick_turns s.spins (kicked_at n q)) setup ∙ ap (λ (b : Bool). kick_turns m.setup.spins b) (keeps.kicked q)

  -- one frame is nearer, and none is farther
  pub turns_fall : (w : Waiter) → w.cpu < length m.cpus → w.ctx < 6
      → halting_turn_of (world n) w (frame_at n w) < halting_turn_of (world m) w (frame_at m w)
      → ((u : Waiter) → halting_turn_of (world n) u (frame_at n u) ≤ halting_turn_of (world m) u (frame_at m u))
      → halting_turns n < halting_turns m
  turns_fall w within low less most =
      let all = sum_fall (length m.cpus) (λ p. halting_debt m p) (λ p. halting_debt n p) w.cpu within
      (let k = kicks_same w.cpu in let t = one in omega (arith, k, t))
      (λ p. let k = kicks_same p in let t = each p in omega (arith, k, t)) in
      let o = over (λ p. halting_debt n p) in
      omega (arith, all, o)
    where
      each : (p : ℕ) → halting_cpu_turns n p ≤ halting_cpu_turns m p
      each p = sum_most_of 6 (λ c. halting_turn_of (world m) (record { cpu = p; ctx = c }) (frame_at m (record { cpu = p; ctx = c })))
          (λ c. halting_turn_of (world n) (record { cpu = p; ctx = c }) (frame_at n (record { cpu = p; ctx = c })))
          (λ c. most (record { cpu = p; ctx = c }))

      one : halting_cpu_turns n w.cpu < halting_cpu_turns m w.cpu
      one = sum_fall 6 (λ c. halting_turn_of (world m) (record { cpu = w.cpu; ctx = c }) (frame_at m (record { cpu = w.cpu; ctx = c })))
          (λ c. halting_turn_of (world n) (record { cpu = w.cpu; ctx = c }) (frame_at n (record { cpu = w.cpu; ctx = c })))
          w.ctx low less (λ c. most (record { cpu = w.cpu; ctx = c }))

  pub turns_same : ((u : Waiter) → halting_turn_of (world n) u (frame_at n u) ≡ halting_turn_of (world m) u (frame_at m u))
      → halting_turns n ≡ halting_turns m
  turns_same same =
      over (λ p. halting_debt n p)
      ∙ sum_same (length m.cpus) (λ p. halting_debt m p) (λ p. halting_debt n p)
      (λ p lt. let k = kicks_same p in
      let t = sum_same 6 (λ c. halting_turn_of (world m) (record { cpu = p; ctx = c }) (frame_at m (record { cpu = p; ctx = c })))
      (λ c. halting_turn_of (world n) (record { cpu = p; ctx = c }) (frame_at n (record { cpu = p; ctx = c })))
      (λ c low. same (record { cpu = p; ctx = c })) in
      omega (arith, k, t))

module _ (m : Machine) (hs : LockName → LockHistory) (p : ℕ) (shows : ShowsAll m hs) (on : halts m.setup.mode ≡ true)
    (range : p < length m.cpus) (unpreempted : preempted_at m p ≡ false) (up : halted_at m p ≡ false) where
  abbrev w : Waiter
  w = top_of m p

  abbrev f : Frame
  f = top_frame m p

  live : frame_at m w ≡ Some f
  live = top_live m p hs shows range

  pub step_row : (next m (act.Step p)).0 ≡ (row m p).0
  step_row =
      ap (λ (b : Bool). (if b then idle m else (if halted_at m p then step_halted m p else row m p)).0) unpreempted
      ∙ ap (λ (b : Bool). (if b then step_halted m p else row m p).0) up

  setup_is : (row m p).0.setup ≡ m.setup
  setup_is = ap (λ (k : Machine). k.setup) (sym step_row) ∙ setup_kept m (act.Step p)

  cpus_is : length (row m p).0.cpus ≡ length m.cpus
  cpus_is =
      let after = (act_kept m hs shows (act.Step p) range).shows.whole in
      ap (λ (k : Machine). length k.cpus) (sym step_row) ∙ after.cpus
      ∙ ap (λ (s : Setup). length s.topology.sockets.items) (setup_kept m (act.Step p)) ∙ sym shows.whole.cpus

  low : w.ctx < 6
  low = let top = shows.whole.tops p range in let s = top.some in let k = top.few in omega (arith, s, k)

  module _ (c : Pc) (place : f.place ≡ Some c) where
    abbrev d : Frame
    d = led f (course_in (world m) w f c (target c f)).leads

    abbrev x : World
    x = stored_in (world m) w f c (target c f)

    works : Works m.setup.mode (program_of m p f) f c
    works = (shows.fits w f live).working c place

    within : f.«at» < length (program_of m p f)
    within = slice_get_within (program_of m p f) f.«at» works.op works.is

    row_same : (row m p).0 ≡ (row_on m p f c (target c f)).0
    row_same = ap (λ (o : Option Pc). (row_at m p f o).0) place

    -- a frame that is as it was stands at a poll that changes nothing
    pub as_it_was : stands_halting (Some c) ≡ false → d ≡ f → (row m p).0 ≡ m
    as_it_was h e =
        let still : waits.StandsStill (world m) w f c =
        (row_is_done (world m) w f c (target c f)).frame w
        ∙ if-true (same_waiter w w) (Some d) (frame_at m w) (same_waiter-self w) ∙ ap Some e in
        let l = still_looks_at (world m) (spin_part (world m).kind hs) w f c shows.world.spins on live (shows.world.fits w f live).after place h still in
        elim (polled m hs shows on p range c place l) [
          | inl same ↦ row_same ∙ same
          | inr off ↦ absurd (off still)
        ]

    module _ (n : Machine) (put : Put m n x) (moves : Moves n w f d (row m p).0) where
      here : frame_at (row m p).0 w ≡ moves.now
      here = moves.follows.frame w
          ∙ ap (λ (t : Bool). if t then moves.now else frame_at n w) (same_waiter-self w)

      there : (u : Waiter) → u ≢ w → frame_at (row m p).0 u ≡ frame_at m u
      there u ne = moves.follows.frame u
          ∙ ap (λ (t : Bool). if t then moves.now else frame_at n u) (same_waiter-else u w ne) ∙ put.frames u

      -- what a frame weighs goes by the setup alone
      same_weight : (q : ℕ) (o : Option Frame) → halting_weight (row m p).0 q o ≡ halting_weight m q o
      same_weight q None = refl
      same_weight q (Some g) =
          ap (λ (s : Setup). (length (program_at s q g.program) - g.«at») * 28 + halting_left g) setup_is

      weight_there : (u : Waiter) → u ≢ w
          → halting_weight (row m p).0 u.cpu (frame_at (row m p).0 u) ≡ halting_weight m u.cpu (frame_at m u)
      weight_there u ne = same_weight u.cpu (frame_at (row m p).0 u) ∙ ap (halting_weight m u.cpu) (there u ne)

      weight_here : halting_weight (row m p).0 p (frame_at (row m p).0 w) ≡ halting_weight m p moves.now
      weight_here = same_weight p (frame_at (row m p).0 w) ∙ ap (halting_weight m p) here

      weight_before : halting_weight m p (frame_at m w) ≡ halting_weight m p (Some f)
      weight_before = ap (halting_weight m p) live

      -- the sums of the machine after the row are over as many processors
      over_all : (F : ℕ → ℕ) → sum_below (length (row m p).0.cpus) F ≡ sum_below (length m.cpus) F
      over_all F = ap (λ (k : ℕ). sum_below k F) cpus_is

      lowers : halting_weight m p moves.now < halting_weight m p (Some f) → frames_left (row m p).0 < frames_left m
      lowers less =
          let all = total_less (length m.cpus) (λ u. halting_weight m u.cpu (frame_at m u))
          (λ u. halting_weight (row m p).0 u.cpu (frame_at (row m p).0 u)) w range low
          (let a = weight_here in let b = weight_before in omega (arith, a, b, less)) weight_there in
          let z = over_all (λ q. halting_cpu_weight (row m p).0 q) in
          omega (arith, all, z)

      settles : (h : Frame) → h.program ≡ f.program → f.«at» < h.«at» → Settles n.setup.mode h moves.now
          → halting_weight m p moves.now < halting_weight m p (Some f)
      settles h same more s = ends s
        where
          -- what a later position leaves
          later : (length (program_of m p h) - h.«at») * 28 + 28 ≤ (length (program_of m p f) - f.«at») * 28
          later =
              subst (λ (i : ℕ). (i - h.«at») * 28 + 28 ≤ (length (program_of m p f) - f.«at») * 28)
              (sym (ap (λ (i : ℕ). length (program_at m.setup p i)) same))
              (ops_left 28 (length (program_of m p f)) f.«at» h.«at» within more)

          ends : Settles n.setup.mode h moves.now → halting_weight m p moves.now < halting_weight m p (Some f)
          ends (inl e) =
              let z : halting_weight m p moves.now ≡ 0 = ap (halting_weight m p) e in
              let l = later in
              omega (arith, z, l)
          ends (inr (inl e)) =
              let z : halting_weight m p moves.now ≡ (length (program_of m p h) - h.«at») * 28 + 0 = ap (halting_weight m p) e.0 in
              let l = later in
              omega (arith, z, l)
          ends (inr (inr v)) =
              let z : halting_weight m p moves.now ≡ (length (program_of m p h) - h.«at») * 28 + halting_left (started n.setup.mode h v.0) =
              ap (halting_weight m p) v.1 in
              let mode : n.setup.mode ≡ m.setup.mode = ap (λ (s : Setup). s.mode) put.same.keeps.setup in
              let short : halting_left (started n.setup.mode h v.0) < 28 = halting_begin_is_short n.setup.mode h v.0 (ap halts mode ∙ on) in
              let l = later in
              omega (arith, z, short, l)

      -- where the frame goes on in its operation
      module _ (t : (moves.now ≡ Some d) × (d.program ≡ f.program) × (d.ctx ≡ f.ctx) × (d.place ≢ None)) where
        now_is : halting_weight m p moves.now ≡ (length (program_of m p f) - f.«at») * 28 + halting_left d
        now_is =
            let s = led_at f (course_in (world m) w f c (target c f)).leads in
            ap (halting_weight m p) t.0
            ∙ ap (λ (i : ℕ). (length (program_at m.setup p i) - d.«at») * 28 + halting_left d) s.1
            ∙ ap (λ (i : ℕ). (length (program_of m p f) - i) * 28 + halting_left d) s.0

        -- as many rows are left
        weights : halting_left d ≡ halting_left f
            → (u : Waiter) → halting_weight (row m p).0 u.cpu (frame_at (row m p).0 u) ≡ halting_weight m u.cpu (frame_at m u)
        weights left u = elim (waiter_cases u w) [
          | inr ne ↦ weight_there u ne
          | inl e ↦
              subst (λ (v : Waiter). halting_weight (row m p).0 v.cpu (frame_at (row m p).0 v) ≡ halting_weight m v.cpu (frame_at m v)) (sym e)
              (weight_here ∙ now_is
              ∙ ap (λ (i : ℕ). (length (program_of m p f) - f.«at») * 28 + i) left ∙ sym weight_before)
        ]

        weights_same : halting_left d ≡ halting_left f → frames_left (row m p).0 ≡ frames_left m
        weights_same left =
            over_all (λ q. halting_cpu_weight (row m p).0 q)
            ∙ total_same (length m.cpus) (λ u. halting_weight m u.cpu (frame_at m u))
            (λ u. halting_weight (row m p).0 u.cpu (frame_at (row m p).0 u)) (weights left)

        -- the world after a row that stores what no other turn depends on
        flags : KeepsTurns (world m) x → goes (course_in (world m) w f c (target c f)).leads ≡ true → (k : NodeName)
            → (node_at (row m p).0 k).flag ≡ (x.node k).flag
        flags keeps away k =
            let r = row_made m p hs shows range f c live place in
            let top : HasTop r.stored p = has_top_same m r.stored p r.put.same (shows.whole.tops p range) in
            ap (λ (y : Machine). (node_at y k).flag) r.is
            ∙ ap (λ (y : Rattle.lk_rows.specs.declared.parts.Node.Node). y.flag) (moved_goes r.stored p f top r.lead (ap goes r.leads ∙ away) k)
            ∙ r.put.kept (λ k. keeps.flag k) k ∙ sym (keeps.flag k)

        halted_is : (q : ℕ) → halted_at (row m p).0 q ≡ x.halted q
        halted_is q = moves.follows.halted q ∙ put.halted q

        on_from : KeepsTurns (world m) x → goes (course_in (world m) w f c (target c f)).leads ≡ true → KeepsTurns x (world (row m p).0)
        on_from keeps away = record {
          turns = ap (λ (s : Setup). s.spins) setup_is ∙ sym keeps.turns;
          byte = λ l. ap (λ (y : Fields). y.locked) (moves.follows.word l ∙ put.words l);
          tail = λ l. ap (λ (y : Fields). y.tail) (moves.follows.word l ∙ put.words l);
          rw = λ i. moves.follows.rw i ∙ put.rw i;
          flag = flags keeps away;
          halted = λ q h. halted_is q ∙ h;
          kicked = λ q. moves.follows.kicked q ∙ put.kicked q;
        }

        after : KeepsTurns (world m) x → goes (course_in (world m) w f c (target c f)).leads ≡ true → KeepsTurns (world m) (world (row m p).0)
        after keeps away = keeps_then (world m) x (world (row m p).0) keeps (on_from keeps away)

        own : (keeps : KeepsTurns (world m) x) → goes (course_in (world m) w f c (target c f)).leads ≡ true
            → halting_turn_of (world (row m p).0) w (frame_at (row m p).0 w) ≡ halting_turn_of x w (Some d)
        own keeps away =
            turn_kept x (world (row m p).0) (on_from keeps away) w halted_is (frame_at (row m p).0 w)
            ∙ ap (halting_turn_of x w) (here ∙ t.0)

        in_turn : HaltingTurnGoesOn (world m) w f c → halting_turns (row m p).0 < halting_turns m
        in_turn z =
            turns_fall m (row m p).0 setup_is cpus_is (after z.keeps z.away) w range low less most
          where
            less : halting_turn_of (world (row m p).0) w (frame_at (row m p).0 w) < halting_turn_of (world m) w (frame_at m w)
            less =
                let a = own z.keeps z.away in
                let b = ap (halting_turn_of (world m) w) live in
                let lt = z.nearer in
                omega (arith, a, b, lt)

            most : (u : Waiter) → halting_turn_of (world (row m p).0) u (frame_at (row m p).0 u) ≤ halting_turn_of (world m) u (frame_at m u)
            most u = elim (waiter_cases u w) [
              | inl e ↦
                  subst (λ (v : Waiter). halting_turn_of (world (row m p).0) v (frame_at (row m p).0 v) ≤ halting_turn_of (world m) v (frame_at m v))
                  (sym e) (let lt = less in omega (arith, lt))
              | inr ne ↦
                  let a = turn_most (world m) (world (row m p).0) (after z.keeps z.away) u (frame_at m u) in
                  let b = ap (halting_turn_of (world (row m p).0) u) (there u ne) in
                  omega (arith, a, b)
            ]

        linked : HaltingTurnStays (world m) w f c → (k : NodeName) → (node_at (row m p).0 k).next ≡ (node_at m k).next
        linked z k =
            let r = row_made m p hs shows range f c live place in
            let top : HasTop r.stored p = has_top_same m r.stored p r.put.same (shows.whole.tops p range) in
            ap (λ (y : Machine). (node_at y k).next) r.is
            ∙ ap (λ (y : Rattle.lk_rows.specs.declared.parts.Node.Node). y.next) (moved_goes r.stored p f top r.lead (ap goes r.leads ∙ z.away) k)
            ∙ r.put.links z.links k

        deep : HaltingTurnStays (world m) w f c → (q : ℕ) → depth_at (row m p).0 q ≡ depth_at m q
        deep z q =
            let r = row_made m p hs shows range f c live place in
            ap (λ (y : Machine). depth_at y q) r.is
            ∙ moved_depth r.stored p f r.lead (ap goes r.leads ∙ z.away) q ∙ r.put.same.depth q

        circles : HaltingTurnStays (world m) w f c → Circles m (row m p).0 p
        circles z = record {
          around = record { place = c; here = place; robbed = z.robbed };
          here = here ∙ t.0;
          pending = λ l ne. ap (λ (y : Fields). y.pending) (moves.follows.word l ∙ put.words l) ∙ z.pending l ne;
          links = linked z;
          depth = deep z;
          keeps = after z.keeps z.away;
          halted = λ q. halted_is q ∙ z.halted q;
          others = there;
          left = weights_same z.left;
          same = turns_same m (row m p).0 setup_is cpus_is (after z.keeps z.away) each;
        }
          where
            each : (u : Waiter) → halting_turn_of (world (row m p).0) u (frame_at (row m p).0 u) ≡ halting_turn_of (world m) u (frame_at m u)
            each u = elim (waiter_cases u w) [
              | inl e ↦
                  subst (λ (v : Waiter). halting_turn_of (world (row m p).0) v (frame_at (row m p).0 v) ≡ halting_turn_of (world m) v (frame_at m v))
                  (sym e) (own z.keeps z.away ∙ z.same ∙ sym (ap (halting_turn_of (world m) w) live))
              | inr ne ↦
                  ap (halting_turn_of (world (row m p).0) u) (there u ne)
                  ∙ turn_kept (world m) (world (row m p).0) (after z.keeps z.away) u (λ q. halted_is q ∙ z.halted q) (frame_at m u)
            ]

      by_moves : Turned n.setup.mode f d moves.now → HaltingLower m (row m p).0 p
      by_moves (inr t) = inr (inl (lowers (settles t.1.0 t.1.1 t.1.3 t.1.4)))
      by_moves (inl t) =
          elim (halting_row_descends c (world m) (spin_part (world m).kind hs) w f shows.world.spins on live place
          (shows.world.fits w f live).after up) [
            | inl e ↦ inl (as_it_was e.0 e.1)
            | inr r ↦ elim r [
              | inl lt ↦ inr (inl (lowers (let e = now_is t in omega (arith, e, lt))))
              | inr r ↦ elim r [
                | inl z ↦ inr (inr (inl (weights_same t z.left, in_turn t z)))
                | inr z ↦ inr (inr (inr (circles t z)))
              ]
            ]
          ]

    lowers_at : HaltingLower m (row m p).0 p
    lowers_at =
        let r = row_moves m p hs shows range f c live place (shows.world.fits w f live).after in
        by_moves r.0 r.1 r.2 r.2.turned

    -- no handler is used up
    handlers_kept : (q : ℕ) → handlers_at (row m p).0 q ≡ handlers_at m q
    handlers_kept q =
        let r = row_moves m p hs shows range f c live place (shows.world.fits w f live).after in
        r.2.follows.handlers q ∙ r.1.same.handlers q

    -- and no frame has more turns of a spin left than the spin bound says
    spins_kept : SpinsAreFew m → SpinsAreFew (row m p).0
    spins_kept few u g e =
        let r = row_moves m p hs shows range f c live place (shows.world.fits w f live).after in
        by r.0 r.1 r.2
      where
        by : (n : Machine) → Put m n x → Moves n w f d (row m p).0 → g.left ≤ (row m p).0.setup.spins
        by n put moves = subst (λ (s : Setup). g.left ≤ s.spins) (sym setup_is) (elim (waiter_cases u w) [
          | inr ne ↦ few u g (sym (moves.follows.frame u
              ∙ ap (λ (t : Bool). if t then moves.now else frame_at n u) (same_waiter-else u w ne) ∙ put.frames u) ∙ e)
          | inl i ↦ now (sym (moves.follows.frame w
              ∙ ap (λ (t : Bool). if t then moves.now else frame_at n w) (same_waiter-self w)) ∙ ap (frame_at (row m p).0) (sym i) ∙ e) moves.turned
        ])
          where
            was : f.left ≤ m.setup.spins
            was = few w f live

            settled : (h : Frame) → h.left ≡ f.left → moves.now ≡ Some g → Settles n.setup.mode h moves.now → g.left ≤ m.setup.spins
            settled h same q (inl z) = absurd (let y : None ≡ Some g = sym z ∙ q in cc y)
            settled h same q (inr (inl z)) =
                let y : record h { place = None } ≡ g = (let v : Some (record h { place = None }) ≡ Some g = sym z.0 ∙ q in cc v) in
                let l = ap (λ (i : Frame). i.left) y in
                let a = was in
                omega (arith, l, same, a)
            settled h same q (inr (inr z)) =
                let y : started n.setup.mode h z.0 ≡ g = (let v : Some (started n.setup.mode h z.0) ≡ Some g = sym z.1 ∙ q in cc v) in
                let l = ap (λ (i : Frame). i.left) y in
                let a = was in
                omega (arith, l, same, a)

            now : moves.now ≡ Some g → Turned n.setup.mode f d moves.now → g.left ≤ m.setup.spins
            now q (inl t) =
                let y : d ≡ g = (let v : Some d ≡ Some g = sym t.0 ∙ q in cc v) in
                subst (λ (i : Frame). i.left ≤ m.setup.spins) y
                (row_keeps_spins c (world m) (spin_part (world m).kind hs) w f shows.world.spins on live place was)
            now q (inr t) = settled t.1.0 t.1.5 q t.1.4

    -- a row of a head that goes around
    circle_made : HaltingTurnStays (world m) w f c → Circles m (row m p).0 p
    circle_made z =
        let r = row_moves m p hs shows range f c live place (shows.world.fits w f live).after in
        elim r.2.turned [
          | inl t ↦ circles r.0 r.1 r.2 t z
          | inr t ↦ absurd (somewhere f (course_in (world m) w f c (target c f)).leads z.away t.0)
        ]

  pub circle_at : (c : Pc) → f.place ≡ Some c → HaltingTurnStays (world m) w f c → Circles m (next m (act.Step p)).0 p
  circle_at c place z = subst (λ (k : Machine). Circles m k p) (sym step_row) (circle_made c place z)

  pub halting_lowers : HaltingLower m (next m (act.Step p)).0 p
  halting_lowers = subst (λ (k : Machine). HaltingLower m k p) (sym step_row) (by f.place refl)
    where
      by : (o : Option Pc) → f.place ≡ o → HaltingLower m (row m p).0 p
      by (Some c) e = lowers_at c e
      by None e = inl (ap (λ (o : Option Pc). (row_at m p f o).0) e)

  pub halting_handlers : (q : ℕ) → handlers_at (next m (act.Step p)).0 q ≡ handlers_at m q
  halting_handlers q = ap (λ (k : Machine). handlers_at k q) step_row ∙ by f.place refl
    where
      by : (o : Option Pc) → f.place ≡ o → handlers_at (row m p).0 q ≡ handlers_at m q
      by None e = ap (λ (o : Option Pc). handlers_at (row_at m p f o).0 q) e
      by (Some c) e = handlers_kept c e q

  pub row_spins : SpinsAreFew m → SpinsAreFew (row m p).0
  row_spins few = by f.place refl
    where
      by : (o : Option Pc) → f.place ≡ o → SpinsAreFew (row m p).0
      by None e = subst SpinsAreFew (sym (ap (λ (o : Option Pc). (row_at m p f o).0) e)) few
      by (Some c) e = spins_kept c e few
