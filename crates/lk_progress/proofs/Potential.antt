-- A step that leads a frame on lowers the potential, or makes a row of a turn.
use Rattle.std.proofs.Common.{◌≡◌, ◌≢◌, ◌⊎◌, inl, inr, ℕ, ◌<◌, ◌≤◌, ◌+◌, ◌-◌, ◌*◌, Option, Some}
use Rattle.std.proofs.Common.{None, Bool, true, false, refl, sym, ap, ◌∙◌, subst, arith, length}
use Rattle.std.proofs.Common.{if◌then◌else◌}
use Rattle.lk_progress.proofs.Names.{cases_lt, slice_get_within, NodeName, LockHistory, LockName}
use Rattle.lk_progress.proofs.Names.{Mode, Waiter, idle, next, step_halted, HasTop, Machine}
use Rattle.lk_progress.proofs.Names.{halted_at, handlers_at, rw_at, top_frame, top_of, word_at}
use Rattle.lk_progress.proofs.Names.{program_of, started, Done, Enters, Freed, Goes, Granted, Lead}
use Rattle.lk_progress.proofs.Names.{Leaves, Missed, TakesWait, Yields, gone, moved, row, row_at}
use Rattle.lk_progress.proofs.Names.{target, Frame, Pc, Setup, waiter_cases, nobody_halts, not-true}
use Rattle.lk_progress.proofs.Names.{same_waiter-else, same_waiter-self, halts, moves_aside}
use Rattle.lk_progress.proofs.Names.{may_halt, course_in, stored_in, ShowsAll, Works, world}
use Rattle.lk_progress.proofs.Names.{spin_part, led, World, above_top, frame_within, act_kept}
use Rattle.lk_progress.proofs.Names.{same_changed_all, top_live, has_top_same, world-set_top}
use Rattle.lk_progress.proofs.Names.{setup_kept, goes, is_turn, left_in, turn_of, cpu_turns}
use Rattle.lk_progress.proofs.Names.{sum_below, turns, TurnsOnTheSpot}
use Rattle.lk_rows.specs.Machine.{frame_at, preempted_at, node_at, depth_at}
use Rattle.lk_progress.proofs.Descends.{row_descends, begin_is_short}
use Rattle.lk_progress.proofs.{Moves.{Moves, Settles, Turned}, Rows.{Put, row_moves, row_made}}
use Rattle.lk_progress.proofs.{Still.stays_same, Sums.{total_same, total_less, times_less}}
use Rattle.lk_progress.proofs.Turned.{turn_same}
use Rattle.lk_progress.specs.Measure.{most_rows, TurnGoesOn, TurnStays, AreContexts}
use Rattle.lk_progress.specs.Potential.{weight_of, cpu_weight, potential}
use Rattle.lk_names.specs.declared.events.Act.TheVariants as act

-- the step of a processor, which leads from m to n, is a row of a turn
pub record Turning (m n : Machine) (p : ℕ) : Type 0 where
  pub place : Pc
  pub here : (top_frame m p).place ≡ Some place
  pub turn : is_turn place ≡ true
  pub left : potential n ≡ potential m
  pub fewer : turns n < turns m

-- it is that of a head which turns on the spot, and only its frame changes
pub record Staying (m n : Machine) (p : ℕ) : Type 0 where
  pub spot : TurnsOnTheSpot m p
  pub left : potential n ≡ potential m
  pub same : turns n ≡ turns m
  pub words : (l : LockName) → word_at n l ≡ word_at m l
  pub rw : (i : ℕ) → rw_at n i ≡ rw_at m i
  pub nodes : (k : NodeName) → node_at n k ≡ node_at m k
  pub others : (u : Waiter) → u ≢ top_of m p → frame_at n u ≡ frame_at m u

-- what a step does: nothing, or it lowers the potential, or is such a row
abbrev pub Lower : Machine → Machine → ℕ → Type 0
Lower m n p = (n ≡ m) ⊎ (potential n < potential m) ⊎ Turning m n p ⊎ Staying m n p

-- a lead leaves the position and the program of its frame
pub led_at : (f : Frame) (lead : Lead) → ((led f lead).«at» ≡ f.«at») × ((led f lead).program ≡ f.program)
led_at f (Goes c cs) = let s = same_changed_all f cs in (s.position, s.program)
led_at f (Enters me c) = (refl, refl)
led_at f Granted = (refl, refl)
led_at f Freed = (refl, refl)
led_at f Missed = (refl, refl)
led_at f Done = (refl, refl)
led_at f (TakesWait c) = (refl, refl)
led_at f Leaves = (refl, refl)
led_at f (Yields c cs) = let s = same_changed_all f cs in (s.position, s.program)

pub ops_left : (k n a b : ℕ) → a < n → a < b → (n - b) * k + k ≤ (n - a) * k
ops_left k n a b lt less = times_less k (n - b) (n - a) (omega (arith, lt, less))

-- a frame that goes to another row leaves all nodes
pub moved_goes : (n : Machine) (p : ℕ) (f : Frame) → HasTop n p → (lead : Lead) → goes lead ≡ true → (k : NodeName)
    → node_at (moved n p f lead) k ≡ node_at n k
moved_goes n p f top (Goes c cs) e k = ap (λ (y : World). y.node k) (world-set_top n p (gone f c cs) top)
moved_goes n p f top (Enters me c) e k = cc e
moved_goes n p f top Granted e k = cc e
moved_goes n p f top Freed e k = cc e
moved_goes n p f top Missed e k = cc e
moved_goes n p f top Done e k = cc e
moved_goes n p f top (TakesWait c) e k = cc e
moved_goes n p f top Leaves e k = cc e
moved_goes n p f top (Yields c cs) e k = cc e

-- each frame is one of a processor that is there, and of its six
pub contexts_of : (m : Machine) (hs : LockName → LockHistory) → ShowsAll m hs → AreContexts (world m)
contexts_of m hs shows u g e =
    let lt = frame_within m u g e in
    let cpus = shows.whole.cpus in
    let top = shows.whole.tops u.cpu lt in
    let few = top.few in
    let some = top.some in (
      omega (arith, lt, cpus),
      elim (cases_lt (depth_at m u.cpu - 1) u.ctx) [
        | inl over ↦ absurd (let z : None ≡ Some g = sym (above_top m u.cpu u.ctx over) ∙ e in cc z)
        | inr le ↦ omega (arith, le, few, some)
      ],
    )

module _ (m : Machine) (hs : LockName → LockHistory) (p : ℕ) (shows : ShowsAll m hs) (awake : halts m.setup.mode ≡ false)
    (range : p < length m.cpus) (unpreempted : preempted_at m p ≡ false) where
  abbrev w : Waiter
  w = top_of m p

  abbrev f : Frame
  f = top_frame m p

  live : frame_at m w ≡ Some f
  live = top_live m p hs shows range

  unhalted : halted_at m p ≡ false
  unhalted = nobody_halts (world m) (spin_part (world m).kind hs) shows.world.spins awake p

  step_is : (next m (act.Step p)).0 ≡ (row m p).0
  step_is =
      ap (λ (b : Bool). (if b then idle m else (if halted_at m p then step_halted m p else row m p)).0) unpreempted
      ∙ ap (λ (b : Bool). (if b then step_halted m p else row m p).0) unhalted

  setup_is : (row m p).0.setup ≡ m.setup
  setup_is = ap (λ (k : Machine). k.setup) (sym step_is) ∙ setup_kept m (act.Step p)

  cpus_is : length (row m p).0.cpus ≡ length m.cpus
  cpus_is =
      let after = (act_kept m hs shows (act.Step p) range).shows.whole in
      ap (λ (k : Machine). length k.cpus) (sym step_is) ∙ after.cpus
      ∙ ap (λ (s : Setup). length s.topology.sockets.items) (setup_kept m (act.Step p)) ∙ sym shows.whole.cpus

  module _ (c : Pc) (place : f.place ≡ Some c) where
    a : may_halt c ≡ false
    a = not-true (may_halt c)
        (λ e. let z = (shows.world.spins.registers w f live).choice.halting c place e in cc (z, awake))

    abbrev d : Frame
    d = led f (course_in (world m) w f c (target c f)).leads

    works : Works m.setup.mode (program_of m p f) f c
    works = (shows.fits w f live).working c place

    within : f.«at» < length (program_of m p f)
    within = slice_get_within (program_of m p f) f.«at» works.op works.is

    by_moves : (n : Machine) → Put m n (stored_in (world m) w f c (target c f)) → Moves n w f d (row m p).0
        → Lower m (row m p).0 p
    by_moves n put moves = by moves.turned
      where
        here : frame_at (row m p).0 w ≡ moves.now
        here = moves.follows.frame w
            ∙ ap (λ (t : Bool). if t then moves.now else frame_at n w) (same_waiter-self w)

        there : (u : Waiter) → u ≢ w → frame_at (row m p).0 u ≡ frame_at m u
        there u ne = moves.follows.frame u
            ∙ ap (λ (t : Bool). if t then moves.now else frame_at n u) (same_waiter-else u w ne) ∙ put.frames u

        row_same : (row m p).0 ≡ (Rattle.lk_rows.specs.TopRow.row_on m p f c (target c f)).0
        row_same = ap (λ (o : Option Pc). (row_at m p f o).0) place

        -- what a frame weighs goes by the setup alone
        same_weight : (q : ℕ) (o : Option Frame) → weight_of (row m p).0 q o ≡ weight_of m q o
        same_weight q None = refl
        same_weight q (Some g) =
            ap (λ (s : Setup). (length (Rattle.lk_rows.specs.Programs.program_at s q g.program) - g.«at») * most_rows s.mode + left_in s.mode g) setup_is

        low : w.ctx < 6
        low = let top = shows.whole.tops p range in let s = top.some in let k = top.few in omega (arith, s, k)

        weight_there : (u : Waiter) → u ≢ w
            → weight_of (row m p).0 u.cpu (frame_at (row m p).0 u) ≡ weight_of m u.cpu (frame_at m u)
        weight_there u ne = same_weight u.cpu (frame_at (row m p).0 u) ∙ ap (weight_of m u.cpu) (there u ne)

        weight_here : weight_of (row m p).0 p (frame_at (row m p).0 w) ≡ weight_of m p moves.now
        weight_here = same_weight p (frame_at (row m p).0 w) ∙ ap (weight_of m p) here

        weight_before : weight_of m p (frame_at m w) ≡ weight_of m p (Some f)
        weight_before = ap (weight_of m p) live

        -- the sums of the machine after the row are over as many processors
        over : (F : ℕ → ℕ) → sum_below (length (row m p).0.cpus) F ≡ sum_below (length m.cpus) F
        over F = ap (λ (k : ℕ). sum_below k F) cpus_is

        lowers : weight_of m p moves.now < weight_of m p (Some f) → potential (row m p).0 < potential m
        lowers less =
            let all = total_less (length m.cpus) (λ u. weight_of m u.cpu (frame_at m u))
            (λ u. weight_of (row m p).0 u.cpu (frame_at (row m p).0 u)) w range low
            (let x = weight_here in let y = weight_before in omega (arith, x, y, less)) weight_there in
            let z = over (λ q. cpu_weight (row m p).0 q) in
            omega (arith, all, z)

        settles : (h : Frame) → h.program ≡ f.program → f.«at» < h.«at» → Settles n.setup.mode h moves.now
            → weight_of m p moves.now < weight_of m p (Some f)
        settles h same more s = ends s
          where
            -- what a later position leaves
            later : (length (program_of m p h) - h.«at») * most_rows m.setup.mode + most_rows m.setup.mode
                ≤ (length (program_of m p f) - f.«at») * most_rows m.setup.mode
            later =
                subst (λ (i : ℕ). (i - h.«at») * most_rows m.setup.mode + most_rows m.setup.mode
                ≤ (length (program_of m p f) - f.«at») * most_rows m.setup.mode)
                (sym (ap (λ (i : ℕ). length (Rattle.lk_rows.specs.Programs.program_at m.setup p i)) same))
                (ops_left (most_rows m.setup.mode) (length (program_of m p f)) f.«at» h.«at» within more)

            some : 0 < most_rows m.setup.mode
            some = by (moves_aside m.setup.mode)
              where
                by : (b : Bool) → 0 < (if b then 31 else 23)
                by true = omega arith
                by false = omega arith

            ends : Settles n.setup.mode h moves.now → weight_of m p moves.now < weight_of m p (Some f)
            ends (inl e) =
                let z : weight_of m p moves.now ≡ 0 = ap (weight_of m p) e in
                let l = later in
                let s = some in
                omega (arith, z, l, s)
            ends (inr (inl e)) =
                let z : weight_of m p moves.now ≡ (length (program_of m p h) - h.«at») * most_rows m.setup.mode
                + left_in m.setup.mode (record h { place = None }) = ap (weight_of m p) e.0 in
                let none : left_in m.setup.mode (record h { place = None }) ≡ 0 = nothing (moves_aside m.setup.mode) in
                let l = later in
                let s = some in
                omega (arith, z, l, s, none)
              where
                nothing : (b : Bool) → ◌≡◌ {A = ℕ} (0 + (if b then 0 else 0)) 0
                nothing true = refl
                nothing false = refl
            ends (inr (inr v)) =
                let z : weight_of m p moves.now ≡ (length (program_of m p h) - h.«at») * most_rows m.setup.mode
                + left_in m.setup.mode (started n.setup.mode h v.0) = ap (weight_of m p) v.1 in
                let mode : n.setup.mode ≡ m.setup.mode = ap (λ (s : Setup). s.mode) put.same.keeps.setup in
                let short : left_in m.setup.mode (started n.setup.mode h v.0) < most_rows m.setup.mode =
                subst (λ (x : Mode). left_in m.setup.mode (started x h v.0) < most_rows m.setup.mode) (sym mode) (begin_is_short (world m) h v.0 awake) in
                let l = later in
                omega (arith, z, short, l)

        by : Turned n.setup.mode f d moves.now → Lower m (row m p).0 p
        by (inl t) = elim (row_descends c (world m) (spin_part (world m).kind hs) w f shows.world.spins (contexts_of m hs shows) awake live place (shows.world.fits w f live).after) [
          | inl e ↦ inl (row_same ∙ stays_same m p f (shows.world.fits w f live).after c range live place a e.1 e.0)
          | inr r ↦ elim r [
            | inl lt ↦ inr (inl (lowers (let e = now_is in omega (arith, e, lt))))
            | inr r ↦ elim r [
              | inl z ↦ inr (inr (inl (in_turn z)))
              | inr z ↦ inr (inr (inr (on_the_spot z)))
            ]
          ]
        ]
          where
            now_is : weight_of m p moves.now ≡ (length (program_of m p f) - f.«at») * most_rows m.setup.mode + left_in m.setup.mode d
            now_is =
                let s = led_at f (course_in (world m) w f c (target c f)).leads in
                ap (weight_of m p) t.0
                ∙ ap (λ (i : ℕ). (length (Rattle.lk_rows.specs.Programs.program_at m.setup p i) - d.«at») * most_rows m.setup.mode + left_in m.setup.mode d) s.1
                ∙ ap (λ (i : ℕ). (length (program_of m p f) - i) * most_rows m.setup.mode + left_in m.setup.mode d) s.0

            -- as many rows are left
            weights : left_in m.setup.mode d ≡ left_in m.setup.mode f
                → (u : Waiter) → weight_of (row m p).0 u.cpu (frame_at (row m p).0 u) ≡ weight_of m u.cpu (frame_at m u)
            weights left u = elim (waiter_cases u w) [
              | inr ne ↦ weight_there u ne
              | inl e ↦
                  subst (λ (v : Waiter). weight_of (row m p).0 v.cpu (frame_at (row m p).0 v) ≡ weight_of m v.cpu (frame_at m v)) (sym e)
                  (weight_here ∙ now_is
                  ∙ ap (λ (i : ℕ). (length (program_of m p f) - f.«at») * most_rows m.setup.mode + i) left ∙ sym weight_before)
            ]

            potential_same : left_in m.setup.mode d ≡ left_in m.setup.mode f → potential (row m p).0 ≡ potential m
            potential_same left =
                over (λ q. cpu_weight (row m p).0 q)
                ∙ total_same (length m.cpus) (λ u. weight_of m u.cpu (frame_at m u))
                (λ u. weight_of (row m p).0 u.cpu (frame_at (row m p).0 u)) (weights left)

            -- nothing is stored, so all else is as it was
            words_same : stored_in (world m) w f c (target c f) ≡ world m → (l : LockName) → word_at (row m p).0 l ≡ word_at m l
            words_same stores l = moves.follows.word l ∙ put.words l ∙ ap (λ (y : World). y.word l) stores

            rw_same : stored_in (world m) w f c (target c f) ≡ world m → (i : ℕ) → rw_at (row m p).0 i ≡ rw_at m i
            rw_same stores i = moves.follows.rw i ∙ put.rw i ∙ ap (λ (y : World). y.rw i) stores

            nodes_same : stored_in (world m) w f c (target c f) ≡ world m
                → goes (course_in (world m) w f c (target c f)).leads ≡ true
                → (k : NodeName) → node_at (row m p).0 k ≡ node_at m k
            nodes_same stores goes_on k =
                let r = row_made m p hs shows range f c live place in
                let top : HasTop r.stored p = has_top_same m r.stored p r.put.same (shows.whole.tops p range) in
                ap (λ (y : Machine). node_at y k) r.is
                ∙ moved_goes r.stored p f top r.lead (ap goes r.leads ∙ goes_on) k
                ∙ r.put.nodes (λ k. ap (λ (y : World). y.node k) stores) k

            same : stored_in (world m) w f c (target c f) ≡ world m
                → goes (course_in (world m) w f c (target c f)).leads ≡ true
                → (o : Option Frame) → turn_of (world (row m p).0) o ≡ turn_of (world m) o
            same stores goes_on =
                turn_same (world (row m p).0) (world m) (words_same stores) (rw_same stores) (nodes_same stores goes_on)
                (ap (λ (s : Setup). length s.topology.sockets.items) setup_is)

            in_turn : TurnGoesOn (world m) w f c → Turning m (row m p).0 p
            in_turn z =
                record {
                  place = c;
                  here = place;
                  turn = z.turn;
                  left = potential_same z.left;
                  fewer = let all = total_less (length m.cpus) (λ u. turn_of (world m) (frame_at m u))
                      (λ u. turn_of (world (row m p).0) (frame_at (row m p).0 u)) w range low nearer
                      (λ u ne. same z.stores z.away (frame_at (row m p).0 u) ∙ ap (turn_of (world m)) (there u ne)) in
                      let o = over (λ q. cpu_turns (row m p).0 q) in
                      omega (arith, all, o);
                }
              where
                nearer : turn_of (world (row m p).0) (frame_at (row m p).0 w) < turn_of (world m) (frame_at m w)
                nearer =
                    let x = same z.stores z.away (frame_at (row m p).0 w) ∙ ap (turn_of (world m)) (here ∙ t.0) in
                    let y = ap (turn_of (world m)) live in
                    let lt = z.nearer in
                    omega (arith, x, y, lt)

            on_the_spot : TurnStays (world m) w f c → Staying m (row m p).0 p
            on_the_spot z =
                record {
                  spot = record { place = c; here = place; barred = z.barred };
                  left = potential_same z.left;
                  same = over (λ q. cpu_turns (row m p).0 q)
                      ∙ total_same (length m.cpus) (λ u. turn_of (world m) (frame_at m u))
                      (λ u. turn_of (world (row m p).0) (frame_at (row m p).0 u)) each;
                  words = words_same z.stores;
                  rw = rw_same z.stores;
                  nodes = nodes_same z.stores z.away;
                  others = there;
                }
              where
                each : (u : Waiter) → turn_of (world (row m p).0) (frame_at (row m p).0 u) ≡ turn_of (world m) (frame_at m u)
                each u = elim (waiter_cases u w) [
                  | inr ne ↦ same z.stores z.away (frame_at (row m p).0 u) ∙ ap (turn_of (world m)) (there u ne)
                  | inl e ↦
                      subst (λ (v : Waiter). turn_of (world (row m p).0) (frame_at (row m p).0 v) ≡ turn_of (world m) (frame_at m v)) (sym e)
                      (same z.stores z.away (frame_at (row m p).0 w) ∙ ap (turn_of (world m)) (here ∙ t.0) ∙ z.same
                      ∙ sym (ap (turn_of (world m)) live))
                ]
        by (inr t) = inr (inl (lowers (settles t.1.0 t.1.1 t.1.3 t.1.4)))

  lowers_at : (c : Pc) → f.place ≡ Some c → Lower m (row m p).0 p
  lowers_at c place =
      let r = row_moves m p hs shows range f c live place (shows.world.fits w f live).after in
      by_moves c place r.0 r.1 r.2

  -- no handler is used up
  pub row_handlers : (q : ℕ) → handlers_at (row m p).0 q ≡ handlers_at m q
  row_handlers q = by f.place refl
    where
      by : (o : Option Pc) → f.place ≡ o → handlers_at (row m p).0 q ≡ handlers_at m q
      by None e = ap (λ (o : Option Pc). handlers_at (row_at m p f o).0 q) e
      by (Some c) e =
          let r = row_moves m p hs shows range f c live e (shows.world.fits w f live).after in
          r.2.follows.handlers q ∙ r.1.same.handlers q

  pub step_is_row : (next m (act.Step p)).0 ≡ (row m p).0
  step_is_row = step_is

  pub step_lowers : Lower m (next m (act.Step p)).0 p
  step_lowers = subst (λ (k : Machine). Lower m k p) (sym step_is) (by f.place refl)
    where
      by : (o : Option Pc) → f.place ≡ o → Lower m (row m p).0 p
      by (Some c) e = lowers_at c e
      by None e =
          let same : (row m p).0 ≡ m = ap (λ (o : Option Pc). (row_at m p f o).0) e in
          inl same
