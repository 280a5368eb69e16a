-- What schedules reach is sound, and of its setup.
use Rattle.std.proofs.Common.{◌≡◌, ℕ, ◌<◌, List, [], ◌∷◌, ◌++◌, false, true, refl, sym, ◌∙◌, ap}
use Rattle.std.proofs.Common.{subst, length, Option, Some, None, get_or, zero, suc}
use Rattle.lk_reach.proofs.Names.{Act, next, processor_of, Machine, no_cpu, at_rest, machine_after}
use Rattle.lk_reach.proofs.Names.{Frame, Setup, AreInRange, IsSound, AreAlike, IsSuch, AreMoves}
use Rattle.lk_reach.proofs.Names.{IsBegun, IsMove, IsReached, after, bare, cpus_of, run, start_of}
use Rattle.lk_reach.proofs.Names.{state_after, Keeps, SpaceValue, Extras, Plan}
use Rattle.lk_word.specs.declared.spin_word.NodeName.{NodeName}
use Rattle.lk_names.specs.{History.LockHistory, declared.names.LockName.LockName}
use Rattle.lk_names.specs.declared.names.Waiter.{Waiter}
use Rattle.lk_rows.specs.Machine.{HasNode, cpu_at, lock_at, word_at, rw_at, node_at, frame_at}
use Rattle.lk_rows.specs.Machine.{depth_at, queued_at, halted_at, kicked_at, handlers_at, entry_at}
use Rattle.lk_rows.specs.Run.{rest_cpus}
use Rattle.lk_law.specs.{MachineLaws.RunKeeps, Sound.{ShowsAll, IsWhole, Fits, world, held_at}}
use Rattle.lk_law.specs.{SoundWorld.IsSoundWorld, World.World}
use Rattle.lk_idle.proofs.Goes.{alike_goes_on}
use Rattle.lk_idle.specs.Alike.{GoesOnAlike}
use Rattle.lk_reach.proofs.{Kept.keeps_one, apart.Counts.counts_are_idle}
use Rattle.lk_names.specs.declared.events.Act.TheVariants as act

-- how a waiter holds a lock has nothing to do with counts
held_same : (m : Machine) (u : Waiter) (l : LockName) (o : Option Frame)
    → held_at m u l o ≡ held_at (bare m) u l o
held_same m u l None = refl
held_same m u l (Some f) = refl

world_same : (m : Machine) → world m ≡ world (bare m)
unfolding word_at lock_at rw_at node_at cpu_at frame_at queued_at halted_at kicked_at entry_at
world_same m = (λ i. record (world m) { held = λ u l. held_same m u l (frame_at m u) i })

bare_whole : (m : Machine) → IsWhole m → IsWhole (bare m)
unfolding cpu_at depth_at handlers_at
bare_whole m w = record {
  setup = w.setup;
  locks = w.locks;
  cpus = w.cpus;
  nodes = w.nodes;
  tops = λ p low. let t = w.tops p low in record { in_range = t.in_range; some = t.some; few = t.few };
  handlers = w.handlers;
  hash = w.hash;
}

bare_node : (m : Machine) (n : NodeName) → HasNode m n → HasNode (bare m) n
bare_node m n h = record { cpu = h.cpu; index = h.index }

bare_fits : (m : Machine) (u : Waiter) (f : Frame) → Fits m u f → Fits (bare m) u f
unfolding handlers_at cpu_at
bare_fits m u f h = record {
  ctx = h.ctx;
  program = h.program;
  within = h.within;
  finished = h.finished;
  working = h.working;
  prev = λ n e. bare_node m n (h.prev n e);
  target = λ n e. bare_node m n (h.target n e);
}

pub bare_sound : (m : Machine) (hs : LockName → LockHistory) → ShowsAll m hs → ShowsAll (bare m) hs
unfolding frame_at cpu_at
bare_sound m hs s = record {
  whole = bare_whole m s.whole;
  world = subst (λ (w : World). IsSoundWorld w hs) (world_same m) s.world;
  fits = λ u f e. bare_fits m u f (s.fits u f e);
}

-- the acts that are explored name processors
pub move_in_range : (extras : Extras) (setup : Setup) (a : Act) → IsMove extras setup a
    → processor_of a < cpus_of setup
move_in_range extras setup (act.Step p) move = move
move_in_range extras setup (act.Interrupt p) move = move.0
move_in_range extras setup (act.Nudge p) move = move.1
move_in_range extras setup (act.Preempt p) move = move.1
move_in_range extras setup (act.Resume p) move = move.1

in_range : (extras : Extras) (setup : Setup) (acts : List Act) → AreMoves extras setup acts
    → AreInRange (cpus_of setup) acts
in_range extras setup [] moves = tt
in_range extras setup (a ∷ acts) moves =
    (move_in_range extras setup a moves.0, in_range extras setup acts moves.1)

range_append : (n : ℕ) (xs ys : List Act) → AreInRange n xs → AreInRange n ys → AreInRange n (xs ++ ys)
range_append n [] ys a b = b
range_append n (x ∷ xs) ys a b = (a.0, range_append n xs ys a.1 b)

-- acts behind acts
pub after_append : (xs ys : List Act) (m : Machine)
    → machine_after m (xs ++ ys) ≡ machine_after (machine_after m xs) ys
after_append [] ys m = refl
after_append (x ∷ xs) ys m = after_append xs ys (next m x).0

-- false is not true
pub not_true : false ≡ true → ⊥
not_true e = cc

-- what is known of all acts and runs
pub record Laws : Type 0 where
  pub runs : RunKeeps
  pub setup : (m : Machine) (a : Act) → (next m a).0.setup ≡ m.setup

-- no run changes the setup
pub setup_after : Laws → (acts : List Act) (m : Machine) → (machine_after m acts).setup ≡ m.setup
setup_after laws [] m = refl
setup_after laws (a ∷ acts) m = setup_after laws acts (next m a).0 ∙ laws.setup m a

-- one act more
after_push : (acts : List Act) (m : Machine) (a : Act)
    → machine_after m (acts ++ a ∷ []) ≡ (next (machine_after m acts) a).0
after_push [] m a = refl
after_push (b ∷ acts) m a = after_push acts (next m b).0 a

pub moves_push : (extras : Extras) (setup : Setup) (acts : List Act) (a : Act) → AreMoves extras setup acts
    → IsMove extras setup a → AreMoves extras setup (acts ++ a ∷ [])
moves_push extras setup [] a moves move = (move, tt)
moves_push extras setup (b ∷ acts) a moves move = (moves.0, moves_push extras setup acts a moves.1 move)

-- the acts before an exploration, and one more
pub begun_then : (plan : Plan) (setup : Setup) (a : Act)
    → bare (machine_after (at_rest setup) (plan.before.items ++ a ∷ [])) ≡ after (bare (start_of plan setup)) a
begun_then plan setup a =
    ap bare (after_push plan.before.items (at_rest setup) a)
    ∙ sym (counts_are_idle (start_of plan setup) a).0

pub range_push : (n : ℕ) (xs : List Act) (a : Act) → AreInRange n xs → processor_of a < n
    → AreInRange n (xs ++ a ∷ [])
range_push n xs a all one = range_append n xs (a ∷ []) all (one, tt)

module _ (laws : Laws) (plan : Plan) (setup : Setup) (begun : IsBegun plan setup) where
  shown : (acts : List Act) → AreMoves plan.extras setup acts
      → (hs : LockName → LockHistory) × ShowsAll (state_after plan setup acts) hs
  shown acts moves =
      let all = plan.before.items ++ acts in
      let run = laws.runs setup all begun.lawful
      (range_append (cpus_of setup) plan.before.items acts begun.range (in_range plan.extras setup acts moves)) in
      subst (λ (m : Machine). (hs : LockName → LockHistory) × ShowsAll (bare m) hs)
      (after_append plan.before.items acts (at_rest setup))
      (_, bare_sound (machine_after (at_rest setup) all) _ run.shows)

  pub reached_sound : (s : Machine) → IsReached plan setup s → IsSound s
  reached_sound s r = subst IsSound (sym r.there) (shown r.acts r.moves)

  pub reached_such : (s : Machine) → IsReached plan setup s → IsSuch setup s
  reached_such s r =
      let all = (shown r.acts r.moves).1 in
      let kept = setup_after laws r.acts (start_of plan setup) ∙ setup_after laws plan.before.items (at_rest setup) in
      subst (IsSuch setup) (sym r.there) (record {
        setup = kept;
        counts = refl;
        cpus = all.whole.cpus ∙ ap (λ (z : Setup). length z.topology.sockets.items) kept;
        locks = all.whole.locks ∙ ap (λ (z : Setup). length z.locks.items) kept;
      })

  pub reached_then : (s : Machine) (a : Act) → IsReached plan setup s → IsMove plan.extras setup a
      → IsReached plan setup (after s a)
  reached_then s a r move = record {
    acts = r.acts ++ a ∷ [];
    moves = moves_push plan.extras setup r.acts a r.moves move;
    there =
        ap (λ k. after k a) r.there ∙ (counts_are_idle (machine_after (start_of plan setup) r.acts) a).0
        ∙ ap bare (sym (after_push r.acts (start_of plan setup) a));
  }

  pub reached_start : IsReached plan setup (bare (start_of plan setup))
  reached_start = record { acts = []; moves = tt; there = refl }

  -- a number keeps one of the states that are reached
  pub same_state : (v : SpaceValue) (k : ℕ) (s t : Machine) → Keeps v k s → Keeps v k t
      → IsReached plan setup s → IsReached plan setup t → s ≡ t
  same_state v k s t a b r q =
      let one = reached_such s r in
      let other = reached_such t q in
      keeps_one v k s t a b (one.setup ∙ sym other.setup) (one.counts ∙ sym other.counts)
      (one.cpus ∙ sym other.cpus)

  -- reached states that are alike go on alike
  pub reached_alike : (s t : Machine) (a : Act) → IsReached plan setup s → IsReached plan setup t → AreAlike s t
      → GoesOnAlike s t a
  reached_alike s t a r q alike = alike_goes_on s t a (reached_sound s r) (reached_sound t q) alike

-- acts without counts
pub run_bare : (acts : List Act) (m : Machine) → run (bare m) acts ≡ bare (machine_after m acts)
run_bare [] m = refl
run_bare (a ∷ acts) m = ap (λ (s : Machine). run s acts) (counts_are_idle m a).0 ∙ run_bare acts (next m a).0

-- a machine at rest has used no handler
none_used : (setup : Setup) (q n i : ℕ) → (get_or (rest_cpus setup q n) i no_cpu).handlers ≡ 0
none_used setup q zero i = refl
none_used setup q (suc n) zero = refl
none_used setup q (suc n) (suc i) = none_used setup (suc q) n i

pub rest_unused : (setup : Setup) (p : ℕ) → handlers_at (at_rest setup) p ≡ 0
unfolding handlers_at cpu_at
rest_unused setup p = none_used setup 0 (length setup.topology.sockets.items) p

rest_count : (setup : Setup) (q n : ℕ) → length (rest_cpus setup q n) ≡ n
rest_count setup q zero = refl
rest_count setup q (suc n) = ap suc (rest_count setup (suc q) n)

pub rest_cpus_of : (setup : Setup) → length (at_rest setup).cpus ≡ cpus_of setup
rest_cpus_of setup = rest_count setup 0 (cpus_of setup)
