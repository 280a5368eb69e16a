-- The machine at rest: each processor has its task's frame alone, nobody has touched a lock, and it
-- shows the empty history.
use Rattle.std.proofs.Common.{◌≡◌, ◌≢◌, ℕ, zero, suc, Option, Some, None, Bool, true, false, []}
use Rattle.std.proofs.Common.{◌∷◌, inl, inr, arith, ap, ◌<◌, ◌≤◌, refl, sym, ◌∙◌, subst, slice_get}
use Rattle.std.proofs.Common.{length, get_or, replicate, if◌then◌else◌, ◌==◌}
use Rattle.std.proofs.{lemmas.List.length-replicate, lemmas.Option.get_or_from_slice_get}
use Rattle.lk_core.proofs.Names.{cases_Bool, cases_lt, get_or_past, none-some, same_Some, RwFields}
use Rattle.lk_core.proofs.Names.{NodeName, same_lock, Spins, Spin, LockName, Waiter, CpuState}
use Rattle.lk_core.proofs.Names.{HasTop, LockState, Machine, no_cpu, rest_frame, rest_lock}
use Rattle.lk_core.proofs.Names.{rest_node, first_place, node_of, program_of, rw_name, wait_name}
use Rattle.lk_core.proofs.Names.{kind_of, program_at, way_at, way_before, Frame, Pc, G5, G11, Op}
use Rattle.lk_core.proofs.Names.{Setup, lock_cases, same_lock-else, ShowsKicks, has_node, queues}
use Rattle.lk_core.proofs.Names.{Idle, own_in, phase_of, phase_on, Fits, Footing, IsWhole, ShowsAll}
use Rattle.lk_core.proofs.Names.{held_at, held_of, world, IsSoundWorld, RwFits, rw_phase_of}
use Rattle.lk_word.specs.declared.spin_word.Locked.TheVariants.{Free}
use Rattle.lk_names.proofs.ByIndex.{get_past}
use Rattle.lk_names.specs.{History.no_history, declared.holder.Manner.TheVariants.Writes}
use Rattle.lk_rows.specs.Machine.{cpu_at, lock_at, rw_at, word_at, node_at, frame_at, queued_at}
use Rattle.lk_rows.specs.Machine.{depth_at, halted_at, kicked_at, entry_at, handlers_at, rest_word}
use Rattle.lk_rows.specs.{Programs.IsLawfulSetup, Run.{first_frame, rest_cpu, rest_cpus, at_rest}}
use Rattle.lk_law.proofs.common.Choices.{quiet_choice, fit_placeless}
use Rattle.lk_law.proofs.common.RestWorld.{empty_world, none_told}
use Rattle.lk_law.proofs.{common.Worlds.{stage_calm, stage_on-rests}, pv.HaltsShown.empty_shows}
use Rattle.lk_law.proofs.rw.Begins.{begun_fits}
use Rattle.lk_law.specs.{Agree.{LockAgrees, Owed, node_state}, Families.is_slow}
use Rattle.lk_law.specs.Phase.{has_lock, pends, watches}
use Rattle.lk_law.specs.Places.{post_of, post_on, stage_on, slow_in, snapshot}
use Rattle.lk_law.specs.{Pv.{Post, PostsAgree, at_halt}, Pv.Post.Off}
use Rattle.lk_law.specs.{Registers.{RegistersFit, is_quiet_row}, RwAgree.RwAgrees}
use Rattle.lk_law.specs.{RwPhase.is_counted, Snapshot.{QueueAgrees, before, spins}}
use Rattle.lk_law.specs.SoundWorld.{rw_phase_on, rw_phases, rw_helds, rw_waits}
use Rattle.lk_law.specs.{SpinWorld.IsSoundSpinWorld, Stage.Stage.Rests}
use Rattle.lk_core.proofs.Kicks.{owed_in, asleep_in, kicks_same}
use Rattle.lk_core.proofs.RestPhases.{untouched, calm, IsCalm, HasNoPart, calm_posts, differ}
use Rattle.lk_core.proofs.RestPhases.{first_untouched, get_or-same, is_calm, length-rest_cpus}
use Rattle.lk_core.proofs.RestPhases.{quiet, rest_cpus-at, suits_off}
use Rattle.lk_core.proofs.{Settle.{first_stage, first_outer}, Walks.{IsOuter, outer_held}}

module _ (setup : Setup) (ok : IsLawfulSetup setup) where
  abbrev m : Machine
  m = at_rest setup

  abbrev count : ℕ
  count = length setup.topology.sockets.items

  rest_at : (p : ℕ) → p < count → cpu_at m p ≡ rest_cpu setup p
  unfolding cpu_at
  rest_at p lt = rest_cpus-at setup 0 count p lt ∙ ap (rest_cpu setup) (omega arith)

  none_at : (p : ℕ) → count ≤ p → cpu_at m p ≡ no_cpu
  unfolding cpu_at
  none_at p ge = get_or_past (rest_cpus setup 0 count) p no_cpu (rw length-rest_cpus ge)

  -- what is true of a processor at rest, and of none
  each : (P : CpuState → Type 0) (p : ℕ) → P (rest_cpu setup p) → P no_cpu → P (cpu_at m p)
  each P p here none = elim (cases_lt p count) [ inl lt ↦ subst P (sym (rest_at p lt)) here | inr ge ↦ subst P (sym (none_at p ge)) none ]

  words : (l : LockName) → word_at m l ≡ rest_word
  unfolding word_at lock_at
  words l = by l.wait (get_or-same (length setup.locks.items) l.index rest_lock)
    where
      by : (b : Bool)
          → get_or (replicate (length setup.locks.items) rest_lock) l.index rest_lock ≡ rest_lock
          → (if b then (get_or (replicate (length setup.locks.items) rest_lock) l.index
          rest_lock).wait else (get_or (replicate (length setup.locks.items) rest_lock) l.index
          rest_lock).spin) ≡ rest_word
      by true e = ap (λ (x : LockState). x.wait) e
      by false e = ap (λ (x : LockState). x.spin) e

  nodes : (n : NodeName) → node_at m n ≡ rest_node
  unfolding node_at
  nodes n = each (λ c. get_or c.nodes n.index rest_node ≡ rest_node) n.cpu (get_or-same 4 n.index rest_node) refl

  queued : (p : ℕ) → queued_at m p ≡ 0
  unfolding queued_at
  queued p = each (λ c. c.queued ≡ 0) p refl refl

  halted : (p : ℕ) → halted_at m p ≡ false
  unfolding halted_at
  halted p = each (λ c. c.halted ≡ false) p refl refl

  kicked : (p : ℕ) → kicked_at m p ≡ false
  unfolding kicked_at
  kicked p = each (λ c. c.kicked ≡ false) p refl refl

  entries : (l : LockName) → entry_at m l ≡ None
  unfolding entry_at
  entries l = refl

  handlers : (p : ℕ) → handlers_at m p ≡ 0
  unfolding handlers_at
  handlers p = each (λ c. c.handlers ≡ 0) p refl refl

  tops : (p : ℕ) → p < length m.cpus → HasTop m p
  unfolding depth_at
  tops p lt =
      let e : length (cpu_at m p).frames ≡ 1 = ap (λ (c : CpuState). length c.frames) (rest_at p (rw length-rest_cpus at lt)) in
      record { in_range = lt; some = omega arith; few = omega arith }

  four : (p : ℕ) → p < length m.cpus → length (cpu_at m p).nodes ≡ 4
  four p lt = ap (λ (c : CpuState). length c.nodes) (rest_at p (rw length-rest_cpus at lt))

  whole : IsWhole m
  whole =
      record {
        setup = ok;
        locks = length-replicate (length setup.locks.items) rest_lock;
        cpus = length-rest_cpus setup 0 count;
        nodes = four;
        tops = tops;
        handlers = λ p. rw (handlers p) (omega arith);
        hash = tt;
      }

  -- the frames: each task at the first row of its program, or finished where it has none
  abbrev task : ℕ → Frame
  task p = first_frame setup.mode (slice_get (program_at setup p 0) 0)

  pub frames : (u : Waiter) (f : Frame) → frame_at m u ≡ Some f → (u.ctx ≡ 0) × (task u.cpu ≡ f)
  unfolding frame_at
  frames u f = each (λ c. slice_get c.frames u.ctx ≡ Some f → (u.ctx ≡ 0) × (task u.cpu ≡ f)) u.cpu (sole u.ctx) (λ e. absurd (none-some f e))
    where
      sole : (i : ℕ) → slice_get (task u.cpu ∷ []) i ≡ Some f → (i ≡ 0) × (task u.cpu ≡ f)
      sole zero e = (refl, same_Some (task u.cpu) f e)
      sole (suc i) e = absurd (none-some f e)

  -- what is true of each task is true of each frame
  of_tasks : (P : Frame → Type 0) → ((p : ℕ) → P (task p)) → (u : Waiter) (f : Frame)
      → frame_at m u ≡ Some f → P f
  of_tasks P each u f e = subst P (frames u f e).1 (each u.cpu)

  -- what a task at rest is
  record IsFirst (f : Frame) : Type 0 where
    pub untouched : untouched (phase_of f) ≡ true
    pub slow : is_slow f.place ≡ false
    pub position : f.«at» ≡ 0
    pub post : post_of f ≡ Off
    pub owed : owed_in (Some f) ≡ None
    pub calm : is_calm (rw_phase_of f) ≡ true
    pub outer : IsOuter f
    pub registers : RegistersFit setup.mode f

  first : (p : ℕ) (o : Option Op) → slice_get (program_at setup p 0) 0 ≡ o
      → IsFirst (first_frame setup.mode o)
  first p None e =
      record {
        untouched = refl;
        slow = refl;
        position = refl;
        post = refl;
        owed = refl;
        calm = refl;
        outer = record { inner = refl; over = refl };
        registers = fit_placeless (first_frame setup.mode None) refl refl;
      }
  first p (Some o) e =
      let fits : way_at (program_at setup p 0) 0 o.lock ≡ way_before o.verb = (ok.lawful p 0).fits 0 o e in
      let quiet_first = first_untouched setup.mode o.verb false (node_of None) (node_of None) (first_frame setup.mode (Some o)) (sym fits) in
      let no_node = (quiet (phase_of (first_frame setup.mode (Some o))) quiet_first.0).noded in
      record {
        untouched = quiet_first.0;
        slow = quiet_first.1;
        position = refl;
        post = quiet_first.4;
        owed = quiet_first.5;
        calm = quiet_first.3;
        outer = first_outer setup.mode o.verb (first_frame setup.mode (Some o)) refl refl;
        registers = record {
          me = λ q. differ (has_node (phase_of (first_frame setup.mode (Some o)))) no_node q;
          bare = λ q. refl;
          met = λ q. absurd (slow_not G5 q refl quiet_first.1);
          next = λ q. absurd (slow_not G11 q refl quiet_first.1);
          choice = quiet_choice (first_frame setup.mode (Some o))
              (λ d q. let same : first_place setup.mode o.verb ≡ d =
              same_Some (first_place setup.mode o.verb) d q in
              sym (ap is_quiet_row same) ∙ quiet_first.2);
        };
      }
    where
      slow_not : (c : Pc) → (first_frame setup.mode (Some o)).place ≡ Some c
          → is_slow (Some c) ≡ true → is_slow (first_frame setup.mode (Some o)).place ≡ false → ⊥
      slow_not c q s f = let z = ap is_slow q ∙ s in grind (arith, z, f)

  firsts : (p : ℕ) → IsFirst (task p)
  firsts p = first p (slice_get (program_at setup p 0) 0) refl

  phase_plain : (l : LockName) (u : Waiter) → untouched (phase_on l (frame_at m u)) ≡ true
  phase_plain l u = go (frame_at m u) refl
    where
      go : (o : Option Frame) → frame_at m u ≡ o → untouched (phase_on l o) ≡ true
      go None e = refl
      go (Some d) e = elim (cases_Bool (same_lock d.lock l)) [ inl t ↦ rw t (of_tasks IsFirst firsts u d e).untouched | inr t ↦ rw t refl ]

  slow_plain : (u : Waiter) → slow_in (frame_at m u) ≡ false
  slow_plain u = go (frame_at m u) refl
    where
      go : (o : Option Frame) → frame_at m u ≡ o → slow_in o ≡ false
      go None e = refl
      go (Some d) e = (of_tasks IsFirst firsts u d e).slow

  held_plain : (u : Waiter) (l : LockName) → held_of m u l ≡ None
  held_plain u l = go (frame_at m u) refl
    where
      go : (o : Option Frame) → frame_at m u ≡ o → held_at m u l o ≡ None
      go None e = refl
      go (Some d) e = let first = of_tasks IsFirst firsts u d e in outer_held (program_of m u.cpu d) d first.outer l ∙ by l.wait first.position
        where
          by : (b : Bool) → d.«at» ≡ 0
              → (if b then None else way_at (program_of m u.cpu d) d.«at» l.index) ≡ None
          by true z = refl
          by false z = ap (λ (i : ℕ). way_at (program_of m u.cpu d) i l.index) z

  facts : (l : LockName) (u : Waiter) → HasNoPart (phase_on l (frame_at m u))
  facts l u = quiet (phase_on l (frame_at m u)) (phase_plain l u)

  spins_none : (l : LockName) (u : Waiter) → spins (held_of m u l) ≡ false
  spins_none l u = ap spins (held_plain u l)

  -- nobody chooses
  stage_plain : (l : LockName) (u : Waiter) → stage_on l (frame_at m u) ≡ Rests
  stage_plain l u = go (frame_at m u) refl
    where
      go : (o : Option Frame) → frame_at m u ≡ o → stage_on l o ≡ Rests
      go None e = refl
      go (Some d) e = stage_on-rests l d (stage_calm d (λ q. let z = (of_tasks IsFirst firsts u d e).untouched in absurd (grind (arith, z, q))))

  -- nobody halts, or owes a kick
  posts_plain : (l : LockName) (u : Waiter) → post_on l (frame_at m u) ≡ Off
  posts_plain l u = go (frame_at m u) refl
    where
      go : (o : Option Frame) → frame_at m u ≡ o → post_on l o ≡ Off
      go None e = refl
      go (Some d) e = elim (cases_Bool (same_lock d.lock l)) [ inl t ↦ rw t (of_tasks IsFirst firsts u d e).post | inr t ↦ rw t refl ]

  lock_agrees : (l : LockName) → LockAgrees (snapshot (world m)) no_history l
  lock_agrees l =
      let w = words l in
      record {
        holder = None;
        holders = refl;
        hold = rw w (record {
          free = λ e. refl;
          taken = λ e. refl;
          has = λ u h. differ (has_lock (phase_on l (frame_at m u)) (spins (held_of m u l))) (ap (has_lock (phase_on l (frame_at m u))) (spins_none l u) ∙ (facts l u).has) h;
          had = λ u h. absurd (none-some u h);
          without = λ u h. spins_none l u;
          releases = λ u h. absurd (let z = phase_plain l u in grind (arith, z, h));
        });
        pend = rw w (record {
          set = λ u h. differ (pends (phase_on l (frame_at m u))) (facts l u).pends h;
          one = λ u v h k. differ (pends (phase_on l (frame_at m u))) (facts l u).pends h;
          someone = λ h. absurd (grind arith);
          free = λ u h. refl;
          apart = λ u v h k. differ (watches (phase_on l (frame_at m u))) (facts l u).watches h;
        });
        posts = λ e. record {
          posts =
              let s = snapshot (world m) in
              rw (w, entries l)
              (subst (λ (q : Waiter → Post).
              PostsAgree Free None None q (node_state s) s.own (λ u. Owed s u.cpu))
              (λ i u. sym (posts_plain l u) i)
              (calm_posts (node_state s) s.own (λ u. Owed s u.cpu)));
          suits = λ u. rw (posts_plain l u) (suits_off (phase_on l (frame_at m u)) (phase_plain l u));
        };
        lists = record {
          flat = λ e. record { queue = rw w nobody; single = refl; unpassed = refl };
          cna = λ e. record {
            queue = rw w nobody;
            second_ok = record {
              waits = λ i u h. absurd (none-some u h);
              once = λ i j u h k. absurd (none-some u h);
              linked = λ i u v h k. absurd (none-some u h);
              last = λ i u h. absurd (none-some u h);
            };
            moved = λ i u h. absurd (none-some u h);
            lead = λ v h. absurd (none-some v h);
            empty = λ h. refl;
            lengths = refl;
            calm = λ u h. stage_plain l u;
          };
        };
      }
    where
      nobody : QueueAgrees None (λ u. phase_on l (frame_at m u)) (λ u. own_in (frame_at m u))
          (λ n. node_at m n) []
      nobody =
          record {
            members = record {
              inside = λ i u h. absurd (none-some u h);
              place = λ u h. differ (queues (phase_on l (frame_at m u))) (facts l u).queues h;
              once = λ i j u h k. absurd (none-some u h);
            };
            ends = record {
              no_tail = λ h. refl;
              tail_is = λ i u h k. absurd (none-some u h);
              first = λ u h. absurd (none-some u h);
              behind = λ i u h. absurd (none-some u h);
            };
            links = record {
              linked = λ i u v h k r. absurd (none-some u h);
              linking = λ i u v n h k r. absurd (none-some u h);
              last = λ i u h k. absurd (none-some u h);
              hand = λ u n h. differ (queues (phase_on l (frame_at m u))) (facts l u).queues (ap queues h);
              fresh = λ u h. differ (has_node (phase_on l (frame_at m u))) (facts l u).noded (ap has_node h);
            };
          }

  none_before : (p c : ℕ) → before (λ u. slow_in (frame_at m u)) p c ≡ 0
  none_before p zero = refl
  none_before p (suc c) = rw (slow_plain (record { cpu = p; ctx = c }), none_before p c) refl

  one_lock : (k l : LockName) (u : Waiter) → k ≢ l → phase_on k (frame_at m u) ≢ Idle
      → phase_on l (frame_at m u) ≡ Idle
  one_lock k l u ne h = go (frame_at m u) h
    where
      go : (o : Option Frame) → phase_on k o ≢ Idle → phase_on l o ≡ Idle
      go None h = refl
      go (Some d) h =
          elim (lock_cases d.lock k) [
            | inl e ↦ rw (same_lock-else d.lock l (λ q. ne (sym e ∙ q))) refl
            | inr n ↦ absurd (h (rw (same_lock-else d.lock k n) refl))
          ]

  spins_sound : IsSoundSpinWorld (world m) (λ l. no_history)
  spins_sound =
      record {
        plain = record { byte = λ off l. rw (words l) (λ e. cc); flag = λ flat n k. rw (nodes n) (λ e. cc); runs = λ n. rw (nodes n) (omega arith) };
        turning = ok.spins.0;
        agrees = record {
          locks = lock_agrees;
          nodes = record {
            counted = λ p. queued p ∙ sym (none_before p 6);
            slowly = λ l u h. differ (has_node (phase_on l (frame_at m u))) (facts l u).noded h;
            below = λ l u h. differ (has_node (phase_on l (frame_at m u))) (facts l u).noded h;
            placed = λ l u h. differ (has_node (phase_on l (frame_at m u))) (facts l u).noded h;
          };
          alone = one_lock;
          sleeper = λ e k l u z h. absurd (let q = posts_plain k u in grind (arith, q, h));
        };
        registers = λ u f e. (of_tasks IsFirst firsts u f e).registers;
        asleep = λ u f e h. absurd (let q = (of_tasks IsFirst firsts u f e).post in grind (arith, q, h));
        resting = λ p h. absurd (let q = halted p in grind (arith, q, h));
      }

  -- reader-writer locks

  rws_rest : (i : ℕ) → rw_at m i ≡ record { readers = 0; waiting = false; writer = false }
  unfolding rw_at lock_at
  rws_rest i = ap (λ (x : LockState). x.rw) (get_or-same (length setup.locks.items) i rest_lock)

  calm_plain : (i : ℕ) (u : Waiter) → IsCalm (rw_phase_on i (frame_at m u))
  calm_plain i u = calm (rw_phase_on i (frame_at m u)) (go (frame_at m u) refl)
    where
      go : (o : Option Frame) → frame_at m u ≡ o → is_calm (rw_phase_on i o) ≡ true
      go None e = refl
      go (Some d) e = elim (cases_Bool (d.lock.index == i)) [ inl t ↦ rw t (of_tasks IsFirst firsts u d e).calm | inr t ↦ rw t refl ]

  rw_agrees : (i : ℕ)
      → RwAgrees (rw_at m i) (rw_phases (world m) i) (rw_helds (world m) i) (rw_waits (world m) i)
      no_history
  rw_agrees i =
      subst (λ (x : RwFields). RwAgrees x (rw_phases (world m) i) (rw_helds (world m) i) (rw_waits (world m) i) no_history) (sym (rws_rest i)) (record {
        counted = [];
        readers = record {
          each = record {
            inside = λ j u h. absurd (none-some u h);
            place = λ u h.
                differ (is_counted (rw_phase_on i (frame_at m u)) (held_of m u (rw_name i)))
                (ap (is_counted (rw_phase_on i (frame_at m u))) (held_plain u (rw_name i))
                ∙ (calm_plain i u).counted) h;
            once = λ j k u h q. absurd (none-some u h);
          };
          number = refl;
        };
        holds = record {
          each = record {
            inside = λ j x h. absurd (none-some x h);
            place = λ x h. absurd (none-some x.manner (sym (held_plain x.waiter (rw_name i)) ∙ h));
            once = λ j k x h q. absurd (none-some x h);
          };
          unspun = λ u h. none-some Spins (sym (held_plain u (rw_name i)) ∙ h);
          written = λ h. absurd (grind arith);
          writes = λ u h. absurd (none-some Writes (sym (held_plain u (rw_name i)) ∙ h));
          alone = λ u v way h q. absurd (none-some Writes (sym (held_plain u (rw_name i)) ∙ h));
          without = λ u h. held_plain u (rw_name i);
          unreads = λ u h. absurd ((calm_plain i u).unread h);
          unwrites = λ u h. absurd ((calm_plain i u).unwrite h);
        };
        waiting = record {
          set = λ u h. absurd ((calm_plain i u).silent h);
          someone = λ h. absurd (grind arith);
          inner = λ u. spins_none (wait_name i) u ∙ sym (calm_plain i u).inner;
        };
        main = refl;
        second = refl;
        passes = refl;
      })

  -- a task's first operation is on a lock of its kind
  task_kinds : (p : ℕ) (o : Option Op) → slice_get (program_at setup p 0) 0 ≡ o
      → RwFits (world m).kind (first_frame setup.mode o)
  task_kinds p None e = record { rw = λ c q r. cc; inner = λ c q r i. cc; spin = λ c q r s. cc; waits = λ q. cc; after = λ q. cc }
  task_kinds p (Some o) e =
      begun_fits (world m).kind setup.mode rest_frame o
      (get_or_from_slice_get setup.locks.items o.lock (kind_of o.verb) Spin
      ((ok.lawful p 0).declared 0 o e))

  sound : IsSoundWorld (world m) (λ l. no_history)
  sound =
      record {
        spins = subst (IsSoundSpinWorld (world m)) (sym (none_told (world m).kind)) spins_sound;
        rws = λ i k. rw_agrees i;
        fits = of_tasks (RwFits (world m).kind) (λ p. task_kinds p (slice_get (program_at setup p 0) 0) refl);
      }

  -- each task fits
  task_fits : (p : ℕ) (o : Option Op) → slice_get (program_at setup p 0) 0 ≡ o
      → Fits m (record { cpu = p; ctx = 0 }) (first_frame setup.mode o)
  task_fits p None e =
      let z = get_past (program_at setup p 0) 0 e in
      record {
        ctx = refl;
        program = (λ q. refl, λ q. absurd (omega arith));
        within = omega arith;
        finished = λ q. omega arith;
        working = λ c q. cc;
        prev = λ n q. absurd (none-some n q);
        target = λ n q. absurd (none-some n q);
      }
  task_fits p (Some o) e =
      record {
        ctx = refl;
        program = (λ q. refl, λ q. absurd (omega arith));
        within = omega arith;
        finished = λ q. cc;
        working = λ c q.
            let g : Frame = first_frame setup.mode (Some o) in
            let at : first_place setup.mode o.verb ≡ c = same_Some (first_place setup.mode o.verb) c q in
            record { op = o; is = e; lock = refl; stage = subst (λ (x : Pc). Footing setup.mode o.verb g x) at (first_stage setup.mode o.verb g refl); after = λ q. cc };
        prev = λ n q. absurd (none-some n q);
        target = λ n q. absurd (none-some n q);
      }

  fits : (u : Waiter) (f : Frame) → frame_at m u ≡ Some f → Fits m u f
  fits u f e =
      let at = frames u f e in
      let here = task_fits u.cpu (slice_get (program_at setup u.cpu 0) 0) refl in
      let name : u ≡ record { cpu = u.cpu; ctx = 0 } = (λ i. record { cpu = u.cpu; ctx = at.0 i }) in
      subst (λ (v : Waiter). Fits m v f) (sym name) (subst (λ (x : Frame). Fits m (record { cpu = u.cpu; ctx = 0 }) x) at.1 here)

  pub rest_shows_all : ShowsAll (at_rest setup) (λ l. no_history)
  rest_shows_all = record { whole = whole; world = sound; fits = fits }

  -- and nobody has halted, or is owed a kick
  pub rest_shows_kicks : ShowsKicks (world (at_rest setup)) []
  rest_shows_kicks =
      let x = empty_world setup.format setup.mode setup.threshold setup.topology.sockets.items (world m).kind in
      kicks_same x (world m) [] (record {
        halted = λ p. halted p;
        kicked = λ p. kicked p;
        asleep = λ u. awake (frame_at m u) u refl;
        owed = λ u. owes (frame_at m u) u refl;
      }) (empty_shows setup.format setup.mode setup.threshold setup.topology.sockets.items (world m).kind)
    where
      awake : (o : Option Frame) → (u : Waiter) → frame_at m u ≡ o → asleep_in o ≡ false
      awake None u e = refl
      awake (Some d) u e = ap at_halt (of_tasks IsFirst firsts u d e).post

      owes : (o : Option Frame) → (u : Waiter) → frame_at m u ≡ o → owed_in o ≡ None
      owes None u e = refl
      owes (Some d) u e = (of_tasks IsFirst firsts u d e).owed
