-- The top frame goes where its row leads: on every machine on which it is ready, the general
-- application is the change of worlds, and the machine shows the histories that the world agrees
-- with.
use Rattle.std.proofs.Common.{◌≡◌, ℕ, Option, Some, None, true, List, [], ◌∷◌, inl, inr, arith, ap}
use Rattle.std.proofs.Common.{◌<◌, ◌≤◌, ◌+◌, refl, sym, ◌∙◌, subst, slice_get, length}
use Rattle.std.proofs.Common.{if◌then◌else◌, ◌&&◌}
use Rattle.lk_core.proofs.Names.{none-some, same_Some, slice_get_within, LockHistory, same_lock}
use Rattle.lk_core.proofs.Names.{same_waiter, Manner, LockName, Waiter, HasNode, HasTop, Machine}
use Rattle.lk_core.proofs.Names.{top_of, program_of, rw_name, settled, skipped, is_try, program_at}
use Rattle.lk_core.proofs.Names.{Change, Prev, TargetIs, changed_all, Frame, Pc, Setup}
use Rattle.lk_core.proofs.Names.{waiter_cases, same_waiter-else, same_waiter-self, Fits, Footing}
use Rattle.lk_core.proofs.Names.{IsWhole, ShowsAll, Works, after_wait, held_at, held_idle, held_in}
use Rattle.lk_core.proofs.Names.{held_of, world, IsSoundWorld, put_frame, put_held, World}
use Rattle.lk_rows.specs.Machine.{frame_at, handlers_at, set_top}
use Rattle.lk_rows.specs.Row.{Second, Y, Left, A, B, K, T, Reason, Tailed, HashedIs, with_change}
use Rattle.lk_core.proofs.Same.{KeepsFrames, top_same, same_set_top, whole_same, fits_kept}
use Rattle.lk_core.proofs.{Seated.{alike, world-set_top}, Settle.{fits_all, settled_shows}}
use Rattle.lk_core.proofs.Walks.{HoldsNow, IsOuter, NodesIn, holds_missed, skip_within}

-- the operation of a frame is the same
abbrev pub works_kept : (s t : Setup) (p : ℕ) (f : Frame) (c : Pc) → t ≡ s
    → Works s.mode (program_at s p f.program) f c → Works t.mode (program_at t p f.program) f c
works_kept s t p f c e w =
    record {
      op = w.op;
      is =
          subst (λ (x : Setup). slice_get (program_at x p f.program) f.«at» ≡ Some w.op)
          (sym e) w.is;
      lock = w.lock;
      stage = subst (λ (x : Setup). Footing x.mode w.op.verb f c) (sym e) w.stage;
      after = w.after;
    }

-- The machine is whole and its frames fit; f stands on top of p, at the row c.
pub record Ready (n : Machine) (p : ℕ) (f : Frame) (c : Pc) : Type 0 where
  pub whole : IsWhole n
  pub range : p < length n.cpus
  pub fits : (u : Waiter) (g : Frame) → frame_at n u ≡ Some g → Fits n u g
  pub live : frame_at n (top_of n p) ≡ Some f
  pub works : Works n.setup.mode (program_of n p f) f c

-- the nodes that the frame has met are the machine's
abbrev pub ready_nodes : (n : Machine) (p : ℕ) (f : Frame) (c : Pc) → Ready n p f c
    → NodesIn (HasNode n) f
ready_nodes n p f c r =
    let fit = r.fits (top_of n p) f r.live in record { prev = fit.prev; target = fit.target }

-- a machine with other words or nodes is ready too
abbrev pub ready_same : (n k : Machine) (p : ℕ) (f : Frame) (c : Pc) → Ready n p f c
    → KeepsFrames n k
    → ((u : Waiter) → frame_at k u ≡ frame_at n u) → Ready k p f c
ready_same n k p f c r same frames =
    record {
      whole = whole_same n k r.whole same;
      range = rw same.keeps.cpus r.range;
      fits = λ u g e. fits_kept n k u g same.keeps (r.fits u g (sym (frames u) ∙ e));
      live = ap (frame_at k) (top_same n k p same) ∙ frames (top_of n p) ∙ r.live;
      works = works_kept n.setup k.setup p f c same.keeps.setup r.works;
    }

-- a world with another frame of w, which holds locks in this way
abbrev holding : World → Waiter → Option Frame → (LockName → Option Manner) → World
holding m w o held =
    record (put_frame m w o) { held = λ u l. if same_waiter u w then held l else m.held u l }

-- the frame of w changes, and no hold
pub holding_same : (m : World) (w : Waiter) (o : Option Frame) (held : LockName → Option Manner)
    → ((l : LockName) → held l ≡ m.held w l) → holding m w o held ≡ put_frame m w o
holding_same m w o held each =
    alike (holding m w o held) (put_frame m w o) (record {
      mode = refl;
      turns = refl;
      threshold = refl;
      format = refl;
      sockets = refl;
      word = λ l. refl;
      node = λ n. refl;
      frame = λ u. refl;
      held = λ u l. elim (waiter_cases u w) [
        | inl e ↦
            let P : Waiter → Type 0 =
            λ v. (if same_waiter v w then held l else m.held v l) ≡ m.held v l in
            subst P (sym e) (rw (same_waiter-self w) (each l))
        | inr ne ↦ rw (same_waiter-else u w ne) refl
      ];
      queued = λ q. refl;
      rw = λ i. refl;
      kind = λ i. refl;
      entry = λ k. refl;
      halted = λ q. refl;
      kicked = λ q. refl;
    })

-- the frame of w changes, and its hold of one lock
pub holding_put : (m : World) (w : Waiter) (o : Option Frame) (held : LockName → Option Manner)
    (k : LockName) (way : Option Manner)
    → ((l : LockName) → held l ≡ (if same_lock l k then way else m.held w l))
    → holding m w o held ≡ put_held (put_frame m w o) w k way
holding_put m w o held k way each =
    alike (holding m w o held) (put_held (put_frame m w o) w k way) (record {
      mode = refl;
      turns = refl;
      threshold = refl;
      format = refl;
      sockets = refl;
      word = λ l. refl;
      node = λ n. refl;
      frame = λ u. refl;
      held = λ u l. elim (waiter_cases u w) [
        | inl e ↦
            let P : Waiter → Type 0 =
            λ v. (if same_waiter v w then held l else m.held v l)
            ≡ (if same_waiter v w && same_lock l k then way else m.held v l) in
            subst P (sym e) (rw (same_waiter-self w) (each l))
        | inr ne ↦ rw (same_waiter-else u w ne) refl
      ];
      queued = λ q. refl;
      rw = λ i. refl;
      kind = λ i. refl;
      entry = λ k. refl;
      halted = λ q. refl;
      kicked = λ q. refl;
    })

-- the frame stands at the same position of the same program
pub record SamePlace (f g : Frame) : Type 0 where
  pub ctx : g.ctx ≡ f.ctx
  pub program : g.program ≡ f.program
  pub position : g.«at» ≡ f.«at»

-- changes of registers leave the rest of the frame
pub record SameBut (f g : Frame) : Type 0 where
  pub ctx : g.ctx ≡ f.ctx
  pub program : g.program ≡ f.program
  pub position : g.«at» ≡ f.«at»
  pub lock : g.lock ≡ f.lock
  pub next : g.then ≡ f.then

same_changed : (f : Frame) (c : Change) → SameBut f (with_change f c)
same_changed f (Prev n) =
    record { ctx = refl; program = refl; position = refl; lock = refl; next = refl }
same_changed f (Second n) =
    record { ctx = refl; program = refl; position = refl; lock = refl; next = refl }
same_changed f (Y n) =
    record { ctx = refl; program = refl; position = refl; lock = refl; next = refl }
same_changed f (Left n) =
    record { ctx = refl; program = refl; position = refl; lock = refl; next = refl }
same_changed f (A n) =
    record { ctx = refl; program = refl; position = refl; lock = refl; next = refl }
same_changed f (B n) =
    record { ctx = refl; program = refl; position = refl; lock = refl; next = refl }
same_changed f (K n) =
    record { ctx = refl; program = refl; position = refl; lock = refl; next = refl }
same_changed f (T n) =
    record { ctx = refl; program = refl; position = refl; lock = refl; next = refl }
same_changed f (Reason n) =
    record { ctx = refl; program = refl; position = refl; lock = refl; next = refl }
same_changed f (Tailed n) =
    record { ctx = refl; program = refl; position = refl; lock = refl; next = refl }
same_changed f (HashedIs n) =
    record { ctx = refl; program = refl; position = refl; lock = refl; next = refl }
same_changed f (TargetIs n) =
    record { ctx = refl; program = refl; position = refl; lock = refl; next = refl }

pub same_changed_all : (f : Frame) (cs : List Change) → SameBut f (changed_all f cs)
same_changed_all f [] =
    record { ctx = refl; program = refl; position = refl; lock = refl; next = refl }
same_changed_all f (c ∷ cs) =
    let a = same_changed f c in
    let b = same_changed_all (with_change f c) cs in
    record {
      ctx = b.ctx ∙ a.ctx;
      program = b.program ∙ a.program;
      position = b.position ∙ a.position;
      lock = b.lock ∙ a.lock;
      next = b.next ∙ a.next;
    }

module _ (n : Machine) (p : ℕ) (f : Frame) (c : Pc) (hs : LockName → LockHistory)
    (r : Ready n p f c) where
  abbrev w : Waiter
  w = top_of n p

  top : HasTop n p
  top = r.whole.tops p r.range

  fit : Fits n w f
  fit = r.fits w f r.live

  held_here : (l : LockName) → held_of n w l ≡ held_in (program_of n p f) f l
  held_here l = ap (held_at n w l) r.live

  -- a frame goes on in its operation, and holds the lock k in this way
  module _ (g : Frame) (d : Pc) (same : SamePlace f g) (at : g.place ≡ Some d)
      (lock : g.lock.index ≡ f.lock.index) (stage : Footing n.setup.mode r.works.op.verb g d)
      (after : g.lock.wait ≡ true → g.then ≡ after_wait r.works.op.verb)
      (nodes : NodesIn (HasNode n) g) where
    pub goes_fit : Fits n w g
    goes_fit =
        record {
          ctx = same.ctx ∙ fit.ctx;
          program = subst
              (λ (i : ℕ). (w.ctx ≡ 0 → i ≡ 0) × (0 < w.ctx → (0 < i) × (i ≤ handlers_at n p)))
              (sym same.program) fit.program;
          within = subst (λ (i : ℕ). i ≤ length (program_of n p g)) (sym same.position)
              (subst (λ (i : ℕ). f.«at» ≤ length (program_at n.setup p i)) (sym same.program)
              fit.within);
          finished = λ e. absurd (none-some d (sym e ∙ at));
          working = λ x e.
              let dx : d ≡ x = same_Some d x (sym at ∙ e) in
              record {
                op = r.works.op;
                is = subst (λ (i : ℕ). slice_get (program_of n p g) i ≡ Some r.works.op)
                    (sym same.position)
                    (subst (λ (i : ℕ). slice_get (program_at n.setup p i) f.«at» ≡ Some r.works.op)
                    (sym same.program) r.works.is);
                lock = lock ∙ r.works.lock;
                stage = subst (λ (y : Pc). Footing n.setup.mode r.works.op.verb g y) dx stage;
                after = after;
              };
          prev = nodes.prev;
          target = nodes.target;
        }

    pub goes_shows : (k : LockName) (way : Option Manner)
        → ((l : LockName) → held_at n w l (Some g) ≡ (if same_lock l k then way else held_of n w l))
        → IsSoundWorld (put_held (put_frame (world n) w (Some g)) w k way) hs
        → ShowsAll (set_top n p g) hs
    goes_shows k way each sound =
        let m : Machine = set_top n p g in
        let s = same_set_top n p g in
        let is = world-set_top n p g top in
        record {
          whole = whole_same n m r.whole s;
          world = subst (λ (x : World). IsSoundWorld x hs)
              (sym (is ∙ holding_put (world n) w (Some g) (λ l. held_at n w l (Some g)) k way each))
              sound;
          fits = fits_all n m w (Some g) s.keeps (λ u. ap (λ (x : World). x.frame u) is)
              (λ x e. subst (λ (y : Frame). Fits m w y) (same_Some g x e)
              (fits_kept n m w g s.keeps goes_fit)) (λ u x ne e. r.fits u x e);
        }

  -- an operation has ended
  module _ (d : Frame) (place : d.place ≡ None) (me : f.me ≡ d.me) (lock : f.lock ≡ d.lock)
      (next : f.then ≡ d.then) where
    pub ended_shows : (i : ℕ) (k : LockName) (way : Option Manner) → i ≤ length (program_of n p f)
        → HoldsNow (program_of n p f) f (record f { «at» = i }) k way
        → IsSoundWorld (put_held (put_frame (world n) w (Some d)) w k way) hs
        → ShowsAll (settled n p (record f { «at» = i })) hs
    ended_shows i k way low holds sound =
        let h : Frame = record f { «at» = i } in
        let each : (l : LockName) → held_idle (program_of n p h) h
        l ≡ (if same_lock l k then way else held_of n w l) = λ l. holds l
        ∙ ap (λ (x : Option Manner). if same_lock l k then way else x) (sym (held_here l)) in
        settled_shows n p d h hs (record {
          whole = r.whole;
          range = r.range;
          others = λ u g ne e. r.fits u g e;
          world = subst (λ (x : World). IsSoundWorld x hs)
              (sym (holding_put (world n) w (Some d) (λ l. held_idle (program_of n p h) h l) k way
              each)) sound;
          place = place;
          me = me;
          lock = lock;
          next = next;
          ctx = fit.ctx;
          program = fit.program;
          within = low;
          nodes = record { prev = fit.prev; target = fit.target };
        })

    pub done_shows : (k : LockName) (way : Option Manner)
        → HoldsNow (program_of n p f) f (record f { «at» = f.«at» + 1 }) k way
        → IsSoundWorld (put_held (put_frame (world n) w (Some d)) w k way) hs
        → ShowsAll (settled n p (record f { «at» = f.«at» + 1 })) hs
    done_shows k way holds sound =
        let low = slice_get_within (program_of n p f) f.«at» r.works.op r.works.is in
        ended_shows (f.«at» + 1) k way (omega arith) holds sound

    pub missed_shows : IsOuter f → is_try r.works.op.verb ≡ true
        → IsSoundWorld
        (put_held (put_frame (world n) w (Some d)) w (rw_name f.lock.index)
        (held_of n w (rw_name f.lock.index))) hs
        → ShowsAll (settled n p (record f { «at» = f.«at» + skipped n p f })) hs
    missed_shows outer tries sound =
        ended_shows (f.«at» + skipped n p f) (rw_name f.lock.index)
        (held_of n w (rw_name f.lock.index))
        (skip_within (program_of n p f) f.«at» f.lock.index r.works.op r.works.is)
        (subst (λ (x : Option Manner).
        HoldsNow (program_of n p f) f (record f { «at» = f.«at» + skipped n p f })
        (rw_name f.lock.index) x) (sym (held_here (rw_name f.lock.index)))
        (holds_missed (program_of n p f) f (record f { «at» = f.«at» + skipped n p f }) r.works.op
        r.works.is r.works.lock outer n.setup.locks.items (r.whole.setup.lawful p f.program)
        tries refl))
        sound
