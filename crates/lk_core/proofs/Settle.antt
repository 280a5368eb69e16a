-- The top frame has ended an operation, or is a handler's that came on top: it begins the next
-- operation, is finished, or is popped; and the machine shows what it showed.
use Rattle.std.proofs.Common.{◌≡◌, ◌≢◌, ℕ, Option, Some, None, Bool, true, false, List, inl, inr}
use Rattle.std.proofs.Common.{arith, ap, ◌<◌, ◌≤◌, refl, sym, ◌∙◌, subst, slice_get, length}
use Rattle.std.proofs.Common.{if◌then◌else◌, ◌==◌, ◌||◌, slice_index_or}
use Rattle.std.proofs.{lemmas.Bool.eqb-false, lemmas.Option.get_or_from_slice_get}
use Rattle.lk_core.proofs.Names.{cases_Bool, none-some, same_Some, LockHistory, same_waiter, Kind}
use Rattle.lk_core.proofs.Names.{Spin, LockName, Mode, Cna, Native, Pv, Virt, Waiter, HasNode}
use Rattle.lk_core.proofs.Names.{HasTop, Machine, top_of, first_place, program_of, settled}
use Rattle.lk_core.proofs.Names.{settled_at, started, kind_of, way_at, way_before, Frame, Pc, Op}
use Rattle.lk_core.proofs.Names.{Verb, Lock, RUnlock, Read, Try, TryRead, TryWrite, Unlock, WUnlock}
use Rattle.lk_core.proofs.Names.{Write, waiter_cases, same_waiter-else, same_waiter-self, RwPhase}
use Rattle.lk_core.proofs.Names.{is_inner, Fits, Footing, IsWhole, Sharing, ShowsAll, Spinning}
use Rattle.lk_core.proofs.Names.{frees, held_at, held_idle, held_of, owes_kick, world, IsSoundWorld}
use Rattle.lk_core.proofs.Names.{RwFits, rw_phase_if, rw_phase_of, put_frame, World}
use Rattle.lk_names.proofs.ByIndex.{get_past}
use Rattle.lk_rows.specs.{Machine.{frame_at, set_top, pop}, Programs.IsLawfulProgram}
use Rattle.lk_law.proofs.rw.Begins.{begin_keeps, end_keeps}
use Rattle.lk_law.specs.{Premises.IsThen, Sound.RunsOne, SoundWorld.rw_phase_at}
use Rattle.lk_core.proofs.Same.{Keeps, same_set_top, keeps_pop, handlers_pop, tops_pop, whole_kept}
use Rattle.lk_core.proofs.Same.{whole_same, fits_kept}
use Rattle.lk_core.proofs.Seated.{alike, seated, world-set_top, world-pop}
use Rattle.lk_core.proofs.Walks.{IsOuter, NodesIn, outer_held}

-- what stands after an operation has ended and before the next one begins: the acting frame d has
-- no place, and holds what h holds, which goes on in its place
abbrev pub ended_at : Machine → Waiter → Frame → Frame → World
ended_at n w d h =
    record (put_frame (world n) w (Some d)) {
      held =
          λ u l. if same_waiter u w then held_idle (program_of n w.cpu h) h l else held_of n u l;
    }

-- The machine n, whose frame on top of p is to go on as h, is whole, and sound with d on top.
pub record Between (n : Machine) (p : ℕ) (d h : Frame) (hs : LockName → LockHistory) : Type 0 where
  pub whole : IsWhole n
  pub range : p < length n.cpus
  pub others : (u : Waiter) (f : Frame) → u ≢ top_of n p → frame_at n u ≡ Some f → Fits n u f
  pub world : IsSoundWorld (ended_at n (top_of n p) d h) hs
  pub place : d.place ≡ None
  pub me : h.me ≡ d.me
  pub lock : h.lock ≡ d.lock
  pub next : h.then ≡ d.then
  pub ctx : h.ctx ≡ (top_of n p).ctx
  pub program : RunsOne n (top_of n p) h
  pub within : h.«at» ≤ length (program_of n p h)
  pub nodes : NodesIn (HasNode n) h

-- each frame fits
abbrev pub AllFit : Machine → Type 0
AllFit m = (u : Waiter) (f : Frame) → frame_at m u ≡ Some f → Fits m u f

-- where one frame has changed, all frames fit
pub fits_all : (n m : Machine) (w : Waiter) (o : Option Frame) → Keeps n m
    → ((u : Waiter) → frame_at m u ≡ (if same_waiter u w then o else frame_at n u))
    → ((g : Frame) → o ≡ Some g → Fits m w g)
    → ((u : Waiter) (f : Frame) → u ≢ w → frame_at n u ≡ Some f → Fits n u f) → AllFit m
fits_all n m w o k frames here others u f e =
    elim (waiter_cases u w) [
      | inl i ↦
          let at : frame_at m w ≡ o =
          frames w ∙ ap (λ (b : Bool). if b then o else frame_at n w) (same_waiter-self w) in
          subst (λ (v : Waiter). Fits m v f) (sym i) (here f (sym at ∙ ap (frame_at m) (sym i) ∙ e))
      | inr ne ↦
          let at : frame_at m u ≡ frame_at n u = frames u
          ∙ ap (λ (b : Bool). if b then o else frame_at n u) (same_waiter-else u w ne) in
          fits_kept n m u f k (others u f ne (sym at ∙ e))
    ]

-- an operation begins at a row of its own
pub first_stage : (mode : Mode) (v : Verb) (f : Frame) → f.lock.wait ≡ false
    → Footing mode v f (first_place mode v)
first_stage Virt Lock f q = Spinning q refl refl
first_stage Native Lock f q = Spinning q refl refl
first_stage Cna Lock f q = Spinning q refl refl
first_stage Pv Lock f q = Spinning q refl refl
first_stage mode Try f q = Spinning q refl (inl refl)
first_stage Virt Unlock f q = Spinning q refl refl
first_stage Native Unlock f q = Spinning q refl refl
first_stage Cna Unlock f q = Spinning q refl refl
first_stage Pv Unlock f q = Spinning q refl (inl refl)
first_stage mode Read f q = Sharing refl (rw q (inl refl))
first_stage mode Write f q = Sharing refl (rw q refl)
first_stage mode TryRead f q = Sharing refl (rw q (inl refl))
first_stage mode TryWrite f q = Sharing refl (rw q (inl refl))
first_stage mode RUnlock f q = Sharing refl (rw q refl)
first_stage mode WUnlock f q = Sharing refl (rw q refl)

-- and holds what it held between the two
pub first_outer : (mode : Mode) (v : Verb) (f : Frame) → f.place ≡ Some (first_place mode v)
    → f.lock.wait ≡ false → IsOuter f
first_outer mode v f place wait = outer (first_place mode v) (by mode v) place wait
  where
    outer : (c : Pc)
        → (is_inner (rw_phase_at c false) ≡ false) × (frees (rw_phase_at c false) ≡ false)
        × (owes_kick (Some c) ≡ false)
        → f.place ≡ Some c → f.lock.wait ≡ false → IsOuter f
    outer c o p q =
        let e : rw_phase_of f ≡ rw_phase_at c false =
        ap (λ (x : Option Pc). rw_phase_if x f.lock.wait) p ∙ ap (rw_phase_if (Some c)) q in
        record {
          inner = ap is_inner e ∙ o.0;
          over = ap (λ (x : RwPhase). frees x || owes_kick f.place) e
              ∙ ap (λ (b : Bool). b || owes_kick f.place) o.1 ∙ ap owes_kick p ∙ o.2;
        }

    by : (mode : Mode) (v : Verb)
        → (is_inner (rw_phase_at (first_place mode v) false) ≡ false)
        × (frees (rw_phase_at (first_place mode v) false) ≡ false)
        × (owes_kick (Some (first_place mode v)) ≡ false)
    by Virt Unlock = (refl, refl, refl)
    by Native Unlock = (refl, refl, refl)
    by Cna Unlock = (refl, refl, refl)
    by Pv Unlock = (refl, refl, refl)
    by mode Lock = (refl, refl, refl)
    by mode Try = (refl, refl, refl)
    by mode Read = (refl, refl, refl)
    by mode Write = (refl, refl, refl)
    by mode TryRead = (refl, refl, refl)
    by mode TryWrite = (refl, refl, refl)
    by mode RUnlock = (refl, refl, refl)
    by mode WUnlock = (refl, refl, refl)

-- a frame without a place fits, where it acted on the same lock
pub placeless_fits : (kind : ℕ → Kind) (d g : Frame) → RwFits kind d → g.place ≡ None
    → g.lock ≡ d.lock → g.then ≡ d.then → RwFits kind g
placeless_fits kind d g fits place lock next =
    let wait : g.lock.wait ≡ d.lock.wait = ap (λ (l : LockName). l.wait) lock in
    record {
      rw = λ c q e. absurd (none-some c (sym place ∙ q));
      inner = λ c q e i. absurd (none-some c (sym place ∙ q));
      spin = λ c q e s. absurd (none-some c (sym place ∙ q));
      waits = λ q. ap (λ (l : LockName). kind l.index) lock ∙ fits.waits (sym wait ∙ q);
      after = λ q. subst IsThen (sym next) (fits.after (sym wait ∙ q));
    }

module _ (n : Machine) (p : ℕ) (d h : Frame) (hs : LockName → LockHistory)
    (b : Between n p d h hs) where
  abbrev w : Waiter
  w = top_of n p

  abbrev ops : List Op
  ops = program_of n p h

  top : HasTop n p
  top = b.whole.tops p b.range

  lawful : IsLawfulProgram n.setup.locks.items ops
  lawful = b.whole.setup.lawful p h.program

  -- the frame g comes in the place of d, and holds the same
  over : (g : Option Frame) → ((l : LockName) → held_at n w l g ≡ held_idle ops h l)
      → seated n w g ≡ put_frame (ended_at n w d h) w g
  over g same =
      alike (seated n w g) (put_frame (ended_at n w d h) w g) (record {
        mode = refl;
        turns = refl;
        threshold = refl;
        format = refl;
        sockets = refl;
        word = λ l. refl;
        node = λ k. refl;
        frame = λ u. by (same_waiter u w) g (Some d) (frame_at n u);
        held = λ u l. ap (λ x. if same_waiter u w then x else held_of n u l) (same l);
        queued = λ q. refl;
        rw = λ i. refl;
        kind = λ i. refl;
        entry = λ k. refl;
        halted = λ q. refl;
        kicked = λ q. refl;
      })
    where
      by : (t : Bool) (x y z : Option Frame)
          → (if t then x else z) ≡ (if t then x else (if t then y else z))
      by true x y z = refl
      by false x y z = refl

  here : (ended_at n w d h).frame w ≡ Some d
  here = ap (λ (t : Bool). if t then Some d else frame_at n w) (same_waiter-self w)

  idle : (d.place ≡ None) × (d.me ≡ None)
  idle =
      let r = b.world.spins.registers w d here in
      (b.place, r.bare (rw b.place refl))

  -- what a machine shows after a write of its top frame
  shows : (m : Machine) (g : Option Frame) → world m ≡ seated n w g
      → ((l : LockName) → held_at n w l g ≡ held_idle ops h l) → Keeps n m → IsWhole m
      → ((f : Frame) → g ≡ Some f → Fits m w f) → IsSoundWorld (put_frame (ended_at n w d h) w g) hs
      → ShowsAll m hs
  shows m g is same keeps whole fits sound =
      record {
        whole = whole;
        world = subst (λ (x : World). IsSoundWorld x hs) (sym (is ∙ over g same)) sound;
        fits = fits_all n m w g keeps (λ u. ap (λ (x : World). x.frame u) is) fits b.others;
      }

  -- the next operation begins
  begins_on : (o : Op) → slice_get ops h.«at» ≡ Some o
      → ShowsAll (set_top n p (started n.setup.mode h o)) hs
  begins_on o next =
      let g : Frame = started n.setup.mode h o in
      let m : Machine = set_top n p g in
      let same = same_set_top n p g in
      shows m (Some g) (world-set_top n p g top)
      (λ l. outer_held ops g (first_outer n.setup.mode o.verb g refl refl) l) same.keeps
      (whole_same n m b.whole same)
      (λ f e.
      subst (λ (x : Frame). Fits m w x) (same_Some g f e) (fits_kept n m w g same.keeps fit))
      (begin_keeps (ended_at n w d h) hs w d h o b.world here b.place held kind b.me)
    where
      held : (ended_at n w d h).held w (record { index = o.lock; wait = false }) ≡ way_before o.verb
      held = ap (λ (t : Bool).
          if t then way_at ops h.«at» o.lock else held_of n w
          (record { index = o.lock; wait = false })) (same_waiter-self w)
          ∙ lawful.fits h.«at» o next

      kind : slice_index_or n.setup.locks.items o.lock Spin ≡ kind_of o.verb
      kind =
          get_or_from_slice_get n.setup.locks.items o.lock (kind_of o.verb) Spin
          (lawful.declared h.«at» o next)

      fit : Fits n w (started n.setup.mode h o)
      fit =
          record {
            ctx = b.ctx;
            program = b.program;
            within = b.within;
            finished = λ e. cc;
            working = λ c e.
                let at : first_place n.setup.mode o.verb ≡ c =
                same_Some (first_place n.setup.mode o.verb) c e in
                record {
                  op = o;
                  is = next;
                  lock = refl;
                  stage = subst
                      (λ (x : Pc). Footing n.setup.mode o.verb (started n.setup.mode h o) x) at
                      (first_stage n.setup.mode o.verb (started n.setup.mode h o) refl);
                  after = λ q. cc;
                };
            prev = b.nodes.prev;
            target = b.nodes.target;
          }

  abbrev kinds : ℕ → Kind
  kinds i = slice_index_or n.setup.locks.items i Spin

  -- the program has ended

  all : slice_get ops h.«at» ≡ None → h.«at» ≡ length ops
  all e = let z = get_past ops h.«at» e in omega (arith, z, b.within)

  finishes : slice_get ops h.«at» ≡ None → ShowsAll (set_top n p (record h { place = None })) hs
  finishes e =
      let g : Frame = record h { place = None } in
      let m : Machine = set_top n p g in
      let same = same_set_top n p g in
      let fit : Fits n w g =
      record {
        ctx = b.ctx;
        program = b.program;
        within = b.within;
        finished = λ q. all e;
        working = λ c q. cc;
        prev = b.nodes.prev;
        target = b.nodes.target;
      } in
      shows m (Some g) (world-set_top n p g top) (λ l. refl) same.keeps
      (whole_same n m b.whole same)
      (λ f q.
      subst (λ (x : Frame). Fits m w x) (same_Some g f q) (fits_kept n m w g same.keeps fit))
      (end_keeps (ended_at n w d h) hs w (Some d) (Some g) b.world here idle (refl, b.me ∙ idle.1)
      (λ q. absurd (none-some d (sym q)))
      (λ x q.
      subst (RwFits kinds) (same_Some g x q)
      (placeless_fits kinds d g (b.world.fits w d here) refl b.lock b.next)))

  empty : slice_get ops h.«at» ≡ None → (l : LockName) → held_at n w l None ≡ held_idle ops h l
  empty e l = elim
      (cases_Bool l.wait) [
        | inl t ↦ rw t refl
        | inr t ↦ rw t (sym (ap (λ (i : ℕ). way_at ops i l.index) (all e) ∙ lawful.ends l.index))
      ]

  pops : slice_get ops h.«at» ≡ None → h.ctx ≢ 0 → ShowsAll (pop n p) hs
  pops e above =
      let m : Machine = pop n p in
      let keeps = keeps_pop n p in
      let up : 0 < (top_of n p).ctx = let z = b.ctx in omega arith in
      let whole = whole_kept n m b.whole keeps (λ q lt. tops_pop n p top up q (b.whole.tops q lt))
      (λ q. rw (handlers_pop n p q) (b.whole.handlers q)) in
      shows m None (world-pop n p top) (empty e) keeps whole (λ f q. absurd (none-some f q))
      (end_keeps (ended_at n w d h) hs w (Some d) None b.world here idle tt
      (λ q. absurd (none-some d (sym q))) (λ x q. absurd (none-some x q)))

  settled_by : (o : Option Op) → slice_get ops h.«at» ≡ o → ShowsAll (settled_at n p h o) hs
  settled_by None e =
      elim (cases_Bool (h.ctx == 0)) [
        | inl z ↦ rw z (finishes e)
        | inr z ↦ rw z (pops e (eqb-false h.ctx 0 z))
      ]
  settled_by (Some o) e = begins_on o e

  pub settled_shows : ShowsAll (settled n p h) hs
  settled_shows = settled_by (slice_get ops h.«at») refl
