-- Where a row leads, case by case: the general application on a machine is the change of worlds.
use Rattle.std.proofs.Common.{◌≡◌, ◌⊎◌, arith, inl, inr, List, ℕ, Option, Some, None, Bool, true}
use Rattle.std.proofs.Common.{false, ap, ◌+◌, ◌-◌, refl, sym, ◌∙◌, subst, if◌then◌else◌, ◌||◌}
use Rattle.lk_core.proofs.Names.{none-some, NodeName, LockHistory, same_lock, Manner, Spins}
use Rattle.lk_core.proofs.Names.{LockName, Mode, Pv, Waiter, HasNode, Machine, rest_node, top_of}
use Rattle.lk_core.proofs.Names.{granted, leave, program_of, rw_name, settled, skipped, wait_name}
use Rattle.lk_core.proofs.Names.{is_try, program_at, way_after, Change, Done, Enters, Freed, Goes}
use Rattle.lk_core.proofs.Names.{Granted, Lead, Leaves, Missed, TakesWait, Yields, changed_all}
use Rattle.lk_core.proofs.Names.{entered, gone, moved, Frame, Pc, R4, U5, Wr2, Op, Setup, Verb}
use Rattle.lk_core.proofs.Names.{Lock, RUnlock, Read, Try, TryRead, TryWrite, Unlock, WUnlock}
use Rattle.lk_core.proofs.Names.{Write, lock_cases, held_goes, if-true, same_lock-else}
use Rattle.lk_core.proofs.Names.{same_lock-self, is_rw_row, RwPhase, is_inner, Away, BelongsTo}
use Rattle.lk_core.proofs.Names.{Footing, Owing, RwBelongs, Sharing, ShowsAll, after_wait, frees}
use Rattle.lk_core.proofs.Names.{held_at, held_in, held_of, is_over, owes_kick, world, IsSoundWorld}
use Rattle.lk_core.proofs.Names.{rw_own_phase, rw_phase_if, rw_phase_of, lead_on, led, put_frame}
use Rattle.lk_core.proofs.Names.{put_held, put_queued, World}
use Rattle.lk_rows.specs.Machine.{frame_at, queued_at, set_top, set_node}
use Rattle.lk_law.proofs.common.HeldAfter.{Stance, held_granted, held_yields, held_gives}
use Rattle.lk_law.specs.{RwPhase.RwPhase.Inside, Sound.takes_wait}
use Rattle.lk_core.proofs.Access.{top_frame-is}
use Rattle.lk_core.proofs.LeadsOut.{done_is, leave_is, left, left_ready, left_same, left_world}
use Rattle.lk_core.proofs.LeadsOut.{missed_is, rewritten}
use Rattle.lk_core.proofs.Moved.{SamePlace, SameBut, Ready, ready_nodes, ready_same}
use Rattle.lk_core.proofs.Moved.{same_changed_all, goes_shows, done_shows, missed_shows}
use Rattle.lk_core.proofs.Same.{top_same, same_set_node}
use Rattle.lk_core.proofs.Walks.{LeadFits, LeadIn, ChangesIn, NodesIn, nodes_changes, HoldsNow}
use Rattle.lk_core.proofs.Walks.{IsOuter, holds_done, holds_freed, holds_kicked}
use Rattle.lk_core.proofs.Worlds.{world-set_node, frame-set_node}

-- the frame frees a wait lock
pub record IsFreeing (f : Frame) : Type 0 where
  pub inner : is_inner (rw_phase_of f) ≡ true
  pub over : is_over f ≡ true

-- the frame g has the wait lock, and what its operation is for is done, where it is so of f
pub record SameHold (f g : Frame) : Type 0 where
  pub inner : is_inner (rw_phase_of g) ≡ is_inner (rw_phase_of f)
  pub over : is_over g ≡ is_over f

-- What a row of a spinlock or a wait lock needs of its frame: the rows of V are those of its stage,
-- where V is its verb on a spinlock, and with a wait lock `lock` where it takes it, `unlock` where
-- it frees it.
pub record IsAt (mode : Mode) (v : Verb) (f : Frame) (V : Verb) : Type 0 where
  pub stages : (g : Frame) (d : Pc) → g.lock ≡ f.lock → g.place ≡ Some d → BelongsTo mode V d
      → Footing mode v g d × SameHold f g
  pub plain : f.lock.wait ≡ false → (V ≡ v) × IsOuter f
  pub waits : f.lock.wait ≡ true → takes_wait v ≡ true
  pub locks : f.lock.wait ≡ true → ((V ≡ Lock) × IsOuter f) ⊎ ((V ≡ Unlock) × IsFreeing f)

then_stage : (mode : Mode) (v : Verb) (g : Frame) → takes_wait v ≡ true → g.lock.wait ≡ true
    → (d : Pc) × (after_wait v ≡ Some d) × Footing mode v g d × (rw_own_phase d ≡ Inside)
    × (is_rw_row d ≡ true) × (owes_kick (Some d) ≡ false)
then_stage mode Read g t q = (
  R4,
  refl,
  Sharing refl (subst (λ (b : Bool). RwBelongs Read b R4) (sym q) (inl refl)),
  refl,
  refl,
  refl,
)
then_stage mode Write g t q = (
  Wr2,
  refl,
  Sharing refl (subst (λ (b : Bool). RwBelongs Write b Wr2) (sym q) (inl refl)),
  refl,
  refl,
  refl,
)
then_stage mode Lock g t q = cc
then_stage mode Try g t q = cc
then_stage mode Unlock g t q = cc
then_stage mode TryRead g t q = cc
then_stage mode TryWrite g t q = cc
then_stage mode RUnlock g t q = cc
then_stage mode WUnlock g t q = cc

lock_name : (l : LockName) (b : Bool) → l.wait ≡ b → l ≡ record { index = l.index; wait = b }
lock_name l b e = (λ i. record { index = l.index; wait = e i })

-- a frame with the same registers of other nodes
same_nodes : (n : Machine) (p : ℕ) (f : Frame) (c : Pc) → Ready n p f c → (g : Frame)
    → g.prev ≡ f.prev → g.target ≡ f.target → NodesIn (HasNode n) g
same_nodes n p f c r g prev target = let k = ready_nodes n p f c r in
    record { prev = λ x e. k.prev x (sym prev ∙ e); target = λ x e. k.target x (sym target ∙ e) }

-- with a spinlock or a wait lock that is taken by a row of V, the frame is outside the wait lock
taken_outer : (mode : Mode) (v : Verb) (f : Frame) (V : Verb) → IsAt mode v f V
    → way_after V ≡ Some Spins → IsOuter f
taken_outer mode v f V t way = by f.lock.wait refl
  where
    by : (b : Bool) → f.lock.wait ≡ b → IsOuter f
    by false e = (t.plain e).1
    by true e = elim (t.locks e) [
      | inl x ↦ x.1
      | inr x ↦ absurd (none-some Spins (sym (ap way_after x.0) ∙ way))
    ]

module _ (n : Machine) (p : ℕ) (f : Frame) (c : Pc) (hs : LockName → LockHistory)
    (r : Ready n p f c) (V : Verb) (t : IsAt n.setup.mode r.works.op.verb f V) where
  abbrev v : Waiter
  v = top_of n p

  held_f : (l : LockName) → held_of n v l ≡ held_in (program_of n p f) f l
  held_f l = ap (held_at n v l) r.live

  -- how the frame stands
  stance : Stance f (rw_phase_of f) (is_over f) f.lock.index f.«at»
  stance = record { phase = refl; over = refl; index = refl; position = refl }

  -- the frame goes on in its operation, and holds all as before
  on_shows : (g : Frame) (d : Pc) → SamePlace f g → g.place ≡ Some d → g.lock ≡ f.lock
      → g.then ≡ f.then → NodesIn (HasNode n) g → BelongsTo n.setup.mode V d
      → IsSoundWorld (put_held (put_frame (world n) v (Some g)) v f.lock (held_of n v f.lock)) hs
      → ShowsAll (set_top n p g) hs
  on_shows g d same at lock next nodes row sound =
      let s = t.stages g d lock at row in
      goes_shows n p f c hs r g d same at (ap (λ (l : LockName). l.index) lock) s.0
      (λ q. next ∙ r.works.after (ap (λ (l : LockName). l.wait) (sym lock) ∙ q)) nodes f.lock
      (held_of n v f.lock) (each s.1) sound
    where
      each : SameHold f g → (l : LockName)
          → held_at n v l (Some g)
          ≡ (if same_lock l f.lock then held_of n v f.lock else held_of n v l)
      each o l =
          ap (λ (ops : List Op). held_in ops g l)
          (ap (λ (i : ℕ). program_at n.setup p i) same.program)
          ∙ held_goes (program_of n p f) f g {r = rw_phase_of f} {r' = rw_phase_of g}
          {v = is_over f} {v' = is_over g} {i = f.lock.index} {n = f.«at»} stance
          (record {
            phase = refl;
            over = refl;
            index = ap (λ (k : LockName). k.index) lock;
            position = same.position;
          }) o.inner o.over l ∙ sym (held_f l)
          ∙ elim (lock_cases l f.lock) [
            | inl e ↦ ap (λ (k : LockName). held_of n v k) e
                ∙ sym (ap (λ (b : Bool). if b then held_of n v f.lock else held_of n v l)
                (ap (λ (k : LockName). same_lock k f.lock) e ∙ same_lock-self f.lock))
            | inr ne ↦
                sym (ap (λ (b : Bool). if b then held_of n v f.lock else held_of n v l)
                (same_lock-else l f.lock ne))
          ]

  -- the lock is granted: the operation is done, or the frame has the wait lock
  granted_shows : (g : Frame) → g.place ≡ (if f.lock.wait then f.then else None) → SamePlace f g
      → f.me ≡ g.me → g.lock ≡ f.lock → g.then ≡ f.then → NodesIn (HasNode n) g
      → way_after V ≡ Some Spins
      → IsSoundWorld (put_held (put_frame (world n) v (Some g)) v f.lock (Some Spins)) hs
      → ShowsAll (if f.lock.wait then set_top n p g else settled n p
      (record f { «at» = f.«at» + 1 })) hs
  granted_shows g at same me lock next nodes way sound = by f.lock.wait refl
    where
      outer : IsOuter f
      outer = taken_outer n.setup.mode r.works.op.verb f V t way

      by : (b : Bool) → f.lock.wait ≡ b
          → ShowsAll (if b then set_top n p g else settled n p (record f { «at» = f.«at» + 1 })) hs
      by false e =
          let name = lock_name f.lock false e in
          done_shows n p f c hs r g (at ∙ ap (λ (b : Bool). if b then f.then else None) e) me
          (sym lock) (sym next) (rw_name f.lock.index) (Some Spins)
          (subst (λ (x : Option Manner).
          HoldsNow (program_of n p f) f (record f { «at» = f.«at» + 1 }) (rw_name f.lock.index)
          x) (ap way_after (sym (t.plain e).0) ∙ way)
          (holds_done (program_of n p f) f
          (record f { «at» = f.«at» + 1 }) r.works.op r.works.is r.works.lock outer refl))
          (subst (λ (k : LockName).
          IsSoundWorld (put_held (put_frame (world n) v (Some g)) v k (Some Spins)) hs) name sound)
      by true e =
          let name = lock_name f.lock true e in
          let wait : g.lock.wait ≡ true = ap (λ (l : LockName). l.wait) lock ∙ e in
          let x = then_stage n.setup.mode r.works.op.verb g (t.waits e) wait in
          let place : g.place ≡ Some x.0 =
          at ∙ ap (λ (b : Bool). if b then f.then else None) e ∙ r.works.after e ∙ x.1 in
          let phase : rw_phase_of g ≡ Inside =
          ap (λ (q : Option Pc). rw_phase_if q g.lock.wait) place
          ∙ if-true (is_rw_row x.0) (rw_own_phase x.0) _ x.4 ∙ x.3 in
          let over : is_over g ≡ false =
          ap (λ (q : RwPhase). frees q || owes_kick g.place) phase ∙ ap owes_kick place ∙ x.5 in
          goes_shows n p f c hs r g x.0 same place (ap (λ (l : LockName). l.index) lock) x.2
          (λ q. next ∙ r.works.after e) nodes (wait_name f.lock.index) (Some Spins)
          (λ l.
          ap (λ (ops : List Op). held_in ops g l)
          (ap (λ (i : ℕ). program_at n.setup p i) same.program)
          ∙ held_granted (program_of n p f) f g {r = rw_phase_of f} {r' = Inside} {v = is_over f}
          {v' = false} {i = f.lock.index} {n = f.«at»} stance
          (record {
            phase = phase;
            over = over;
            index = ap (λ (k : LockName). k.index) lock;
            position = same.position;
          }) outer.inner outer.over refl refl l
          ∙ ap (λ (o : Option Manner). if same_lock l (wait_name f.lock.index) then Some Spins
          else o) (sym (held_f l)))
          (subst (λ (k : LockName).
          IsSoundWorld (put_held (put_frame (world n) v (Some g)) v k (Some Spins)) hs) name sound)

granted_is : (n : Machine) (p : ℕ) (f : Frame) → frame_at n (top_of n p) ≡ Some f
    → granted n p
    ≡ (if f.lock.wait then set_top n p (record f { place = f.then }) else settled n p
    (record f { «at» = f.«at» + 1 }))
granted_is n p f live =
    ap (λ (x : Frame).
    if x.lock.wait then set_top n p (record x { place = x.then }) else settled n p
    (record x { «at» = x.«at» + 1 })) (top_frame-is n p f live)

pub granted_led : (n : Machine) (p : ℕ) (f : Frame) → frame_at n (top_of n p) ≡ Some f
    → granted n p
    ≡ (if f.lock.wait then set_top n p (led f Granted) else settled n p
    (record f { «at» = f.«at» + 1 }))
granted_led n p f live = granted_is n p f live ∙ by f.lock.wait
  where
    by : (b : Bool)
        → (if b then set_top n p (record f { place = f.then }) else settled n p
        (record f { «at» = f.«at» + 1 }))
        ≡ (if b then set_top n p (record f { place = if b then f.then else None })
        else settled n p (record f { «at» = f.«at» + 1 }))
    by true = refl
    by false = refl

-- the frame without its node is at work in the same way
at_left : (mode : Mode) (v : Verb) (f : Frame) (V : Verb) → IsAt mode v f V
    → IsAt mode v (record f { me = None }) V
at_left mode v f V t =
    let e : Frame = record f { me = None } in
    record {
      stages = λ g d lock place row. let s = t.stages g d lock place row in
          (s.0, record { inner = s.1.inner; over = s.1.over });
      plain = λ q. let x = t.plain q in (x.0, record { inner = x.1.inner; over = x.1.over });
      waits = t.waits;
      locks = λ q. elim (t.locks q) [
        | inl x ↦ inl (x.0, record { inner = x.1.inner; over = x.1.over })
        | inr x ↦ inr (x.0, record { inner = x.1.inner; over = x.1.over })
      ];
    }

module _ (n : Machine) (p : ℕ) (f : Frame) (c : Pc) (hs : LockName → LockHistory)
    (r : Ready n p f c) (V : Verb) (t : IsAt n.setup.mode r.works.op.verb f V) where
  abbrev u : Waiter
  u = top_of n p

  enters_shows : (me : Option NodeName) (d : Pc) → LeadFits (HasNode n) n.setup.mode V (Enters me d)
      → IsSoundWorld (lead_on (world n) u f (Enters me d)) hs
      → ShowsAll (moved n p f (Enters me d)) hs
  enters_shows None d row sound =
      on_shows n p f c hs r V t (entered f None d) d
      (record { ctx = refl; program = refl; position = refl }) refl refl refl
      (same_nodes n p f c r (entered f None d) refl refl) row sound
  enters_shows (Some a) d (row, within) sound =
      let g : Frame = entered f (Some a) d in
      let k : Machine = set_node n a rest_node in
      let same = same_set_node n a rest_node in
      let ready : Ready k p f c =
      ready_same n k p f c r same (λ u. frame-set_node n a rest_node u) in
      let P : World → Waiter → Type 0 =
      λ x u. IsSoundWorld (put_held (put_frame x u (Some g)) u f.lock (x.held u f.lock)) hs in
      let there : P (world k) u =
      subst (λ (x : World). P x u)
      (sym (world-set_node n a rest_node within (r.whole.nodes a.cpu within.cpu))) sound in
      let mode : k.setup.mode ≡ n.setup.mode = ap (λ (x : Setup). x.mode) same.keeps.setup in
      on_shows k p f c hs ready V (subst (λ (x : Mode). IsAt x r.works.op.verb f V) (sym mode) t) g
      d (record { ctx = refl; program = refl; position = refl }) refl refl refl
      (same_nodes k p f c ready g refl refl)
      (subst (λ (x : Mode). BelongsTo x V d) (sym mode) row)
      (subst (λ (u : Waiter). P (world k) u) (sym (top_same n k p same)) there)

  leaves_shows : way_after V ≡ Some Spins → IsSoundWorld (lead_on (world n) u f Leaves) hs
      → ShowsAll (granted (leave n p) p) hs
  leaves_shows way sound =
      let d : Frame = led f Leaves in
      let k : Machine = left n p f in
      let g : Frame = record f { me = None } in
      let ready : Ready k p g c = left_ready n p f c r in
      let same = left_same n p f c r in
      let P : World → Waiter → Type 0 =
      λ x u. IsSoundWorld (put_held (put_frame x u (Some d)) u f.lock (Some Spins)) hs in
      let again : put_frame (world k) u (Some d) ≡ put_frame
      (put_queued (world n) p (queued_at n p - 1)) u (Some d) =
      ap (λ (x : World). put_frame x u (Some d)) (left_world n p f c r)
      ∙ rewritten (world n) u (Some g) (Some d) p (queued_at n p - 1) in
      let there : P (world k) u =
      subst (λ (x : World). IsSoundWorld (put_held x u f.lock (Some Spins)) hs) (sym again) sound in
      let here : P (world k) (top_of k p) =
      subst (λ (u : Waiter). P (world k) u) (sym (top_same n k p same)) there in
      let mode : k.setup.mode ≡ n.setup.mode = ap (λ (x : Setup). x.mode) same.keeps.setup in
      let shown = granted_shows k p g c hs ready V
      (subst (λ (x : Mode). IsAt x r.works.op.verb g V) (sym mode)
      (at_left n.setup.mode r.works.op.verb f V t)) d refl
      (record { ctx = refl; program = refl; position = refl }) refl refl refl
      (same_nodes k p g c ready d refl refl) way here in
      subst (λ (x : Machine). ShowsAll (granted x p) hs) (sym (leave_is n p f c r))
      (subst (λ (x : Machine). ShowsAll x hs) (sym (granted_led k p g ready.live)) shown)

  abbrev h : Frame
  h = record f { «at» = f.«at» + 1 }

  abbrev ops : List Op
  ops = program_of n p f

  -- the lock is freed, and the operation is done
  freed_shows : way_after V ≡ None → IsSoundWorld (lead_on (world n) u f Freed) hs
      → ShowsAll (settled n p h) hs
  freed_shows way sound = by f.lock.wait refl
    where
      by : (b : Bool) → f.lock.wait ≡ b → ShowsAll (settled n p h) hs
      by false e =
          let x = t.plain e in
          done_shows n p f c hs r (led f Freed) refl refl refl refl (rw_name f.lock.index) None
          (subst (λ (y : Option Manner). HoldsNow ops f h (rw_name f.lock.index) y)
          (ap way_after (sym x.0) ∙ way)
          (holds_done ops f h r.works.op r.works.is r.works.lock x.1 refl))
          (subst (λ (k : LockName).
          IsSoundWorld (put_held (put_frame (world n) u (Some (led f Freed))) u k None) hs)
          (lock_name f.lock false e) sound)
      by true e = elim (t.locks e) [
        | inl x ↦ absurd (none-some Spins (sym way ∙ ap way_after x.0))
        | inr x ↦
            done_shows n p f c hs r (led f Freed) refl refl refl refl (wait_name f.lock.index) None
            (holds_freed ops f h r.works.op r.works.is r.works.lock x.1.inner x.1.over refl)
            (subst (λ (k : LockName).
            IsSoundWorld (put_held (put_frame (world n) u (Some (led f Freed))) u k None) hs)
            (lock_name f.lock true e) sound)
      ]

  -- the lock is freed, and a kick is owed
  yields_shows : (cs : List Change) → n.setup.mode ≡ Pv → V ≡ Unlock → ChangesIn (HasNode n) cs
      → IsSoundWorld (lead_on (world n) u f (Yields U5 cs)) hs
      → ShowsAll (set_top n p (gone f U5 cs)) hs
  yields_shows cs pv unlocks fits sound = by f.lock.wait refl
    where
      s : SameBut f (changed_all f cs)
      s = same_changed_all f cs

      g : Frame
      g = gone f U5 cs

      held_f : (l : LockName) → held_of n u l ≡ held_in ops f l
      held_f l = ap (held_at n u l) r.live

      stance : Stance f (rw_phase_of f) (is_over f) f.lock.index f.«at»
      stance = record { phase = refl; over = refl; index = refl; position = refl }

      away : (b : Bool) → f.lock.wait ≡ b → rw_phase_of g ≡ rw_phase_if (Some U5) b
      away b e =
          ap (λ (l : LockName). rw_phase_if (Some U5) l.wait) s.lock ∙ ap (rw_phase_if (Some U5)) e

      now : rw_phase_of g ≡ Away → Stance g Away true f.lock.index f.«at»
      now phase = record {
        phase = phase;
        over = ap (λ (q : RwPhase). frees q || true) phase;
        index = ap (λ (l : LockName). l.index) s.lock;
        position = s.position;
      }

      goes : (k : LockName)
          → ((l : LockName) → held_in ops g l ≡ (if same_lock l k then None else held_in ops f l))
          → (f.lock.wait ≡ false → r.works.op.verb ≡ Unlock) → f.lock ≡ k
          → ShowsAll (set_top n p g) hs
      goes k each plain name =
          let wait = ap (λ (l : LockName). l.wait) s.lock in
          goes_shows n p f c hs r g U5
          (record { ctx = s.ctx; program = s.program; position = s.position }) refl
          (ap (λ (l : LockName). l.index) s.lock)
          (Owing pv refl (λ q. plain (sym wait ∙ q)) (λ q. t.waits (sym wait ∙ q)))
          (λ q. s.next ∙ r.works.after (sym wait ∙ q))
          (record { prev = nodes.prev; target = nodes.target }) k None
          (λ l. ap (λ (os : List Op). held_in os g l)
          (ap (λ (i : ℕ). program_at n.setup p i) s.program) ∙ each l
          ∙ ap (λ (o : Option Manner). if same_lock l k then None else o) (sym (held_f l)))
          (subst (λ (j : LockName).
          IsSoundWorld (put_held (put_frame (world n) u (Some g)) u j None) hs) name sound)
        where
          nodes : NodesIn (HasNode n) (changed_all f cs)
          nodes = nodes_changes (HasNode n) f cs fits (ready_nodes n p f c r)

      by : (b : Bool) → f.lock.wait ≡ b → ShowsAll (set_top n p g) hs
      by false e =
          let x = t.plain e in
          let verb : r.works.op.verb ≡ Unlock = sym x.0 ∙ unlocks in
          goes (rw_name f.lock.index)
          (λ l. held_yields ops f g {r = rw_phase_of f} {r' = Away} {v = is_over f} {v' = true}
          {i = f.lock.index} {n = f.«at»} stance r.works.op r.works.is (sym r.works.lock)
          (now (away false e)) x.1.inner x.1.over refl refl l
          ∙ ap (λ (o : Option Manner). if same_lock l (rw_name f.lock.index) then o
          else held_in ops f l) (ap way_after verb))
          (λ q. verb) (lock_name f.lock false e)
      by true e = elim (t.locks e) [
        | inl x ↦ absurd (let z = ap way_after (sym x.0 ∙ unlocks) in none-some Spins (sym z))
        | inr x ↦
            goes (wait_name f.lock.index)
            (λ l. held_gives ops f g {r = rw_phase_of f} {r' = Away} {v = is_over f} {v' = true}
            {i = f.lock.index} {n = f.«at»} stance (now (away true e)) x.1.inner x.1.over refl
            refl l)
            (λ q. absurd (grind (arith, q, e))) (lock_name f.lock true e)
      ]

  -- the try has failed
  missed_by : is_try V ≡ true → IsSoundWorld (lead_on (world n) u f Missed) hs
      → ShowsAll (settled n p (record f { «at» = f.«at» + skipped n p f })) hs
  missed_by tries sound = by f.lock.wait refl
    where
      by : (b : Bool) → f.lock.wait ≡ b
          → ShowsAll (settled n p (record f { «at» = f.«at» + skipped n p f })) hs
      by false e =
          let x = t.plain e in
          missed_shows n p f c hs r (led f Missed) refl refl refl refl x.1
          (subst (λ (y : Verb). is_try y ≡ true) x.0 tries)
          (subst (λ (k : LockName).
          IsSoundWorld
          (put_held (put_frame (world n) u (Some (led f Missed))) u k (held_of n u k)) hs)
          (lock_name f.lock false e) sound)
      by true e = elim (t.locks e) [
        | inl x ↦ absurd (let z = ap is_try x.0 in grind (arith, z, tries))
        | inr x ↦ absurd (let z = ap is_try x.0 in grind (arith, z, tries))
      ]

  pub moved_shows : (lead : Lead) → LeadFits (HasNode n) n.setup.mode V lead
      → LeadIn (HasNode n) lead → IsSoundWorld (lead_on (world n) u f lead) hs
      → ShowsAll (moved n p f lead) hs
  moved_shows (Goes d cs) row fits sound =
      let s = same_changed_all f cs in
      let nodes = nodes_changes (HasNode n) f cs fits (ready_nodes n p f c r) in
      on_shows n p f c hs r V t (gone f d cs) d
      (record { ctx = s.ctx; program = s.program; position = s.position }) refl s.lock s.next
      (record { prev = nodes.prev; target = nodes.target }) row sound
  moved_shows (Enters me d) row fits sound = enters_shows me d row sound
  moved_shows Granted way fits sound =
      subst (λ (x : Machine). ShowsAll x hs) (sym (granted_led n p f r.live))
      (granted_shows n p f c hs r V t (led f Granted) refl
      (record { ctx = refl; program = refl; position = refl }) refl refl refl
      (same_nodes n p f c r (led f Granted) refl refl) way sound)
  moved_shows Freed way fits sound =
      subst (λ (x : Machine). ShowsAll x hs) (sym (done_is n p f r.live)) (freed_shows way sound)
  moved_shows Missed tries fits sound =
      subst (λ (x : Machine). ShowsAll x hs) (sym (missed_is n p f r.live)) (missed_by tries sound)
  moved_shows Leaves way fits sound = leaves_shows way sound
  moved_shows Done fits nodes sound = absurd fits
  moved_shows (Yields d cs) (pv, unlocks, is) fits sound =
      let P : Pc → Type 0 = λ x. IsSoundWorld (lead_on (world n) u f (Yields x cs)) hs in
      subst (λ (x : Pc). ShowsAll (set_top n p (gone f x cs)) hs) (sym is)
      (yields_shows cs pv unlocks fits (subst P is sound))
  moved_shows (TakesWait d) fits nodes sound = absurd fits

-- The kick that was owed is made, and with it the operation is done.
pub kicked_shows : (n : Machine) (p : ℕ) (f : Frame) (c : Pc) (hs : LockName → LockHistory)
    (r : Ready n p f c)
    → is_inner (rw_phase_of f) ≡ false → is_over f ≡ true
    → (f.lock.wait ≡ false → r.works.op.verb ≡ Unlock)
    → IsSoundWorld (lead_on (world n) (top_of n p) f Freed) hs → ShowsAll (moved n p f Freed) hs
kicked_shows n p f c hs r inner over plain sound =
    subst (λ (x : Machine). ShowsAll x hs) (sym (done_is n p f r.live))
    (done_shows n p f c hs r (led f Freed) refl refl refl refl f.lock None
    (holds_kicked (program_of n p f) f (record f { «at» = f.«at» + 1 }) r.works.op r.works.is
    r.works.lock inner over (λ e. ap way_after (plain e)) refl) sound)
