-- The rows of readers and writers on a machine: what they store, and where they lead.
use Rattle.std.proofs.Common.{◌≡◌, inl, inr, ℕ, Option, Some, None, Bool, true, false, List, []}
use Rattle.std.proofs.Common.{◌<◌, ◌+◌, arith, ap, refl, sym, ◌∙◌, subst, length, length-set}
use Rattle.std.proofs.Common.{if◌then◌else◌, ◌==◌, ◌||◌, slice_index_or}
use Rattle.lk_core.proofs.Names.{cases_eq, eq-eqb, ne_eqb, RwFields, NodeName, LockHistory}
use Rattle.lk_core.proofs.Names.{same_lock, Manner, Spin, LockName, Mode, Cna, Native, Pv, Virt}
use Rattle.lk_core.proofs.Names.{Waiter, HasNode, LockState, Machine, top_of, first_place}
use Rattle.lk_core.proofs.Names.{program_of, rw_name, waiting, is_try, way_after, Done, Effect}
use Rattle.lk_core.proofs.Names.{Goes, Lead, Missed, TakesWait, moved, stored_rw, Frame, Pc, F1, R1}
use Rattle.lk_core.proofs.Names.{R2, R4, R5, U5, Wr1, Wr2, Wr3, Wr6, Y1, Y2, Y4, Y5, Op, Setup}
use Rattle.lk_core.proofs.Names.{Verb, Lock, RUnlock, Read, Try, TryRead, TryWrite, Unlock, WUnlock}
use Rattle.lk_core.proofs.Names.{Write, is_cleared, is_empty, is_open, rw_row, lock_cases}
use Rattle.lk_core.proofs.Names.{held_goes, if-true, same_lock-else, same_lock-self, is_rw_row}
use Rattle.lk_core.proofs.Names.{RwPhase, is_inner, Asks, BelongsTo, Freeing, RwBelongs, Sharing}
use Rattle.lk_core.proofs.Names.{ShowsAll, Waiting, after_wait, frees, held_at, held_in, held_of}
use Rattle.lk_core.proofs.Names.{is_lock_row, is_over, owes_kick, world, IsSoundWorld, rw_own_phase}
use Rattle.lk_core.proofs.Names.{rw_phase_if, rw_phase_of, led, put_frame, put_held, stores_rw}
use Rattle.lk_names.specs.declared.events.What.TheVariants.{Miss}
use Rattle.lk_rows.specs.Machine.{cpu_at, lock_at, word_at, rw_at, node_at, frame_at, queued_at}
use Rattle.lk_rows.specs.Machine.{entry_at, kicked_at, halted_at, handlers_at, depth_at, set_lock}
use Rattle.lk_rows.specs.{Machine.set_rw, Row.{looks, writes, misses}}
use Rattle.lk_rows.specs.declared.parts.Pc.TheVariants.{R3, Wr4, Wr5, Y3, Z1, Z2}
use Rattle.lk_rows.specs.rows.Rw.{one_more, rw_lock, admits, takes_written, queues_up, frees_wait}
use Rattle.lk_rows.specs.rows.Rw.{after_bias}
use Rattle.lk_law.proofs.{common.HeldAfter.{Stance, held_frees}, common.Puts.if_cases}
use Rattle.lk_law.specs.{Families.is_release_row, RwPhase.RwPhase.Frees, Sound.takes_wait}
use Rattle.lk_law.specs.Steps.{put_rw, way_told}
use Rattle.lk_core.proofs.{Access.{lock_part, lock_same, lock_other}, LeadsOut.{done_is, missed_is}}
use Rattle.lk_core.proofs.Moved.{Ready, ready_nodes, goes_shows, done_shows, missed_shows}
use Rattle.lk_core.proofs.{Same.{KeepsFrames, same_self}, Seated.alike, Stores.Stored}
use Rattle.lk_core.proofs.Walks.{IsOuter, NodesIn, holds_done}
use Rattle.lk_names.specs.declared.events.RwHow.TheVariants as how

-- what a store of a reader-writer lock's word does to the world

rw_changed : (m : Machine) (i : ℕ) (x : RwFields) → i < length m.locks → (k : ℕ)
    → rw_at (set_rw m i x) k ≡ (if k == i then x else rw_at m k)
unfolding rw_at set_rw
rw_changed m i x lt k =
    elim (cases_eq k i) [
      | inl e ↦
          let P : ℕ → Type 0 =
          λ j. (lock_at (set_lock m i (record (lock_at m i) { rw = x })) j).rw
          ≡ (if j == i then x else (lock_at m j).rw) in
          subst P (sym e)
          (ap (λ (y : LockState). y.rw) (lock_same m i (record (lock_at m i) { rw = x }) lt)
          ∙ sym (ap (λ (b : Bool). if b then x else (lock_at m i).rw) (eq-eqb i i refl)))
      | inr ne ↦ ap (λ (y : LockState). y.rw)
          (lock_other m i k (record (lock_at m i) { rw = x }) ne)
          ∙ sym (ap (λ (b : Bool). if b then x else (lock_at m k).rw) (ne_eqb k i ne))
    ]

word-set_rw : (m : Machine) (i : ℕ) (x : RwFields) (l : LockName)
    → word_at (set_rw m i x) l ≡ word_at m l
unfolding word_at set_rw
word-set_rw m i x l =
    lock_part (λ (y : LockState). if l.wait then y.wait else y.spin) m i
    (record (lock_at m i) { rw = x }) refl l.index

held-set_rw : (m : Machine) (i : ℕ) (x : RwFields) (u : Waiter) (l : LockName) (o : Option Frame)
    → held_at (set_rw m i x) u l o ≡ held_at m u l o
unfolding set_rw set_lock
held-set_rw m i x u l None = refl
held-set_rw m i x u l (Some d) = refl

frame-set_rw : (m : Machine) (i : ℕ) (x : RwFields) (u : Waiter)
    → frame_at (set_rw m i x) u ≡ frame_at m u
unfolding frame_at cpu_at set_rw set_lock
frame-set_rw m i x u = refl

node-set_rw : (m : Machine) (i : ℕ) (x : RwFields) (n : NodeName)
    → node_at (set_rw m i x) n ≡ node_at m n
unfolding node_at cpu_at set_rw set_lock
node-set_rw m i x n = refl

queued-set_rw : (m : Machine) (i : ℕ) (x : RwFields) (p : ℕ)
    → queued_at (set_rw m i x) p ≡ queued_at m p
unfolding queued_at cpu_at set_rw set_lock
queued-set_rw m i x p = refl

setup-set_rw : (m : Machine) (i : ℕ) (x : RwFields) → (set_rw m i x).setup ≡ m.setup
unfolding set_rw set_lock
setup-set_rw m i x = refl

entry-set_rw : (m : Machine) (i : ℕ) (x : RwFields) (k : LockName)
    → entry_at (set_rw m i x) k ≡ entry_at m k
unfolding entry_at set_rw set_lock
entry-set_rw m i x k = refl

halted-set_rw : (m : Machine) (i : ℕ) (x : RwFields) (q : ℕ)
    → halted_at (set_rw m i x) q ≡ halted_at m q
unfolding halted_at cpu_at set_rw set_lock
halted-set_rw m i x q = refl

kicked-set_rw : (m : Machine) (i : ℕ) (x : RwFields) (q : ℕ)
    → kicked_at (set_rw m i x) q ≡ kicked_at m q
unfolding kicked_at cpu_at set_rw set_lock
kicked-set_rw m i x q = refl

world-set_rw : (m : Machine) (i : ℕ) (x : RwFields) → i < length m.locks
    → world (set_rw m i x) ≡ put_rw (world m) i x
world-set_rw m i x lt =
    alike (world (set_rw m i x)) (put_rw (world m) i x) (record {
      mode = ap (λ (s : Setup). s.mode) (setup-set_rw m i x);
      turns = ap (λ (s : Setup). s.spins) (setup-set_rw m i x);
      threshold = ap (λ (s : Setup). s.threshold) (setup-set_rw m i x);
      format = ap (λ (s : Setup). s.format) (setup-set_rw m i x);
      sockets = ap (λ (s : Setup). s.topology.sockets.items) (setup-set_rw m i x);
      entry = λ k. entry-set_rw m i x k;
      halted = λ q. halted-set_rw m i x q;
      kicked = λ q. kicked-set_rw m i x q;
      word = λ l. word-set_rw m i x l;
      node = λ n. node-set_rw m i x n;
      frame = λ u. frame-set_rw m i x u;
      held = λ u k. held-set_rw m i x u k (frame_at (set_rw m i x) u)
          ∙ ap (held_at m u k) (frame-set_rw m i x u);
      queued = λ p. queued-set_rw m i x p;
      rw = λ k. rw_changed m i x lt k;
      kind = λ k. ap (λ (s : Setup). slice_index_or s.locks.items k Spin) (setup-set_rw m i x);
    })

same_set_rw : (m : Machine) (i : ℕ) (x : RwFields) → KeepsFrames m (set_rw m i x)
unfolding set_rw set_lock cpu_at handlers_at depth_at
same_set_rw m i x =
    record {
      keeps = record {
        setup = refl;
        locks = length-set m.locks i (record (lock_at m i) { rw = x });
        cpus = refl;
        nodes = λ p. refl;
        handlers = λ p. omega arith;
        hash = λ once. once;
      };
      depth = λ p. refl;
      handlers = λ p. refl;
    }

pub rw_stored : (m : Machine) (i : ℕ) (o : Option RwFields) → i < length m.locks
    → Stored m (stored_rw m i o) (stores_rw (world m) i o)
rw_stored m i None lt = record { same = same_self m; frames = λ u. refl; world = refl }
rw_stored m i (Some x) lt = record {
  same = same_set_rw m i x;
  frames = λ u. frame-set_rw m i x u;
  world = world-set_rw m i x lt;
}

-- Where a row of a reader or a writer leads, by its frame's verb and place, and how its waiter
-- holds the lock after it: on to a row where it has the wait lock as before; to free the wait lock,
-- with the lock taken; the operation is done; the try has failed; to take the wait lock.
pub data RwLead (mode : Mode) (v : Verb) (f : Frame) (c : Pc) (had : Option Manner) : Lead
    → Option Manner → Type 0 where
  OnTo : (d : Pc) → is_rw_row d ≡ true → RwBelongs v f.lock.wait d
      → is_inner (rw_own_phase d) ≡ is_inner (rw_own_phase c)
      → RwLead mode v f c had (Goes d []) had
  ToFree : f.lock.wait ≡ true → takes_wait v ≡ true → is_inner (rw_own_phase c) ≡ true
      → RwLead mode v f c had (Goes (first_place mode Unlock) []) (way_after v)
  Ends : is_inner (rw_own_phase c) ≡ false → RwLead mode v f c had Done (way_after v)
  Fails : is_inner (rw_own_phase c) ≡ false → is_try v ≡ true → RwLead mode v f c had Missed had
  ToWait : (d : Pc) → is_inner (rw_own_phase c) ≡ false → takes_wait v ≡ true
      → after_wait v ≡ Some d → RwLead mode v f c had (TakesWait d) had

own_not_free : (c : Pc) → frees (rw_own_phase c) ≡ false
own_not_free R1 = refl
own_not_free R2 = refl
own_not_free R3 = refl
own_not_free R4 = refl
own_not_free R5 = refl
own_not_free Wr1 = refl
own_not_free Wr2 = refl
own_not_free Wr3 = refl
own_not_free Wr4 = refl
own_not_free Wr5 = refl
own_not_free Wr6 = refl
own_not_free Y1 = refl
own_not_free Y2 = refl
own_not_free Y3 = refl
own_not_free Y4 = refl
own_not_free Y5 = refl
own_not_free Z1 = refl
own_not_free Z2 = refl
own_not_free _ = refl

pub own_not_owing : (c : Pc) → is_rw_row c ≡ true → owes_kick (Some c) ≡ false
own_not_owing U5 e = cc
own_not_owing _ e = refl

-- the row at which a wait lock begins to be freed
frees_by : (mode : Mode)
    → (rw_phase_if (Some (first_place mode Unlock)) true ≡ Frees)
    × (is_rw_row (first_place mode Unlock) ≡ false)
    × (is_release_row (first_place mode Unlock) ≡ true)
    × BelongsTo mode Unlock (first_place mode Unlock)
frees_by Virt = (refl, refl, refl, refl)
frees_by Native = (refl, refl, refl, refl)
frees_by Cna = (refl, refl, refl, refl)
frees_by Pv = (refl, refl, refl, inl refl)

lock_begins : (mode : Mode) → is_lock_row mode F1 ≡ true
lock_begins Virt = refl
lock_begins Native = refl
lock_begins Cna = refl
lock_begins Pv = refl

module _ (n : Machine) (p : ℕ) (f : Frame) (c : Pc) (hs : LockName → LockHistory)
    (r : Ready n p f c) (row : is_rw_row c ≡ true) (place : f.place ≡ Some c) where
  abbrev u : Waiter
  u = top_of n p

  abbrev ops : List Op
  ops = program_of n p f

  held_f : (l : LockName) → held_of n u l ≡ held_in ops f l
  held_f l = ap (held_at n u l) r.live

  phase : rw_phase_of f ≡ rw_own_phase c
  phase = ap (λ (d : Option Pc). rw_phase_if d f.lock.wait) place
      ∙ if-true (is_rw_row c) (rw_own_phase c) _ row

  -- a frame at such a row has not done what its operation is for
  not_over : (g : Frame) (d : Pc) → g.place ≡ Some d → is_rw_row d ≡ true
      → rw_phase_of g ≡ rw_own_phase d → is_over g ≡ false
  not_over g d at to now =
      ap (λ (x : RwPhase). frees x || owes_kick g.place) now
      ∙ ap (λ (b : Bool). b || owes_kick g.place) (own_not_free d) ∙ ap owes_kick at
      ∙ own_not_owing d to

  off : is_over f ≡ false
  off = not_over f c place row phase

  outer : is_inner (rw_own_phase c) ≡ false → IsOuter f
  outer e = record { inner = ap is_inner phase ∙ e; over = off }

  stance : Stance f (rw_phase_of f) (is_over f) f.lock.index f.«at»
  stance = record { phase = refl; over = refl; index = refl; position = refl }

  -- the frame, at another place
  placed : (o : Option Pc) → NodesIn (HasNode n) (record f { place = o })
  placed o = let k = ready_nodes n p f c r in record { prev = k.prev; target = k.target }

  -- all is held as before
  same_each : (g : Frame) (k : LockName) → ((l : LockName) → held_in ops g l ≡ held_in ops f l)
      → (l : LockName) → held_in ops g l ≡ (if same_lock l k then held_of n u k else held_of n u l)
  same_each g k each l =
      each l ∙ sym (held_f l) ∙ elim (lock_cases l k) [
        | inl e ↦ ap (λ (j : LockName). held_of n u j) e
            ∙ sym (ap (λ (b : Bool). if b then held_of n u k else held_of n u l)
            (ap (λ (j : LockName). same_lock j k) e ∙ same_lock-self k))
        | inr ne ↦
            sym (ap (λ (b : Bool). if b then held_of n u k else held_of n u l)
            (same_lock-else l k ne))
      ]

  pub rw_moved_shows : (lead : Lead) (way : Option Manner)
      → RwLead n.setup.mode r.works.op.verb f c (held_of n u (rw_name f.lock.index)) lead way
      → IsSoundWorld
      (put_held (put_frame (world n) u (Some (led f lead))) u (rw_name f.lock.index) way) hs
      → ShowsAll (moved n p f lead) hs
  rw_moved_shows _ _ (OnTo d to belongs inner) sound =
      let g : Frame = record f { place = Some d } in
      let now : rw_phase_of g ≡ rw_own_phase d = if-true (is_rw_row d) (rw_own_phase d) _ to in
      goes_shows n p f c hs r g d (record { ctx = refl; program = refl; position = refl }) refl refl
      (Sharing to belongs) r.works.after (placed (Some d)) (rw_name f.lock.index)
      (held_of n u (rw_name f.lock.index))
      (same_each g (rw_name f.lock.index)
      (held_goes ops f g {r = rw_phase_of f} {r' = rw_own_phase d} {v = is_over f} {v' = false}
      {i = f.lock.index} {n = f.«at»} stance
      (record { phase = now; over = not_over g d refl to now; index = refl; position = refl })
      (inner ∙ sym (ap is_inner phase)) (sym off))) sound
  rw_moved_shows _ _ (ToFree wait takes inner) sound =
      let d : Pc = first_place n.setup.mode Unlock in
      let by = frees_by n.setup.mode in
      let g : Frame = record f { place = Some d } in
      let now : rw_phase_of g ≡ Frees = ap (λ (b : Bool). rw_phase_if (Some d) b) wait ∙ by.0 in
      goes_shows n p f c hs r g d (record { ctx = refl; program = refl; position = refl }) refl refl
      (Freeing wait by.1 by.2 takes by.3) r.works.after (placed (Some d)) (rw_name f.lock.index)
      (way_after r.works.op.verb)
      (λ l. held_frees ops f g {r = rw_phase_of f} {r' = Frees} {v = is_over f} {v' = true}
      {i = f.lock.index} {n = f.«at»} stance r.works.op r.works.is (sym r.works.lock)
      (record {
        phase = now;
        over = ap (λ (x : RwPhase). frees x || owes_kick (Some d)) now;
        index = refl;
        position = refl;
      })
      (ap is_inner phase ∙ inner) off refl refl l
      ∙ ap (λ (o : Option Manner).
      if same_lock l (rw_name f.lock.index) then way_after r.works.op.verb else o)
      (sym (held_f l))) sound
  rw_moved_shows _ _ (Ends out) sound =
      subst (λ (x : Machine). ShowsAll x hs) (sym (done_is n p f r.live))
      (done_shows n p f c hs r (led f Done) refl refl refl refl (rw_name f.lock.index)
      (way_after r.works.op.verb)
      (holds_done ops f (record f { «at» = f.«at» + 1 }) r.works.op r.works.is r.works.lock
      (outer out) refl) sound)
  rw_moved_shows _ _ (Fails out tries) sound =
      subst (λ (x : Machine). ShowsAll x hs) (sym (missed_is n p f r.live))
      (missed_shows n p f c hs r (led f Missed) refl refl refl refl (outer out) tries sound)
  rw_moved_shows _ _ (ToWait d out takes after) sound =
      let g : Frame = waiting f d in
      goes_shows n p f c hs r g F1 (record { ctx = refl; program = refl; position = refl }) refl
      refl (Waiting refl refl refl takes (lock_begins n.setup.mode)) (λ q. sym after)
      (record { prev = (placed None).prev; target = (placed None).target })
      (rw_name f.lock.index) (held_of n u (rw_name f.lock.index))
      (same_each g (rw_name f.lock.index)
      (held_goes ops f g {r = rw_phase_of f} {r' = Asks} {v = is_over f} {v' = false}
      {i = f.lock.index} {n = f.«at»} stance
      (record { phase = refl; over = refl; index = refl; position = refl })
      (sym (ap is_inner phase ∙ out)) (sym off))) sound

-- Each row leads so.
module _ (mode : Mode) (f : Frame) (x : RwFields) (had : Option Manner) where
  -- what the row at c does with this outcome
  abbrev Leads : Verb → Pc → Effect RwFields → Type 0
  Leads v c o = RwLead mode v f c had o.leads (way_told o.tells had)

  abbrev LeadsAt : Verb → Pc → Type 0
  LeadsAt v c = Leads v c (rw_row mode c f x)

  on : (v : Verb) (c d : Pc) (b : Bool) → f.lock.wait ≡ b → is_rw_row d ≡ true → RwBelongs v b d
      → is_inner (rw_own_phase d) ≡ is_inner (rw_own_phase c)
      → RwLead mode v f c had (Goes d []) had
  on v c d b wait row belongs inner =
      OnTo d row (subst (λ (t : Bool). RwBelongs v t d) (sym wait) belongs) inner

  free : (v : Verb) (c : Pc) → f.lock.wait ≡ true → takes_wait v ≡ true
      → is_inner (rw_own_phase c) ≡ true → RwLead mode v f c had (frees_wait mode) (way_after v)
  free v c wait takes inner = ToFree wait takes inner

  read_out : f.lock.wait ≡ false → (c : Pc) → RwBelongs Read false c → LeadsAt Read c
  read_out w c (inl e) =
      subst (LeadsAt Read) (sym e)
      (if_cases (Leads Read R1) (is_open x) (admits f (Some (one_more x)) how.Fast Done)
      (writes (one_more x) (after_bias f)) (λ q. Ends refl)
      (λ q. if_cases (λ (d : Pc). RwLead mode Read f R1 had (Goes d []) had) (f.ctx == 0) R3 R2
      (λ z. on Read R1 R3 false w refl (inr (inr refl)) refl)
      (λ z. on Read R1 R2 false w refl (inr (inl refl)) refl)))
  read_out w c (inr (inl e)) =
      subst (LeadsAt Read) (sym e)
      (if_cases (Leads Read R2) x.writer (looks R2) (admits f None how.Irq Done)
      (λ q. on Read R2 R2 false w refl (inr (inl refl)) refl) (λ q. Ends refl))
  read_out w c (inr (inr e)) = subst (LeadsAt Read) (sym e) (ToWait R4 refl refl refl)

  read_in : f.lock.wait ≡ true → (c : Pc) → RwBelongs Read true c → LeadsAt Read c
  read_in w c (inl e) = subst (LeadsAt Read) (sym e) (on Read R4 R5 true w refl (inr refl) refl)
  read_in w c (inr e) =
      subst (LeadsAt Read) (sym e)
      (if_cases (Leads Read R5) x.writer (looks R5) (admits f None how.Queued (frees_wait mode))
      (λ q. on Read R5 R5 true w refl (inr refl) refl) (λ q. free Read R5 w refl refl))

  write_out : (c : Pc) → RwBelongs Write false c → LeadsAt Write c
  write_out c e =
      subst (LeadsAt Write) (sym e)
      (if_cases (Leads Write Wr1) (is_empty x) (takes_written f how.Fast Done) (queues_up None Wr2)
      (λ q. Ends refl) (λ q. ToWait Wr2 refl refl refl))

  write_in : f.lock.wait ≡ true → (c : Pc) → RwBelongs Write true c → LeadsAt Write c
  write_in w c (inl e) =
      subst (LeadsAt Write) (sym e)
      (if_cases (λ (d : Pc). RwLead mode Write f Wr2 had (Goes d []) had) (is_empty x) Wr3 Wr4
      (λ q. on Write Wr2 Wr3 true w refl (inr (inl refl)) refl)
      (λ q. on Write Wr2 Wr4 true w refl (inr (inr (inl refl))) refl))
  write_in w c (inr (inl e)) =
      subst (LeadsAt Write) (sym e)
      (if_cases (Leads Write Wr3) (is_empty x) (takes_written f how.Queued (frees_wait mode))
      (looks Wr4) (λ q. free Write Wr3 w refl refl)
      (λ q. on Write Wr3 Wr4 true w refl (inr (inr (inl refl))) refl))
  write_in w c (inr (inr (inl e))) =
      subst (LeadsAt Write) (sym e) (on Write Wr4 Wr5 true w refl (inr (inr (inr (inl refl)))) refl)
  write_in w c (inr (inr (inr (inl e)))) =
      subst (LeadsAt Write) (sym e)
      (if_cases (λ (d : Pc). RwLead mode Write f Wr5 had (Goes d []) had) (is_cleared x) Wr6 Wr5
      (λ q. on Write Wr5 Wr6 true w refl (inr (inr (inr (inr refl)))) refl)
      (λ q. on Write Wr5 Wr5 true w refl (inr (inr (inr (inl refl)))) refl))
  write_in w c (inr (inr (inr (inr e)))) =
      subst (LeadsAt Write) (sym e)
      (if_cases (Leads Write Wr6) (is_cleared x) (takes_written f how.Queued (frees_wait mode))
      (looks Wr5) (λ q. free Write Wr6 w refl refl)
      (λ q. on Write Wr6 Wr5 true w refl (inr (inr (inr (inl refl)))) refl))

  try_read : f.lock.wait ≡ false → (c : Pc) → RwBelongs TryRead false c → LeadsAt TryRead c
  try_read w c (inl e) =
      subst (LeadsAt TryRead) (sym e)
      (if_cases (Leads TryRead Y1) (is_open x) (looks Y2) (misses (Miss (rw_lock f)))
      (λ q. on TryRead Y1 Y2 false w refl (inr (inl refl)) refl) (λ q. Fails refl refl))
  try_read w c (inr (inl e)) =
      subst (LeadsAt TryRead) (sym e)
      (if_cases (Leads TryRead Y2) (is_open x) (admits f (Some (one_more x)) how.Try Done)
      (writes (one_more x) Y3) (λ q. Ends refl)
      (λ q. on TryRead Y2 Y3 false w refl (inr (inr refl)) refl))
  try_read w c (inr (inr e)) = subst (LeadsAt TryRead) (sym e) (Fails refl refl)

  try_write : f.lock.wait ≡ false → (c : Pc) → RwBelongs TryWrite false c → LeadsAt TryWrite c
  try_write w c (inl e) =
      subst (LeadsAt TryWrite) (sym e)
      (if_cases (Leads TryWrite Y4) (is_empty x) (looks Y5) (misses (Miss (rw_lock f)))
      (λ q. on TryWrite Y4 Y5 false w refl (inr refl) refl) (λ q. Fails refl refl))
  try_write w c (inr e) =
      subst (LeadsAt TryWrite) (sym e)
      (if_cases (Leads TryWrite Y5) (is_empty x) (takes_written f how.Try Done)
      (misses (Miss (rw_lock f))) (λ q. Ends refl) (λ q. Fails refl refl))

  pub rw_leads : (v : Verb) (b : Bool) → f.lock.wait ≡ b → (c : Pc) → RwBelongs v b c → LeadsAt v c
  rw_leads Read false w c at = read_out w c at
  rw_leads Read true w c at = read_in w c at
  rw_leads Write false w c at = write_out c at
  rw_leads Write true w c at = write_in w c at
  rw_leads TryRead false w c at = try_read w c at
  rw_leads TryWrite false w c at = try_write w c at
  rw_leads RUnlock false w c at = subst (LeadsAt RUnlock) (sym at) (Ends refl)
  rw_leads WUnlock false w c at = subst (LeadsAt WUnlock) (sym at) (Ends refl)
  rw_leads TryRead true w c at = absurd at
  rw_leads TryWrite true w c at = absurd at
  rw_leads RUnlock true w c at = absurd at
  rw_leads WUnlock true w c at = absurd at
  rw_leads Lock b w c at = absurd at
  rw_leads Try b w c at = absurd at
  rw_leads Unlock b w c at = absurd at
