-- What a row of a machine does to its words and frames: as the row of its world does, and then the
-- frame goes on to its next operation, if its own has ended.
use Rattle.std.proofs.Common.{◌≡◌, ◌≢◌, ◌⊎◌, inl, inr, ℕ, ◌<◌, ◌+◌, Option, Some, None, Bool, true}
use Rattle.std.proofs.Common.{false, refl, sym, ap, ◌∙◌, subst, arith, List, [], ◌∷◌, slice_get}
use Rattle.std.proofs.Common.{zero, suc, get_or, set, if◌then◌else◌, ◌==◌}
use Rattle.lk_progress.proofs.Names.{NodeName, same_waiter, LockName, Mode, Waiter, CpuState}
use Rattle.lk_progress.proofs.Names.{HasTop, Machine, halted_at, handlers_at, kicked_at, no_cpu}
use Rattle.lk_progress.proofs.Names.{rw_at, top_of, word_at, program_of, settled, started, Done}
use Rattle.lk_progress.proofs.Names.{Enters, Freed, Goes, Granted, Lead, Leaves, Missed, TakesWait}
use Rattle.lk_progress.proofs.Names.{Yields, gone, moved, Frame, Node, Pc, Op, is_set, IsThen}
use Rattle.lk_progress.proofs.Names.{world, led, World, same_changed_all, has_top_same}
use Rattle.lk_progress.proofs.Names.{same_set_top, seated, world-set_top}
use Rattle.lk_rows.specs.Machine.{frame_at, set_top, set_node, pop, rest_node, cpu_at, node_at}
use Rattle.lk_rows.specs.{Machine.set_cpu, Moves.{settled_at, granted, skipped, waiting}}
use Rattle.lk_rows.specs.Row.{entered, changed_all}
use Rattle.lk_core.proofs.Leads.{granted_led}
use Rattle.lk_core.proofs.LeadsOut.{done_is, missed_is, left, left_world, left_frames, left_same}
use Rattle.lk_core.proofs.{LeadsOut.{left_ready, leave_is}, Moved.Ready}
use Rattle.lk_core.proofs.Same.{top_same, same_set_node, handlers_pop}
use Rattle.lk_core.proofs.Seated.{world-pop, word-set_cpu, rw-set_cpu}
use Rattle.lk_core.proofs.Worlds.{frame-set_node, kicked-set_node, halted-set_node}

-- one frame changes, and no word
pub record Follows (n k : Machine) (w : Waiter) (o : Option Frame) : Type 0 where
  pub word : (l : LockName) → word_at k l ≡ word_at n l
  pub rw : (i : ℕ) → rw_at k i ≡ rw_at n i
  pub frame : (u : Waiter) → frame_at k u ≡ (if same_waiter u w then o else frame_at n u)
  pub handlers : (q : ℕ) → handlers_at k q ≡ handlers_at n q
  pub flags : (x : NodeName) → is_set (node_at k x).flag ≡ true → is_set (node_at n x).flag ≡ true
  pub kicked : (q : ℕ) → kicked_at k q ≡ kicked_at n q
  pub halted : (q : ℕ) → halted_at k q ≡ halted_at n q

-- how a frame goes on that has ended an operation, as h: it is popped, or finished, or begins the next
-- operation
abbrev pub Settles : Mode → Frame → Option Frame → Type 0
Settles mode h o = (o ≡ None)
    ⊎ ((o ≡ Some (record h { place = None })) × (h.ctx == 0 ≡ true))
    ⊎ ((v : Op) × (o ≡ Some (started mode h v)))

pub record Settled (n : Machine) (p : ℕ) (h : Frame) (k : Machine) : Type 0 where
  pub now : Option Frame
  pub follows : Follows n k (top_of n p) now
  pub settles : Settles n.setup.mode h now

by_world : (n k : Machine) (w : Waiter) (o : Option Frame) → world k ≡ seated n w o
    → ((q : ℕ) → handlers_at k q ≡ handlers_at n q) → Follows n k w o
by_world n k w o e same =
    record {
      handlers = same;
      word = λ l. ap (λ (x : World). x.word l) e;
      rw = λ i. ap (λ (x : World). x.rw i) e;
      frame = λ u. ap (λ (x : World). x.frame u) e;
      flags = λ x h. ap (λ (y : World). is_set (y.node x).flag) (sym e) ∙ h;
      kicked = λ q. ap (λ (y : World). y.kicked q) e;
      halted = λ q. ap (λ (y : World). y.halted q) e;
    }

pub settled_is : (n : Machine) (p : ℕ) (h : Frame) → HasTop n p → Settled n p h (settled n p h)
settled_is n p h top = by (slice_get (program_of n p h) h.«at»)
  where
    at_end : (b : Bool) → h.ctx == 0 ≡ b
        → Settled n p h (if b then set_top n p (record h { place = None }) else pop n p)
    at_end true e =
        record {
          now = Some (record h { place = None });
          follows = by_world n (set_top n p (record h { place = None })) (top_of n p) (Some (record h { place = None })) (world-set_top n p (record h { place = None }) top) (same_set_top n p (record h { place = None })).handlers;
          settles = inr (inl (refl, e));
        }
    at_end false e =
        record {
          now = None;
          follows = by_world n (pop n p) (top_of n p) None (world-pop n p top) (handlers_pop n p);
          settles = inl refl;
        }

    by : (o : Option Op) → Settled n p h (settled_at n p h o)
    by None = at_end (h.ctx == 0) refl
    by (Some v) =
        record {
          now = Some (started n.setup.mode h v);
          follows = by_world n (set_top n p (started n.setup.mode h v)) (top_of n p) (Some (started n.setup.mode h v)) (world-set_top n p (started n.setup.mode h v) top) (same_set_top n p (started n.setup.mode h v)).handlers;
          settles = inr (inr (v, refl));
        }

-- How the top frame goes on after a lead: where it leads, or on in its program.
abbrev pub Turned : Mode → Frame → Frame → Option Frame → Type 0
Turned mode f d o = ((o ≡ Some d) × (d.program ≡ f.program) × (d.ctx ≡ f.ctx) × (d.place ≢ None))
    ⊎ ((d.place ≡ None) × ((h : Frame) × (h.program ≡ f.program) × (h.ctx ≡ f.ctx) × (f.«at» < h.«at»)
    × Settles mode h o × (h.left ≡ f.left)))

pub record Moves (n : Machine) (w : Waiter) (f d : Frame) (k : Machine) : Type 0 where
  pub now : Option Frame
  pub follows : Follows n k w now
  pub turned : Turned n.setup.mode f d now

set_is : (n : Machine) (p : ℕ) (f d : Frame) → HasTop n p → d.program ≡ f.program → d.ctx ≡ f.ctx
    → d.place ≢ None → Moves n (top_of n p) f d (set_top n p d)
set_is n p f d top a b c =
    record {
      now = Some d;
      follows = by_world n (set_top n p d) (top_of n p) (Some d) (world-set_top n p d top) (same_set_top n p d).handlers;
      turned = inl (refl, a, b, c);
    }

settles_is : (n : Machine) (p : ℕ) (f d h : Frame) → HasTop n p → d.place ≡ None → h.program ≡ f.program
    → h.ctx ≡ f.ctx → f.«at» < h.«at» → h.left ≡ f.left → Moves n (top_of n p) f d (settled n p h)
settles_is n p f d h top e a b lt left =
    let s = settled_is n p h top in
    record { now = s.now; follows = s.follows; turned = inr (e, (h, a, b, lt, s.settles, left)) }

then_some : (f : Frame) → IsThen f.then → f.then ≢ None
then_some f (inl e) z = let y = sym e ∙ z in cc y
then_some f (inr e) z = let y = sym e ∙ z in cc y

goes_program : (f : Frame) (c : Pc) (cs : List Rattle.lk_rows.specs.Row.Change) → ((gone f c cs).program ≡ f.program) × ((gone f c cs).ctx ≡ f.ctx)
goes_program f c cs = let s = same_changed_all f cs in (s.program, s.ctx)

-- the lock is granted
granted_moves : (n : Machine) (p : ℕ) (f : Frame) (c : Pc) → Ready n p f c → (f.lock.wait ≡ true → IsThen f.then)
    → Moves n (top_of n p) f (led f Granted) (granted n p)
granted_moves n p f c r inner =
    subst (λ (x : Machine). Moves n (top_of n p) f (led f Granted) x) (sym (granted_led n p f r.live)) (by f.lock.wait refl)
  where
    top : HasTop n p
    top = r.whole.tops p r.range

    by : (b : Bool) → f.lock.wait ≡ b
        → Moves n (top_of n p) f (led f Granted)
        (if b then set_top n p (led f Granted) else settled n p (record f { «at» = f.«at» + 1 }))
    by true e = set_is n p f (led f Granted) top refl refl
        (λ z. then_some f (inner e) (ap (λ (b : Bool). if b then f.then else None) (sym e) ∙ z))
    by false e = settles_is n p f (led f Granted) (record f { «at» = f.«at» + 1 }) top
        (ap (λ (b : Bool). if b then f.then else None) e) refl refl (omega arith) refl

word-set_node : (m : Machine) (n : NodeName) (x : Node) (l : LockName) → word_at (set_node m n x) l ≡ word_at m l
unfolding set_node
word-set_node m n x l =
    word-set_cpu m n.cpu (record (cpu_at m n.cpu) { nodes = Rattle.std.specs.Prelude.slice_set (cpu_at m n.cpu).nodes n.index x }) l

pub rw-set_node : (m : Machine) (n : NodeName) (x : Node) (i : ℕ) → rw_at (set_node m n x) i ≡ rw_at m i
unfolding set_node
rw-set_node m n x i =
    rw-set_cpu m n.cpu (record (cpu_at m n.cpu) { nodes = Rattle.std.specs.Prelude.slice_set (cpu_at m n.cpu).nodes n.index x }) i

-- which flags are set after a store into a node: its own, or one that was
abbrev IsFlagged : Node → Type 0
IsFlagged x = is_set x.flag ≡ true

node_list : (xs : List Node) (i j : ℕ) (y : Node) → IsFlagged (get_or (set xs i y) j rest_node)
    → ((i ≡ j) × IsFlagged y) ⊎ ((i ≢ j) × IsFlagged (get_or xs j rest_node))
node_list [] i j y h = cc h
node_list (z ∷ zs) zero zero y h = inl (refl, h)
node_list (z ∷ zs) zero (suc j) y h = inr (λ e. omega (arith, e), h)
node_list (z ∷ zs) (suc i) zero y h = inr (λ e. omega (arith, e), h)
node_list (z ∷ zs) (suc i) (suc j) y h = elim (node_list zs i j y h) [
  | inl q ↦ inl (ap suc q.0, q.1)
  | inr q ↦ inr (λ e. q.0 (let z : i ≡ j = omega (arith, e) in z), q.1)
]

cpu_list : (P : CpuState → Type 0) → (P no_cpu → ⊥) → (xs : List CpuState) (p q : ℕ) (c : CpuState)
    → P (get_or (set xs p c) q no_cpu) → ((p ≡ q) × P c) ⊎ ((p ≢ q) × P (get_or xs q no_cpu))
cpu_list P none [] p q c h = absurd (none h)
cpu_list P none (y ∷ ys) zero zero c h = inl (refl, h)
cpu_list P none (y ∷ ys) zero (suc q) c h = inr (λ e. omega (arith, e), h)
cpu_list P none (y ∷ ys) (suc p) zero c h = inr (λ e. omega (arith, e), h)
cpu_list P none (y ∷ ys) (suc p) (suc q) c h = elim (cpu_list P none ys p q c h) [
  | inl z ↦ inl (ap suc z.0, z.1)
  | inr z ↦ inr (λ e. z.0 (let y : p ≡ q = omega (arith, e) in y), z.1)
]

pub flags-set_node : (m : Machine) (n k : NodeName) (y : Node) → IsFlagged (node_at (set_node m n y) k)
    → ((k ≡ n) × IsFlagged y) ⊎ ((k ≢ n) × IsFlagged (node_at m k))
unfolding set_node set_cpu cpu_at node_at
flags-set_node m n k y h =
    elim (cpu_list (λ (c : CpuState). IsFlagged (get_or c.nodes k.index rest_node)) (λ z. cc z) m.cpus n.cpu k.cpu
    (record (cpu_at m n.cpu) { nodes = set (cpu_at m n.cpu).nodes n.index y }) h) [
      | inr z ↦ inr (λ e. z.0 (ap (λ (i : NodeName). i.cpu) (sym e)), z.1)
      | inl z ↦ elim (node_list (cpu_at m n.cpu).nodes n.index k.index y z.1) [
        | inl q ↦ inl (λ i. record { cpu = sym z.0 i; index = sym q.0 i }, q.1)
        | inr q ↦ inr (
          λ e. q.0 (ap (λ (i : NodeName). i.index) (sym e)),
          subst (λ (p : ℕ). IsFlagged (get_or (cpu_at m p).nodes k.index rest_node)) z.0 q.1,
        )
      ]
    ]

flags-reset : (m : Machine) (n k : NodeName) → IsFlagged (node_at (set_node m n rest_node) k) → IsFlagged (node_at m k)
flags-reset m n k h = elim (flags-set_node m n k rest_node h) [ inl z ↦ (let y = z.1 in cc y) | inr z ↦ z.1 ]

-- the frame goes where its row leads
pub moved_is : (n : Machine) (p : ℕ) (f : Frame) (c : Pc) → Ready n p f c → (f.lock.wait ≡ true → IsThen f.then)
    → (lead : Lead) → Moves n (top_of n p) f (led f lead) (moved n p f lead)
moved_is n p f c r inner (Goes d cs) =
    let s = goes_program f d cs in
    set_is n p f (gone f d cs) (r.whole.tops p r.range) s.0 s.1 (λ z. cc z)
moved_is n p f c r inner (Enters None d) = set_is n p f (entered f None d) (r.whole.tops p r.range) refl refl (λ z. cc z)
moved_is n p f c r inner (Enters (Some a) d) =
    let k : Machine = set_node n a rest_node in
    let g : Frame = entered f (Some a) d in
    let same = same_set_node n a rest_node in
    let top : HasTop k p = has_top_same n k p same (r.whole.tops p r.range) in
    let z : Moves k (top_of k p) f g (set_top k p g) = set_is k p f g top refl refl (λ z. cc z) in
    let y : Moves k (top_of n p) f g (set_top k p g) =
    subst (λ (u : Waiter). Moves k u f g (set_top k p g)) (top_same n k p same) z in
    record {
      now = y.now;
      follows = record {
        handlers = λ q. y.follows.handlers q ∙ same.handlers q;
        word = λ l. y.follows.word l ∙ word-set_node n a rest_node l;
        rw = λ i. y.follows.rw i ∙ rw-set_node n a rest_node i;
        frame = λ u. y.follows.frame u ∙ ap (λ (o : Option Frame). if same_waiter u (top_of n p) then y.now else o) (frame-set_node n a rest_node u);
        flags = λ x h. flags-reset n a x (y.follows.flags x h);
        kicked = λ q. y.follows.kicked q ∙ kicked-set_node n a rest_node q;
        halted = λ q. y.follows.halted q ∙ halted-set_node n a rest_node q;
      };
      turned = subst (λ (mode : Mode). Turned mode f g y.now) (ap (λ (s : Rattle.lk_rows.specs.declared.setup.Setup.Setup). s.mode) same.keeps.setup) y.turned;
    }
moved_is n p f c r inner Granted = granted_moves n p f c r inner
moved_is n p f c r inner Freed =
    subst (λ (x : Machine). Moves n (top_of n p) f (led f Freed) x) (sym (done_is n p f r.live))
    (settles_is n p f (led f Freed) (record f { «at» = f.«at» + 1 }) (r.whole.tops p r.range) refl refl refl (omega arith) refl)
moved_is n p f c r inner Missed =
    subst (λ (x : Machine). Moves n (top_of n p) f (led f Missed) x) (sym (missed_is n p f r.live))
    (settles_is n p f (led f Missed) (record f { «at» = f.«at» + skipped n p f }) (r.whole.tops p r.range) refl refl refl (omega arith) refl)
moved_is n p f c r inner Done =
    subst (λ (x : Machine). Moves n (top_of n p) f (led f Done) x) (sym (done_is n p f r.live))
    (settles_is n p f (led f Done) (record f { «at» = f.«at» + 1 }) (r.whole.tops p r.range) refl refl refl (omega arith) refl)
moved_is n p f c r inner (TakesWait d) = set_is n p f (waiting f d) (r.whole.tops p r.range) refl refl (λ z. cc z)
moved_is n p f c r inner Leaves =
    let k : Machine = left n p f in
    let e : Frame = record f { me = None } in
    let same = left_same n p f c r in
    let z : Moves k (top_of k p) e (led e Granted) (granted k p) = granted_moves k p e c (left_ready n p f c r) inner in
    let y : Moves k (top_of n p) e (led f Leaves) (granted k p) =
    subst (λ (u : Waiter). Moves k u e (led f Leaves) (granted k p)) (top_same n k p same) z in
    subst (λ (x : Machine). Moves n (top_of n p) f (led f Leaves) (granted x p)) (sym (leave_is n p f c r))
    (record {
      now = y.now;
      follows = record {
        handlers = λ q. y.follows.handlers q ∙ same.handlers q;
        word = λ l. y.follows.word l ∙ ap (λ (x : World). x.word l) (left_world n p f c r);
        rw = λ i. y.follows.rw i ∙ ap (λ (x : World). x.rw i) (left_world n p f c r);
        frame = λ u. y.follows.frame u
            ∙ ap (λ (o : Option Frame). if same_waiter u (top_of n p) then y.now else o) (left_frames n p f c r u)
            ∙ twice (same_waiter u (top_of n p)) y.now (Some e) (frame_at n u);
        flags = λ x h. ap (λ (z : World). is_set (z.node x).flag) (sym (left_world n p f c r)) ∙ y.follows.flags x h;
        kicked = λ q. y.follows.kicked q ∙ ap (λ (z : World). z.kicked q) (left_world n p f c r);
        halted = λ q. y.follows.halted q ∙ ap (λ (z : World). z.halted q) (left_world n p f c r);
      };
      turned = subst (λ (mode : Mode). Turned mode f (led f Leaves) y.now) (ap (λ (s : Rattle.lk_rows.specs.declared.setup.Setup.Setup). s.mode) same.keeps.setup) y.turned;
    })
  where
    twice : (b : Bool) (x y z : Option Frame) → (if b then x else (if b then y else z)) ≡ (if b then x else z)
    twice true x y z = refl
    twice false x y z = refl
moved_is n p f c r inner (Yields d cs) =
    let s = goes_program f d cs in
    set_is n p f (gone f d cs) (r.whole.tops p r.range) s.0 s.1 (λ z. cc z)
