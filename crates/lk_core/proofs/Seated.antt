-- The world of a machine after a write that changes one frame, or nothing that the world shows.
use Rattle.std.proofs.Common.{◌≡◌, ◌≢◌, ℕ, Option, Some, None, Bool, List, [], ◌∷◌, ◌++◌, inl, inr}
use Rattle.std.proofs.Common.{arith, ap, ◌<◌, ◌+◌, ◌-◌, refl, sym, ◌∙◌, subst, slice_get, length}
use Rattle.std.proofs.Common.{get_or, set, take, if◌then◌else◌}
use Rattle.std.proofs.lemmas.Bool.{cases_order}
use Rattle.lk_core.proofs.Names.{slice_get_past, Fields, NodeName, same_waiter, LockName, Waiter}
use Rattle.lk_core.proofs.Names.{CpuState, HasTop, Machine, rest_node, top_of, Counts, Frame, Node}
use Rattle.lk_core.proofs.Names.{waiter_cases, same_waiter-else, same_waiter-self, held_at, held_of}
use Rattle.lk_core.proofs.Names.{world, put_frame, World}
use Rattle.lk_names.proofs.ByIndex.{get-append_new}
use Rattle.lk_rows.specs.Machine.{cpu_at, lock_at, word_at, rw_at, node_at, frame_at, queued_at}
use Rattle.lk_rows.specs.Machine.{entry_at, halted_at, kicked_at, depth_at, set_cpu, set_lock}
use Rattle.lk_rows.specs.Machine.{set_counts, set_word, set_top, set_preempted, pop, push}
use Rattle.lk_core.proofs.Access.{cpu_part, frame_changed}
use Rattle.lk_core.proofs.Lists.{get-set_same, get-set_other, get-take_below, get-take_end}
use Rattle.lk_core.proofs.Lists.{get-push_other}

-- two worlds agree everywhere
pub record SameWorld (a b : World) : Type 0 where
  pub mode : a.mode ≡ b.mode
  pub turns : a.turns ≡ b.turns
  pub threshold : a.threshold ≡ b.threshold
  pub format : a.format ≡ b.format
  pub sockets : a.sockets ≡ b.sockets
  pub word : (l : LockName) → a.word l ≡ b.word l
  pub node : (n : NodeName) → a.node n ≡ b.node n
  pub frame : (u : Waiter) → a.frame u ≡ b.frame u
  pub held : (u : Waiter) (l : LockName) → a.held u l ≡ b.held u l
  pub queued : (p : ℕ) → a.queued p ≡ b.queued p
  pub rw : (i : ℕ) → a.rw i ≡ b.rw i
  pub kind : (i : ℕ) → a.kind i ≡ b.kind i
  pub entry : (l : LockName) → a.entry l ≡ b.entry l
  pub halted : (p : ℕ) → a.halted p ≡ b.halted p
  pub kicked : (p : ℕ) → a.kicked p ≡ b.kicked p

pub alike : (a b : World) → SameWorld a b → a ≡ b
alike a b e =
    (λ i. record {
      mode = e.mode i;
      turns = e.turns i;
      threshold = e.threshold i;
      format = e.format i;
      sockets = e.sockets i;
      word = λ l. e.word l i;
      node = λ n. e.node n i;
      frame = λ u. e.frame u i;
      held = λ u l. e.held u l i;
      queued = λ p. e.queued p i;
      rw = λ j. e.rw j i;
      kind = λ j. e.kind j i;
      entry = λ l. e.entry l i;
      halted = λ p. e.halted p i;
      kicked = λ p. e.kicked p i;
    })

-- the world of a machine with another frame of w, which holds locks as its program does
abbrev pub seated : Machine → Waiter → Option Frame → World
seated m w o =
    record
    (put_frame
    (world m) w o) { held = λ u l. if same_waiter u w then held_at m w l o else held_of m u l }

-- what a frame holds depends on the setup alone
pub held-set_cpu : (m : Machine) (p : ℕ) (c : CpuState) (u : Waiter) (l : LockName)
    (o : Option Frame)
    → held_at (set_cpu m p c) u l o ≡ held_at m u l o
unfolding set_cpu
held-set_cpu m p c u l None = refl
held-set_cpu m p c u l (Some d) = refl

pub held-set_lock : (m : Machine) (x : Fields) (k : LockName) (u : Waiter) (l : LockName)
    (o : Option Frame)
    → held_at (set_word m k x) u l o ≡ held_at m u l o
unfolding set_word set_lock
held-set_lock m x k u l None = refl
held-set_lock m x k u l (Some d) = refl

pub held-set_counts : (m : Machine) (x : Counts) (u : Waiter) (l : LockName) (o : Option Frame)
    → held_at (set_counts m x) u l o ≡ held_at m u l o
unfolding set_counts
held-set_counts m x u l None = refl
held-set_counts m x u l (Some d) = refl

pub mode-set_cpu : (m : Machine) (p : ℕ) (c : CpuState)
    → (world (set_cpu m p c)).mode ≡ m.setup.mode
unfolding set_cpu
mode-set_cpu m p c = refl

pub turns-set_cpu : (m : Machine) (p : ℕ) (c : CpuState)
    → (world (set_cpu m p c)).turns ≡ m.setup.spins
unfolding set_cpu
turns-set_cpu m p c = refl

pub threshold-set_cpu : (m : Machine) (p : ℕ) (c : CpuState)
    → (world (set_cpu m p c)).threshold ≡ m.setup.threshold
unfolding set_cpu
threshold-set_cpu m p c = refl

pub format-set_cpu : (m : Machine) (p : ℕ) (c : CpuState)
    → (world (set_cpu m p c)).format ≡ m.setup.format
unfolding set_cpu
format-set_cpu m p c = refl

pub sockets-set_cpu : (m : Machine) (p : ℕ) (c : CpuState)
    → (world (set_cpu m p c)).sockets ≡ m.setup.topology.sockets.items
unfolding set_cpu
sockets-set_cpu m p c = refl

pub entry-set_cpu : (m : Machine) (p : ℕ) (c : CpuState) (l : LockName)
    → entry_at (set_cpu m p c) l ≡ entry_at m l
unfolding entry_at set_cpu
entry-set_cpu m p c l = refl

pub halted-set_cpu : (m : Machine) (p : ℕ) (c : CpuState) → c.halted ≡ (cpu_at m p).halted → (q : ℕ)
    → halted_at (set_cpu m p c) q ≡ halted_at m q
unfolding halted_at
halted-set_cpu m p c e q = cpu_part (λ (d : CpuState). d.halted) m p c e q

pub kicked-set_cpu : (m : Machine) (p : ℕ) (c : CpuState) → c.kicked ≡ (cpu_at m p).kicked → (q : ℕ)
    → kicked_at (set_cpu m p c) q ≡ kicked_at m q
unfolding kicked_at
kicked-set_cpu m p c e q = cpu_part (λ (d : CpuState). d.kicked) m p c e q

pub word-set_cpu : (m : Machine) (p : ℕ) (c : CpuState) (l : LockName)
    → word_at (set_cpu m p c) l ≡ word_at m l
unfolding word_at lock_at set_cpu
word-set_cpu m p c l = refl

pub rw-set_cpu : (m : Machine) (p : ℕ) (c : CpuState) (i : ℕ) → rw_at (set_cpu m p c) i ≡ rw_at m i
unfolding rw_at lock_at set_cpu
rw-set_cpu m p c i = refl

pub kind-set_cpu : (m : Machine) (p : ℕ) (c : CpuState) (i : ℕ)
    → (world (set_cpu m p c)).kind i ≡ (world m).kind i
unfolding set_cpu
kind-set_cpu m p c i = refl

pub node-set_cpu : (m : Machine) (p : ℕ) (c : CpuState) → c.nodes ≡ (cpu_at m p).nodes
    → (n : NodeName)
    → node_at (set_cpu m p c) n ≡ node_at m n
unfolding node_at
node-set_cpu m p c e n =
    cpu_part (λ (d : CpuState). get_or d.nodes n.index rest_node) m p c
    (ap (λ (ns : List Node). get_or ns n.index rest_node) e) n.cpu

pub queued-set_cpu : (m : Machine) (p : ℕ) (c : CpuState) → c.queued ≡ (cpu_at m p).queued → (q : ℕ)
    → queued_at (set_cpu m p c) q ≡ queued_at m q
unfolding queued_at
queued-set_cpu m p c e q = cpu_part (λ (d : CpuState). d.queued) m p c e q

pub frame-set_cpu : (m : Machine) (p : ℕ) (c : CpuState) → c.frames ≡ (cpu_at m p).frames
    → (u : Waiter) → frame_at (set_cpu m p c) u ≡ frame_at m u
unfolding frame_at
frame-set_cpu m p c e u =
    cpu_part (λ (d : CpuState). slice_get d.frames u.ctx) m p c
    (ap (λ (fs : List Frame). slice_get fs u.ctx) e) u.cpu

-- a write that changes nothing that the world shows
pub world-set_cpu : (m : Machine) (p : ℕ) (c : CpuState) → c.frames ≡ (cpu_at m p).frames
    → c.nodes ≡ (cpu_at m p).nodes → c.queued ≡ (cpu_at m p).queued → c.halted ≡ (cpu_at m p).halted
    → c.kicked ≡ (cpu_at m p).kicked → world (set_cpu m p c) ≡ world m
world-set_cpu m p c frames nodes queued halted kicked =
    let frame = frame-set_cpu m p c frames in
    alike (world (set_cpu m p c)) (world m) (record {
      mode = mode-set_cpu m p c;
      turns = turns-set_cpu m p c;
      threshold = threshold-set_cpu m p c;
      format = format-set_cpu m p c;
      sockets = sockets-set_cpu m p c;
      word = λ l. word-set_cpu m p c l;
      node = λ n. node-set_cpu m p c nodes n;
      frame = λ u. frame u;
      held =
          λ u l. held-set_cpu m p c u l (frame_at (set_cpu m p c) u) ∙ ap (held_at m u l) (frame u);
      queued = λ q. queued-set_cpu m p c queued q;
      rw = λ i. rw-set_cpu m p c i;
      kind = λ i. kind-set_cpu m p c i;
      entry = λ l. entry-set_cpu m p c l;
      halted = λ q. halted-set_cpu m p c halted q;
      kicked = λ q. kicked-set_cpu m p c kicked q;
    })

-- what a change of a processor's frames has to be: at one place the frame is this one, and the rest
-- stays
pub record Reseats (m : Machine) (w : Waiter) (o : Option Frame) (c : CpuState) : Type 0 where
  pub range : w.cpu < length m.cpus
  pub here : slice_get c.frames w.ctx ≡ o
  pub others : (i : ℕ) → i ≢ w.ctx → slice_get c.frames i ≡ slice_get (cpu_at m w.cpu).frames i
  pub nodes : c.nodes ≡ (cpu_at m w.cpu).nodes
  pub queued : c.queued ≡ (cpu_at m w.cpu).queued
  pub halted : c.halted ≡ (cpu_at m w.cpu).halted
  pub kicked : c.kicked ≡ (cpu_at m w.cpu).kicked

world-reseated : (m : Machine) (w : Waiter) (o : Option Frame) (c : CpuState) → Reseats m w o c
    → world (set_cpu m w.cpu c) ≡ seated m w o
world-reseated m w o c r =
    let n = set_cpu m w.cpu c in
    let frame = frame_changed m w c o r.range r.here r.others in
    alike (world n) (seated m w o) (record {
      mode = mode-set_cpu m w.cpu c;
      turns = turns-set_cpu m w.cpu c;
      threshold = threshold-set_cpu m w.cpu c;
      format = format-set_cpu m w.cpu c;
      sockets = sockets-set_cpu m w.cpu c;
      word = λ l. word-set_cpu m w.cpu c l;
      node = λ k. node-set_cpu m w.cpu c r.nodes k;
      frame = λ u. frame u;
      held = λ u l. held-set_cpu m w.cpu c u l (frame_at n u) ∙ ap (held_at m u l) (frame u)
          ∙ split u l;
      queued = λ q. queued-set_cpu m w.cpu c r.queued q;
      rw = λ i. rw-set_cpu m w.cpu c i;
      kind = λ i. kind-set_cpu m w.cpu c i;
      entry = λ l. entry-set_cpu m w.cpu c l;
      halted = λ q. halted-set_cpu m w.cpu c r.halted q;
      kicked = λ q. kicked-set_cpu m w.cpu c r.kicked q;
    })
  where
    split : (u : Waiter) (l : LockName)
        → held_at m u l (if same_waiter u w then o else frame_at m u)
        ≡ (if same_waiter u w then held_at m w l o else held_of m u l)
    split u l =
        elim (waiter_cases u w) [
          | inl e ↦
              let P : Waiter → Type 0 =
              λ v. held_at m v l (if same_waiter v w then o else frame_at m v)
              ≡ (if same_waiter v w then held_at m w l o else held_of m v l) in
              subst P (sym e) (rw (same_waiter-self w) refl)
          | inr ne ↦ rw (same_waiter-else u w ne) refl
        ]

pub world-set_top : (m : Machine) (p : ℕ) (g : Frame) → HasTop m p
    → world (set_top m p g) ≡ seated m (top_of m p) (Some g)
unfolding set_top depth_at
world-set_top m p g top =
    world-reseated m (top_of m p) (Some g)
    (record (cpu_at m p) { frames = set (cpu_at m p).frames (depth_at m p - 1) g }) (record {
      range = top.in_range;
      here = get-set_same (cpu_at m p).frames (depth_at m p - 1) g (omega (arith, top.some));
      others = λ i ne. get-set_other (cpu_at m p).frames (depth_at m p - 1) i g ne;
      nodes = refl;
      queued = refl;
      halted = refl;
      kicked = refl;
    })

pub world-pop : (m : Machine) (p : ℕ) → HasTop m p → world (pop m p) ≡ seated m (top_of m p) None
unfolding pop depth_at
world-pop m p top =
    world-reseated m (top_of m p) None
    (record (cpu_at m p) { frames = take (depth_at m p - 1) (cpu_at m p).frames }) (record {
      range = top.in_range;
      here = get-take_end (cpu_at m p).frames (depth_at m p - 1) (depth_at m p - 1) (omega arith);
      others = λ i ne. elim (cases_order i (depth_at m p - 1)) [
        | inl e ↦ absurd (ne e)
        | inr o ↦ elim o [
          | inl low ↦ get-take_below (cpu_at m p).frames (depth_at m p - 1) i low
          | inr high ↦
              get-take_end (cpu_at m p).frames (depth_at m p - 1) i (omega arith)
              ∙ sym (slice_get_past (cpu_at m p).frames i (omega (arith, top.some)))
        ]
      ];
      nodes = refl;
      queued = refl;
      halted = refl;
      kicked = refl;
    })

-- the waiter of the next context
abbrev pub next_of : Machine → ℕ → Waiter
next_of m p = record { cpu = p; ctx = depth_at m p }

pub world-push : (m : Machine) (p : ℕ) (g : Frame) → p < length m.cpus
    → world (push m p g) ≡ seated m (next_of m p) (Some g)
unfolding push depth_at
world-push m p g lt =
    world-reseated m (next_of m p) (Some g)
    (record (cpu_at m p) {
      frames = (cpu_at m p).frames ++ g ∷ [];
      handlers = (cpu_at m p).handlers + 1;
    }) (record {
      range = lt;
      here = get-append_new (cpu_at m p).frames g;
      others = λ i ne. get-push_other (cpu_at m p).frames g i ne;
      nodes = refl;
      queued = refl;
      halted = refl;
      kicked = refl;
    })

pub world-set_preempted : (m : Machine) (p : ℕ) (b : Bool) → world (set_preempted m p b) ≡ world m
unfolding set_preempted
world-set_preempted m p b =
    world-set_cpu m p (record (cpu_at m p) { preempted = b }) refl refl refl refl refl
