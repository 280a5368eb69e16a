-- What the writes of rows and acts leave of a machine: its setup, and how much of everything there
-- is. So a whole machine stays whole, and frames that fit go on to fit.
use Rattle.std.proofs.Common.{◌≡◌, ◌≢◌, ℕ, Option, Some, None, Bool, List, [], ◌∷◌, ◌++◌, inl, inr}
use Rattle.std.proofs.Common.{arith, ap, ◌<◌, ◌≤◌, ◌+◌, ◌-◌, refl, sym, ◌∙◌, subst, length, set}
use Rattle.std.proofs.Common.{take, if◌then◌else◌}
use Rattle.std.proofs.lemmas.List.{length-set, length_push, length-take-le}
use Rattle.lk_core.proofs.Names.{cases_eq, Fields, NodeName, LockName, Waiter, CpuState, HasNode}
use Rattle.lk_core.proofs.Names.{HasTop, Machine, top_of, with_entry, without_entry, handlers_of}
use Rattle.lk_core.proofs.Names.{program_at, Counts, Frame, Node, Setup, Fits, IsEnteredOnce}
use Rattle.lk_core.proofs.Names.{IsWhole, Works}
use Rattle.lk_rows.specs.Machine.{cpu_at, lock_at, depth_at, handlers_at, set_halted, set_kicked}
use Rattle.lk_rows.specs.Machine.{set_entry, set_cpu, set_lock, set_counts, set_word, set_node}
use Rattle.lk_rows.specs.Machine.{set_top, set_queued, set_preempted, pop, push}
use Rattle.lk_rows.specs.Programs.{IsLawfulSetup}
use Rattle.lk_core.proofs.Access.{cpu_same, cpu_other, cpu_part}
use Rattle.lk_core.proofs.{Entries.{Entry, once_without, once_with}, Worlds.hashing}

-- the setup is kept, and how much there is; no handler comes back; and each lock is entered once
-- still
pub record Keeps (m n : Machine) : Type 0 where
  pub setup : n.setup ≡ m.setup
  pub locks : length n.locks ≡ length m.locks
  pub cpus : length n.cpus ≡ length m.cpus
  pub nodes : (p : ℕ) → length (cpu_at n p).nodes ≡ length (cpu_at m p).nodes
  pub handlers : (p : ℕ) → handlers_at m p ≤ handlers_at n p
  pub hash : IsEnteredOnce m.hash → IsEnteredOnce n.hash

-- and no frame comes or goes
pub record KeepsFrames (m n : Machine) : Type 0 where
  pub keeps : Keeps m n
  pub depth : (p : ℕ) → depth_at n p ≡ depth_at m p
  pub handlers : (p : ℕ) → handlers_at n p ≡ handlers_at m p

pub keeps_then : (a b c : Machine) → Keeps a b → Keeps b c → Keeps a c
keeps_then a b c s t =
    record {
      setup = t.setup ∙ s.setup;
      locks = t.locks ∙ s.locks;
      cpus = t.cpus ∙ s.cpus;
      nodes = λ p. t.nodes p ∙ s.nodes p;
      handlers = λ p. let x = s.handlers p in let y = t.handlers p in omega arith;
      hash = λ once. t.hash (s.hash once);
    }

pub same_then : (a b c : Machine) → KeepsFrames a b → KeepsFrames b c → KeepsFrames a c
same_then a b c s t =
    record {
      keeps = keeps_then a b c s.keeps t.keeps;
      depth = λ p. t.depth p ∙ s.depth p;
      handlers = λ p. t.handlers p ∙ s.handlers p;
    }

pub same_self : (m : Machine) → KeepsFrames m m
same_self m =
    record {
      keeps = record {
        setup = refl;
        locks = refl;
        cpus = refl;
        nodes = λ p. refl;
        handlers = λ p. omega arith;
        hash = λ once. once;
      };
      depth = λ p. refl;
      handlers = λ p. refl;
    }

-- the top is the same
pub top_same : (m n : Machine) (p : ℕ) → KeepsFrames m n → top_of n p ≡ top_of m p
top_same m n p s = (λ i. record { cpu = p; ctx = s.depth p i - 1 })

pub has_top_same : (m n : Machine) (p : ℕ) → KeepsFrames m n → HasTop m p → HasTop n p
has_top_same m n p s top =
    record {
      in_range = rw s.keeps.cpus top.in_range;
      some = rw (s.depth p) top.some;
      few = rw (s.depth p) top.few;
    }

-- a machine stays whole, where each processor has a top and uses no more handlers than there are
pub whole_kept : (m n : Machine) → IsWhole m → Keeps m n
    → ((p : ℕ) → p < length m.cpus → HasTop n p)
    → ((p : ℕ) → handlers_at n p ≤ handlers_of m.setup p) → IsWhole n
whole_kept m n w k tops handlers =
    record {
      setup = subst (λ (s : Setup). IsLawfulSetup s) (sym k.setup) w.setup;
      locks = k.locks ∙ w.locks ∙ ap (λ (s : Setup). length s.locks.items) (sym k.setup);
      cpus = k.cpus ∙ w.cpus ∙ ap (λ (s : Setup). length s.topology.sockets.items) (sym k.setup);
      nodes = λ p lt. k.nodes p ∙ w.nodes p (rw k.cpus at lt);
      tops = λ p lt. tops p (rw k.cpus at lt);
      handlers =
          λ p. subst (λ (s : Setup). handlers_at n p ≤ handlers_of s p) (sym k.setup) (handlers p);
      hash = k.hash w.hash;
    }

pub whole_same : (m n : Machine) → IsWhole m → KeepsFrames m n → IsWhole n
whole_same m n w s =
    whole_kept m n w s.keeps (λ p lt. has_top_same m n p s (w.tops p lt))
    (λ p. rw (s.handlers p) (w.handlers p))

-- a node of the machine stays one
pub node_kept : (m n : Machine) (x : NodeName) → Keeps m n → HasNode m x → HasNode n x
node_kept m n x k has = record { cpu = rw k.cpus has.cpu; index = has.index }

-- a frame goes on to fit
pub fits_kept : (m n : Machine) (u : Waiter) (f : Frame) → Keeps m n → Fits m u f → Fits n u f
fits_kept m n u f k fits =
    record {
      ctx = fits.ctx;
      program = (
        fits.program.0,
        λ lt.
            let r = fits.program.1 lt in let h = k.handlers u.cpu in (r.0, omega (arith, r.1, h)),
      );
      within =
          subst (λ (s : Setup). f.«at» ≤ length (program_at s u.cpu f.program))
          (sym k.setup) fits.within;
      finished = λ e.
          subst (λ (s : Setup). f.«at» ≡ length (program_at s u.cpu f.program)) (sym k.setup)
          (fits.finished e);
      working = λ c e.
          subst (λ (s : Setup). Works s.mode (program_at s u.cpu f.program) f c) (sym k.setup)
          (fits.working c e);
      prev = λ x e. node_kept m n x k (fits.prev x e);
      target = λ x e. node_kept m n x k (fits.target x e);
    }

-- a record of a processor that has as many frames, and as many handlers left
pub record AsMany (old new : CpuState) : Type 0 where
  pub nodes : length new.nodes ≡ length old.nodes
  pub frames : length new.frames ≡ length old.frames
  pub handlers : new.handlers ≡ old.handlers

setup-set_cpu : (m : Machine) (p : ℕ) (c : CpuState) → (set_cpu m p c).setup ≡ m.setup
unfolding set_cpu
setup-set_cpu m p c = refl

locks-set_cpu : (m : Machine) (p : ℕ) (c : CpuState) → length (set_cpu m p c).locks ≡ length m.locks
unfolding set_cpu
locks-set_cpu m p c = refl

cpus-set_cpu : (m : Machine) (p : ℕ) (c : CpuState) → length (set_cpu m p c).cpus ≡ length m.cpus
unfolding set_cpu
cpus-set_cpu m p c = length-set m.cpus p c

hash-set_cpu : (m : Machine) (p : ℕ) (c : CpuState) → IsEnteredOnce m.hash
    → IsEnteredOnce (set_cpu m p c).hash
unfolding set_cpu
hash-set_cpu m p c once = once

same_set_cpu : (m : Machine) (p : ℕ) (c : CpuState) → AsMany (cpu_at m p) c
    → KeepsFrames m (set_cpu m p c)
unfolding handlers_at depth_at
same_set_cpu m p c a =
    let handlers : (q : ℕ) → handlers_at (set_cpu m p c) q ≡ handlers_at m q =
    cpu_part (λ (d : CpuState). d.handlers) m p c a.handlers in
    record {
      keeps = record {
        setup = setup-set_cpu m p c;
        locks = locks-set_cpu m p c;
        cpus = cpus-set_cpu m p c;
        nodes = cpu_part (λ (d : CpuState). length d.nodes) m p c a.nodes;
        handlers = λ q. let e = handlers q in omega arith;
        hash = hash-set_cpu m p c;
      };
      depth = cpu_part (λ (d : CpuState). length d.frames) m p c a.frames;
      handlers = handlers;
    }

pub same_set_top : (m : Machine) (p : ℕ) (g : Frame) → KeepsFrames m (set_top m p g)
unfolding set_top
same_set_top m p g =
    same_set_cpu m p (record (cpu_at m p) { frames = set (cpu_at m p).frames (depth_at m p - 1) g })
    (record {
      nodes = refl;
      frames = length-set (cpu_at m p).frames (depth_at m p - 1) g;
      handlers = refl;
    })

pub same_set_node : (m : Machine) (n : NodeName) (x : Node) → KeepsFrames m (set_node m n x)
unfolding set_node
same_set_node m n x =
    same_set_cpu m n.cpu (record (cpu_at m n.cpu) { nodes = set (cpu_at m n.cpu).nodes n.index x })
    (record {
      nodes = length-set (cpu_at m n.cpu).nodes n.index x;
      frames = refl;
      handlers = refl;
    })

pub same_set_queued : (m : Machine) (p n : ℕ) → KeepsFrames m (set_queued m p n)
unfolding set_queued
same_set_queued m p n =
    same_set_cpu m p (record (cpu_at m p) { queued = n })
    (record { nodes = refl; frames = refl; handlers = refl })

pub same_set_preempted : (m : Machine) (p : ℕ) (b : Bool) → KeepsFrames m (set_preempted m p b)
unfolding set_preempted
same_set_preempted m p b =
    same_set_cpu m p (record (cpu_at m p) { preempted = b })
    (record { nodes = refl; frames = refl; handlers = refl })

pub same_set_halted : (m : Machine) (p : ℕ) (b : Bool) → KeepsFrames m (set_halted m p b)
unfolding set_halted
same_set_halted m p b =
    same_set_cpu m p (record (cpu_at m p) { halted = b })
    (record { nodes = refl; frames = refl; handlers = refl })

pub same_set_kicked : (m : Machine) (p : ℕ) (b : Bool) → KeepsFrames m (set_kicked m p b)
unfolding set_kicked
same_set_kicked m p b =
    same_set_cpu m p (record (cpu_at m p) { kicked = b })
    (record { nodes = refl; frames = refl; handlers = refl })

same_hashing : (m : Machine) (es : List Entry) → (IsEnteredOnce m.hash → IsEnteredOnce es)
    → KeepsFrames m (hashing m es)
unfolding cpu_at handlers_at depth_at
same_hashing m es once =
    record {
      keeps = record {
        setup = refl;
        locks = refl;
        cpus = refl;
        nodes = λ p. refl;
        handlers = λ p. omega arith;
        hash = once;
      };
      depth = λ p. refl;
      handlers = λ p. refl;
    }

pub same_set_entry : (m : Machine) (l : LockName) (x : Option NodeName)
    → KeepsFrames m (set_entry m l x)
unfolding set_entry
same_set_entry m l None = same_hashing m (without_entry l m.hash) (once_without l m.hash)
same_set_entry m l (Some n) =
    same_hashing m (with_entry l n (without_entry l m.hash)) (once_with l n m.hash)

pub same_set_word : (m : Machine) (l : LockName) (x : Fields) → KeepsFrames m (set_word m l x)
unfolding set_word set_lock cpu_at handlers_at depth_at
same_set_word m l x =
    record {
      keeps = record {
        setup = refl;
        locks = length-set m.locks l.index
            (if l.wait then record (lock_at m l.index) {
              wait =
                  x;
            } else record (lock_at m l.index) { spin = x });
        cpus = refl;
        nodes = λ p. refl;
        handlers = λ p. omega arith;
        hash = λ once. once;
      };
      depth = λ p. refl;
      handlers = λ p. refl;
    }

pub same_set_counts : (m : Machine) (x : Counts) → KeepsFrames m (set_counts m x)
unfolding set_counts cpu_at handlers_at depth_at
same_set_counts m x =
    record {
      keeps = record {
        setup = refl;
        locks = refl;
        cpus = refl;
        nodes = λ p. refl;
        handlers = λ p. omega arith;
        hash = λ once. once;
      };
      depth = λ p. refl;
      handlers = λ p. refl;
    }

-- the top frame goes

pub keeps_pop : (m : Machine) (p : ℕ) → Keeps m (pop m p)
unfolding pop handlers_at
keeps_pop m p =
    let c : CpuState =
    record (cpu_at m p) { frames = take (depth_at m p - 1) (cpu_at m p).frames } in
    record {
      setup = setup-set_cpu m p c;
      locks = locks-set_cpu m p c;
      cpus = cpus-set_cpu m p c;
      nodes = cpu_part (λ (d : CpuState). length d.nodes) m p c refl;
      handlers = λ q.
          let e = cpu_part (λ (d : CpuState). d.handlers) m p c refl q in omega (arith, e);
      hash = hash-set_cpu m p c;
    }

pub handlers_pop : (m : Machine) (p q : ℕ) → handlers_at (pop m p) q ≡ handlers_at m q
unfolding pop handlers_at
handlers_pop m p q =
    cpu_part (λ (d : CpuState). d.handlers) m p
    (record (cpu_at m p) { frames = take (depth_at m p - 1) (cpu_at m p).frames }) refl q

depth_pop : (m : Machine) (p : ℕ) → HasTop m p → depth_at (pop m p) p ≡ depth_at m p - 1
unfolding pop depth_at
depth_pop m p top =
    let c : CpuState =
    record (cpu_at m p) { frames = take (depth_at m p - 1) (cpu_at m p).frames } in
    ap (λ (d : CpuState). length d.frames) (cpu_same m p c top.in_range)
    ∙ length-take-le (depth_at m p - 1) (cpu_at m p).frames (omega arith)

depth_pop_other : (m : Machine) (p q : ℕ) → q ≢ p → depth_at (pop m p) q ≡ depth_at m q
unfolding pop depth_at
depth_pop_other m p q ne =
    ap (λ (d : CpuState). length d.frames)
    (cpu_other m p q (record (cpu_at m p) { frames = take (depth_at m p - 1) (cpu_at m p).frames })
    ne)

-- a frame above the task's was popped: each processor has a top
pub tops_pop : (m : Machine) (p : ℕ) → HasTop m p → 0 < (top_of m p).ctx → (q : ℕ) → HasTop m q
    → HasTop (pop m p) q
tops_pop m p top above q t =
    let cpus = (keeps_pop m p).cpus in
    elim (cases_eq q p) [
      | inl e ↦
          let d = depth_pop m p top in
          subst (λ (r : ℕ). HasTop (pop m p) r) (sym e)
          (record {
            in_range = rw cpus top.in_range;
            some = omega arith;
            few = omega (arith, top.few);
          })
      | inr ne ↦ let d = depth_pop_other m p q ne in
          record { in_range = rw cpus t.in_range; some = rw d t.some; few = rw d t.few }
    ]

-- a frame comes on top

pub keeps_push : (m : Machine) (p : ℕ) (g : Frame) → p < length m.cpus → Keeps m (push m p g)
unfolding push handlers_at
keeps_push m p g lt =
    let c : CpuState = record (cpu_at m p) {
      frames = (cpu_at m p).frames ++ g ∷ [];
      handlers = (cpu_at m p).handlers + 1;
    } in
    record {
      setup = setup-set_cpu m p c;
      locks = locks-set_cpu m p c;
      cpus = cpus-set_cpu m p c;
      nodes = cpu_part (λ (d : CpuState). length d.nodes) m p c refl;
      hash = hash-set_cpu m p c;
      handlers = λ q. elim (cases_eq q p) [
        | inl e ↦ subst (λ (r : ℕ). (cpu_at m r).handlers ≤ (cpu_at (set_cpu m p c) r).handlers)
            (sym e) (let h = ap (λ (d : CpuState). d.handlers) (cpu_same m p c lt) in omega arith)
        | inr ne ↦ let h = ap (λ (d : CpuState). d.handlers) (cpu_other m p q c ne) in omega arith
      ];
    }

pub handlers_push : (m : Machine) (p : ℕ) (g : Frame) → p < length m.cpus
    → handlers_at (push m p g) p ≡ handlers_at m p + 1
unfolding push handlers_at
handlers_push m p g lt =
    ap (λ (d : CpuState). d.handlers)
    (cpu_same m p
    (record (cpu_at m p) {
      frames = (cpu_at m p).frames ++ g ∷ [];
      handlers = (cpu_at m p).handlers + 1;
    }) lt)

pub handlers_push_other : (m : Machine) (p q : ℕ) (g : Frame) → q ≢ p
    → handlers_at (push m p g) q ≡ handlers_at m q
unfolding push handlers_at
handlers_push_other m p q g ne =
    ap (λ (d : CpuState). d.handlers)
    (cpu_other m p q
    (record (cpu_at m p) {
      frames = (cpu_at m p).frames ++ g ∷ [];
      handlers = (cpu_at m p).handlers + 1;
    }) ne)

pub depth_push : (m : Machine) (p : ℕ) (g : Frame) → p < length m.cpus
    → depth_at (push m p g) p ≡ depth_at m p + 1
unfolding push depth_at
depth_push m p g lt =
    ap (λ (d : CpuState). length d.frames)
    (cpu_same m p
    (record (cpu_at m p) {
      frames = (cpu_at m p).frames ++ g ∷ [];
      handlers = (cpu_at m p).handlers + 1;
    }) lt)
    ∙ length_push (cpu_at m p).frames g

depth_push_other : (m : Machine) (p q : ℕ) (g : Frame) → q ≢ p
    → depth_at (push m p g) q ≡ depth_at m q
unfolding push depth_at
depth_push_other m p q g ne =
    ap (λ (d : CpuState). length d.frames)
    (cpu_other m p q
    (record (cpu_at m p) {
      frames = (cpu_at m p).frames ++ g ∷ [];
      handlers = (cpu_at m p).handlers + 1;
    }) ne)

pub tops_push : (m : Machine) (p : ℕ) (g : Frame) → p < length m.cpus → depth_at m p < 6 → (q : ℕ)
    → HasTop m q → HasTop (push m p g) q
tops_push m p g lt room q t =
    let cpus = (keeps_push m p g lt).cpus in
    elim (cases_eq q p) [
      | inl e ↦
          let d = depth_push m p g lt in
          subst (λ (r : ℕ). HasTop (push m p g) r) (sym e)
          (record { in_range = rw cpus lt; some = omega arith; few = omega arith })
      | inr ne ↦ let d = depth_push_other m p q g ne in
          record { in_range = rw cpus t.in_range; some = rw d t.some; few = rw d t.few }
    ]
