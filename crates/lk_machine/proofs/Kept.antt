-- What a write keeps of what the next call requires.
use Rattle.std.proofs.Common.{◌≡◌, ℕ, ◌+◌, ◌-◌, [], ◌∷◌, ◌++◌, length-append, ◌<◌, ◌≤◌, Option, Some, None, Bool, List, length, length-set, get_or, set, slice_get, arith, ap, subst, sym, refl, ◌∙◌, inl, inr}
use Rattle.std.specs.Prelude.{unwrap_or}
use Rattle.std.proofs.lemmas.Bool.{cases_eq, cases_lt}
use Rattle.std.proofs.lemmas.Option.{unwrap_or-slice_get}
use Rattle.std.proofs.lemmas.List.{get_or-set_same, get_or-set_other, set_past}
use Rattle.lk_names.specs.declared.names.LockName.{LockName}
use Rattle.lk_word.specs.declared.spin_word.NodeName.{NodeName}
use Rattle.lk_word.specs.declared.spin_word.Fields.{Fields}
use Rattle.lk_word.specs.declared.rw_word.RwFields.{RwFields}
use Rattle.lk_rows.specs.declared.parts.Counts.{Counts}
use Rattle.lk_rows.specs.declared.parts.Frame.{Frame}
use Rattle.lk_rows.specs.declared.parts.Node.{Node}
use Rattle.lk_rows.specs.declared.setup.Setup.{Setup}
use Rattle.lk_rows.specs.Machine.{Machine, CpuState, HasTop, HasNode, no_cpu, rest_frame, cpu_at, frame_at, depth_at, top_frame, set_cpu, set_lock, set_word, set_rw, set_node, set_top, set_queued, set_preempted, set_halted, set_kicked, set_entry, set_counts, push}
use Rattle.lk_rows.specs.Programs.{HasPrograms, handlers_of}
use Rattle.lk_rows.specs.Moves.{CanMove, leave}

-- What a write leaves in the processor's record is as it was in each.
cpu_part : {A : Type 0} (F : CpuState → A) (m : Machine) (p : ℕ) (c : CpuState) → F c ≡ F (cpu_at m p) → (q : ℕ) → F (cpu_at (set_cpu m p c) q) ≡ F (cpu_at m q)
unfolding cpu_at set_cpu
cpu_part F m p c e q =
    elim (cases_eq q p) [
      | inl s ↦ elim (cases_lt p (length m.cpus)) [
        | inl lt ↦ ap (λ n. F (get_or (set m.cpus p c) n no_cpu)) s ∙ ap F (get_or-set_same m.cpus p c no_cpu lt) ∙ e ∙ ap (λ n. F (get_or m.cpus n no_cpu)) (sym s)
        | inr ge ↦ ap (λ cs. F (get_or cs q no_cpu)) (set_past m.cpus p c ge)
      ]
      | inr ne ↦ ap F (get_or-set_other m.cpus p q c no_cpu ne)
    ]

-- the machine has the same setup, and as many processors with as many frames, whose top ones stand at their positions
pub record IsAlike (m n : Machine) : Type 0 where
  pub setup : n.setup ≡ m.setup
  pub cpus : length n.cpus ≡ length m.cpus
  pub depth : (q : ℕ) → depth_at n q ≡ depth_at m q
  pub program : (q : ℕ) → (top_frame n q).program ≡ (top_frame m q).program
  pub «at» : (q : ℕ) → (top_frame n q).«at» ≡ (top_frame m q).«at»

pub HasTop-IsAlike : (m n : Machine) (p : ℕ) → IsAlike m n → HasTop m p → HasTop n p
HasTop-IsAlike m n p like top = record {
  in_range = omega (arith, like.cpus);
  some = omega (arith, like.depth p);
  few = omega (arith, like.depth p);
}

pub HasNode-IsAlike : (m n : Machine) (k : NodeName) → IsAlike m n → HasNode m k → HasNode n k
HasNode-IsAlike m n k like node = record { cpu = omega (arith, like.cpus); index = node.index }

pub CanMove-IsAlike : (m n : Machine) (p : ℕ) → IsAlike m n → CanMove m p → CanMove n p
CanMove-IsAlike m n p like move =
    let P : Setup → Type 0 = λ s. HasPrograms s p in
    let Q : Setup → Type 0 = λ s. (top_frame m p).program ≤ handlers_of s p in
    record {
      top = HasTop-IsAlike m n p like move.top;
      programs = subst P (sym like.setup) move.programs;
      known = rw (like.program p) (subst Q (sym like.setup) move.known);
      short = rw (like.program p, like.setup) move.short;
      inside = rw (like.«at» p, like.program p, like.setup) move.inside;
    }

pub IsAlike-trans : {m n o : Machine} → IsAlike m n → IsAlike n o → IsAlike m o
IsAlike-trans first then = record {
  setup = then.setup ∙ first.setup;
  cpus = then.cpus ∙ first.cpus;
  depth = λ q. then.depth q ∙ first.depth q;
  program = λ q. then.program q ∙ first.program q;
  «at» = λ q. then.«at» q ∙ first.«at» q;
}

-- a write to the frames' processor that leaves them
same_frames : (m : Machine) (p : ℕ) (c : CpuState) → c.frames ≡ (cpu_at m p).frames → IsAlike m (set_cpu m p c)
unfolding set_cpu depth_at frame_at
same_frames m p c e = record {
  setup = refl;
  cpus = length-set m.cpus p c;
  depth = λ q. cpu_part (λ (d : CpuState). length d.frames) m p c (ap length e) q;
  program = λ q. cpu_part (λ (d : CpuState). (unwrap_or (slice_get d.frames (length d.frames - 1)) rest_frame).program) m p c (ap (λ (fs : List Frame). (unwrap_or (slice_get fs (length fs - 1)) rest_frame).program) e) q;
  «at» = λ q. cpu_part (λ (d : CpuState). (unwrap_or (slice_get d.frames (length d.frames - 1)) rest_frame).«at») m p c (ap (λ (fs : List Frame). (unwrap_or (slice_get fs (length fs - 1)) rest_frame).«at») e) q;
}

-- each writer

pub IsAlike-set_word : (m : Machine) (l : LockName) (x : Fields) → IsAlike m (set_word m l x)
unfolding set_word set_lock depth_at frame_at cpu_at
IsAlike-set_word m l x = record { setup = refl; cpus = refl; depth = λ q. refl; program = λ q. refl; «at» = λ q. refl }

pub IsAlike-set_rw : (m : Machine) (i : ℕ) (x : RwFields) → IsAlike m (set_rw m i x)
unfolding set_rw set_lock depth_at frame_at cpu_at
IsAlike-set_rw m i x = record { setup = refl; cpus = refl; depth = λ q. refl; program = λ q. refl; «at» = λ q. refl }

pub IsAlike-set_counts : (m : Machine) (x : Counts) → IsAlike m (set_counts m x)
unfolding set_counts depth_at frame_at cpu_at
IsAlike-set_counts m x = record { setup = refl; cpus = refl; depth = λ q. refl; program = λ q. refl; «at» = λ q. refl }

pub IsAlike-set_node : (m : Machine) (k : NodeName) (x : Node) → IsAlike m (set_node m k x)
unfolding set_node
IsAlike-set_node m k x = same_frames m k.cpu _ refl

pub IsAlike-set_queued : (m : Machine) (p n : ℕ) → IsAlike m (set_queued m p n)
unfolding set_queued
IsAlike-set_queued m p n = same_frames m p _ refl

pub IsAlike-set_preempted : (m : Machine) (p : ℕ) (b : Bool) → IsAlike m (set_preempted m p b)
unfolding set_preempted
IsAlike-set_preempted m p b = same_frames m p _ refl

pub IsAlike-set_halted : (m : Machine) (p : ℕ) (b : Bool) → IsAlike m (set_halted m p b)
unfolding set_halted
IsAlike-set_halted m p b = same_frames m p _ refl

pub IsAlike-set_kicked : (m : Machine) (p : ℕ) (b : Bool) → IsAlike m (set_kicked m p b)
unfolding set_kicked
IsAlike-set_kicked m p b = same_frames m p _ refl

pub IsAlike-set_entry : (m : Machine) (l : LockName) (n : Option NodeName) → IsAlike m (set_entry m l n)
unfolding set_entry depth_at frame_at cpu_at
IsAlike-set_entry m l None = record { setup = refl; cpus = refl; depth = λ q. refl; program = λ q. refl; «at» = λ q. refl }
IsAlike-set_entry m l (Some n) = record { setup = refl; cpus = refl; depth = λ q. refl; program = λ q. refl; «at» = λ q. refl }

depth-set_top : (m : Machine) (p : ℕ) (f : Frame) (q : ℕ) → depth_at (set_top m p f) q ≡ depth_at m q
unfolding set_top depth_at
depth-set_top m p f q = cpu_part (λ (d : CpuState). length d.frames) m p _ (length-set (cpu_at m p).frames _ f) q

-- the top frame becomes another that stands at the same position of the same program
pub IsAlike-set_top : (m : Machine) (p : ℕ) (f : Frame) → HasTop m p → f.program ≡ (top_frame m p).program → f.«at» ≡ (top_frame m p).«at» → IsAlike m (set_top m p f)
unfolding set_top set_cpu depth_at frame_at cpu_at
IsAlike-set_top m p f top same_program same_at =
    let fs : List Frame = (cpu_at m p).frames in
    let c : CpuState = record (cpu_at m p) { frames = set fs (length fs - 1) f } in
    let last : unwrap_or (slice_get c.frames (length c.frames - 1)) rest_frame ≡ f = set_last fs f top.some in
    record {
      setup = refl;
      cpus = length-set m.cpus p c;
      depth = λ q. cpu_part (λ (d : CpuState). length d.frames) m p c (length-set fs _ f) q;
      program = λ q. cpu_part (λ (d : CpuState). (unwrap_or (slice_get d.frames (length d.frames - 1)) rest_frame).program) m p c (ap (λ (g : Frame). g.program) last ∙ same_program) q;
      «at» = λ q. cpu_part (λ (d : CpuState). (unwrap_or (slice_get d.frames (length d.frames - 1)) rest_frame).«at») m p c (ap (λ (g : Frame). g.«at») last ∙ same_at) q;
    }
  where
    set_last : (fs : List Frame) (g : Frame) → 0 < length fs → unwrap_or (slice_get (set fs (length fs - 1) g) (length (set fs (length fs - 1) g) - 1)) rest_frame ≡ g
    set_last fs g some =
        let within : length fs - 1 < length fs = omega arith in
        unwrap_or-slice_get (set fs (length fs - 1) g) _ rest_frame ∙ ap (λ n. get_or (set fs (length fs - 1) g) (n - 1) rest_frame) (length-set fs _ g) ∙ get_or-set_same fs _ g rest_frame within

pub IsAlike-leave : (m : Machine) (p : ℕ) → HasTop m p → IsAlike m (leave m p)
IsAlike-leave m p top = IsAlike-trans (IsAlike-set_top m p (record (top_frame m p) { me = None }) top refl refl) (IsAlike-set_queued _ p _)

-- the setup never changes

pub setup-set_word : (m : Machine) (l : LockName) (x : Fields) → (set_word m l x).setup ≡ m.setup
unfolding set_word set_lock
setup-set_word m l x = refl

pub setup-set_rw : (m : Machine) (i : ℕ) (x : RwFields) → (set_rw m i x).setup ≡ m.setup
unfolding set_rw set_lock
setup-set_rw m i x = refl

pub setup-set_counts : (m : Machine) (x : Counts) → (set_counts m x).setup ≡ m.setup
unfolding set_counts
setup-set_counts m x = refl

pub setup-set_node : (m : Machine) (k : NodeName) (x : Node) → (set_node m k x).setup ≡ m.setup
unfolding set_node set_cpu
setup-set_node m k x = refl

pub setup-set_queued : (m : Machine) (p n : ℕ) → (set_queued m p n).setup ≡ m.setup
unfolding set_queued set_cpu
setup-set_queued m p n = refl

pub setup-set_preempted : (m : Machine) (p : ℕ) (b : Bool) → (set_preempted m p b).setup ≡ m.setup
unfolding set_preempted set_cpu
setup-set_preempted m p b = refl

pub setup-set_halted : (m : Machine) (p : ℕ) (b : Bool) → (set_halted m p b).setup ≡ m.setup
unfolding set_halted set_cpu
setup-set_halted m p b = refl

pub setup-set_kicked : (m : Machine) (p : ℕ) (b : Bool) → (set_kicked m p b).setup ≡ m.setup
unfolding set_kicked set_cpu
setup-set_kicked m p b = refl

pub setup-set_entry : (m : Machine) (l : LockName) (n : Option NodeName) → (set_entry m l n).setup ≡ m.setup
setup-set_entry m l n = (IsAlike-set_entry m l n).setup

pub setup-set_top : (m : Machine) (p : ℕ) (f : Frame) → (set_top m p f).setup ≡ m.setup
unfolding set_top set_cpu
setup-set_top m p f = refl

pub setup-leave : (m : Machine) (p : ℕ) → (leave m p).setup ≡ m.setup
unfolding set_top set_queued set_cpu
setup-leave m p = refl

-- there are as many locks

pub length-locks-set_word : (m : Machine) (l : LockName) (x : Fields) → length (set_word m l x).locks ≡ length m.locks
unfolding set_word set_lock
length-locks-set_word m l x = length-set m.locks l.index _

pub length-locks-set_rw : (m : Machine) (i : ℕ) (x : RwFields) → length (set_rw m i x).locks ≡ length m.locks
unfolding set_rw set_lock
length-locks-set_rw m i x = length-set m.locks i _

pub length-locks-set_counts : (m : Machine) (x : Counts) → length (set_counts m x).locks ≡ length m.locks
unfolding set_counts
length-locks-set_counts m x = refl

pub length-locks-set_node : (m : Machine) (k : NodeName) (x : Node) → length (set_node m k x).locks ≡ length m.locks
unfolding set_node set_cpu
length-locks-set_node m k x = refl

pub length-locks-set_queued : (m : Machine) (p n : ℕ) → length (set_queued m p n).locks ≡ length m.locks
unfolding set_queued set_cpu
length-locks-set_queued m p n = refl

pub length-locks-set_preempted : (m : Machine) (p : ℕ) (b : Bool) → length (set_preempted m p b).locks ≡ length m.locks
unfolding set_preempted set_cpu
length-locks-set_preempted m p b = refl

pub length-locks-set_halted : (m : Machine) (p : ℕ) (b : Bool) → length (set_halted m p b).locks ≡ length m.locks
unfolding set_halted set_cpu
length-locks-set_halted m p b = refl

pub length-locks-set_kicked : (m : Machine) (p : ℕ) (b : Bool) → length (set_kicked m p b).locks ≡ length m.locks
unfolding set_kicked set_cpu
length-locks-set_kicked m p b = refl

pub length-locks-set_entry : (m : Machine) (l : LockName) (n : Option NodeName) → length (set_entry m l n).locks ≡ length m.locks
unfolding set_entry
length-locks-set_entry m l None = refl
length-locks-set_entry m l (Some n) = refl

pub length-locks-set_top : (m : Machine) (p : ℕ) (f : Frame) → length (set_top m p f).locks ≡ length m.locks
unfolding set_top set_cpu
length-locks-set_top m p f = refl

pub length-locks-leave : (m : Machine) (p : ℕ) → length (leave m p).locks ≡ length m.locks
unfolding set_top set_queued set_cpu
length-locks-leave m p = refl

-- there are as many processors

pub length-cpus-set_word : (m : Machine) (l : LockName) (x : Fields) → length (set_word m l x).cpus ≡ length m.cpus
unfolding set_word set_lock
length-cpus-set_word m l x = refl

pub length-cpus-set_rw : (m : Machine) (i : ℕ) (x : RwFields) → length (set_rw m i x).cpus ≡ length m.cpus
unfolding set_rw set_lock
length-cpus-set_rw m i x = refl

pub length-cpus-set_counts : (m : Machine) (x : Counts) → length (set_counts m x).cpus ≡ length m.cpus
unfolding set_counts
length-cpus-set_counts m x = refl

pub length-cpus-set_node : (m : Machine) (k : NodeName) (x : Node) → length (set_node m k x).cpus ≡ length m.cpus
unfolding set_node set_cpu
length-cpus-set_node m k x = length-set m.cpus k.cpu _

pub length-cpus-set_queued : (m : Machine) (p n : ℕ) → length (set_queued m p n).cpus ≡ length m.cpus
unfolding set_queued set_cpu
length-cpus-set_queued m p n = length-set m.cpus p _

pub length-cpus-set_preempted : (m : Machine) (p : ℕ) (b : Bool) → length (set_preempted m p b).cpus ≡ length m.cpus
unfolding set_preempted set_cpu
length-cpus-set_preempted m p b = length-set m.cpus p _

pub length-cpus-set_halted : (m : Machine) (p : ℕ) (b : Bool) → length (set_halted m p b).cpus ≡ length m.cpus
unfolding set_halted set_cpu
length-cpus-set_halted m p b = length-set m.cpus p _

pub length-cpus-set_kicked : (m : Machine) (p : ℕ) (b : Bool) → length (set_kicked m p b).cpus ≡ length m.cpus
unfolding set_kicked set_cpu
length-cpus-set_kicked m p b = length-set m.cpus p _

pub length-cpus-set_entry : (m : Machine) (l : LockName) (n : Option NodeName) → length (set_entry m l n).cpus ≡ length m.cpus
length-cpus-set_entry m l n = (IsAlike-set_entry m l n).cpus

pub length-cpus-set_top : (m : Machine) (p : ℕ) (f : Frame) → length (set_top m p f).cpus ≡ length m.cpus
unfolding set_top set_cpu
length-cpus-set_top m p f = length-set m.cpus p _

pub length-cpus-leave : (m : Machine) (p : ℕ) → length (leave m p).cpus ≡ length m.cpus
unfolding set_top set_queued set_cpu
length-cpus-leave m p = length-set _ p _ ∙ length-set m.cpus p _

-- each processor has as many frames

pub depth_at-set_word : (m : Machine) (l : LockName) (x : Fields) (q : ℕ) → depth_at (set_word m l x) q ≡ depth_at m q
depth_at-set_word m l x q = (IsAlike-set_word m l x).depth q

pub depth_at-set_rw : (m : Machine) (i : ℕ) (x : RwFields) (q : ℕ) → depth_at (set_rw m i x) q ≡ depth_at m q
depth_at-set_rw m i x q = (IsAlike-set_rw m i x).depth q

pub depth_at-set_counts : (m : Machine) (x : Counts) (q : ℕ) → depth_at (set_counts m x) q ≡ depth_at m q
depth_at-set_counts m x q = (IsAlike-set_counts m x).depth q

pub depth_at-set_node : (m : Machine) (k : NodeName) (x : Node) (q : ℕ) → depth_at (set_node m k x) q ≡ depth_at m q
depth_at-set_node m k x q = (IsAlike-set_node m k x).depth q

pub depth_at-set_queued : (m : Machine) (p n : ℕ) (q : ℕ) → depth_at (set_queued m p n) q ≡ depth_at m q
depth_at-set_queued m p n q = (IsAlike-set_queued m p n).depth q

pub depth_at-set_preempted : (m : Machine) (p : ℕ) (b : Bool) (q : ℕ) → depth_at (set_preempted m p b) q ≡ depth_at m q
depth_at-set_preempted m p b q = (IsAlike-set_preempted m p b).depth q

pub depth_at-set_halted : (m : Machine) (p : ℕ) (b : Bool) (q : ℕ) → depth_at (set_halted m p b) q ≡ depth_at m q
depth_at-set_halted m p b q = (IsAlike-set_halted m p b).depth q

pub depth_at-set_kicked : (m : Machine) (p : ℕ) (b : Bool) (q : ℕ) → depth_at (set_kicked m p b) q ≡ depth_at m q
depth_at-set_kicked m p b q = (IsAlike-set_kicked m p b).depth q

pub depth_at-set_entry : (m : Machine) (l : LockName) (n : Option NodeName) (q : ℕ) → depth_at (set_entry m l n) q ≡ depth_at m q
depth_at-set_entry m l n q = (IsAlike-set_entry m l n).depth q

pub depth_at-set_top : (m : Machine) (p : ℕ) (f : Frame) (q : ℕ) → depth_at (set_top m p f) q ≡ depth_at m q
depth_at-set_top m p f q = depth-set_top m p f q

pub depth_at-leave : (m : Machine) (p : ℕ) (q : ℕ) → depth_at (leave m p) q ≡ depth_at m q
depth_at-leave m p q = (IsAlike-set_queued _ p _).depth q ∙ depth-set_top m p _ q

-- the top frames stand at their positions

pub CanMove-set_word : (m : Machine) (l : LockName) (x : Fields) (q : ℕ) → CanMove m q → CanMove (set_word m l x) q
CanMove-set_word m l x q move = CanMove-IsAlike m (set_word m l x) q (IsAlike-set_word m l x) move

pub CanMove-set_rw : (m : Machine) (i : ℕ) (x : RwFields) (q : ℕ) → CanMove m q → CanMove (set_rw m i x) q
CanMove-set_rw m i x q move = CanMove-IsAlike m (set_rw m i x) q (IsAlike-set_rw m i x) move

pub CanMove-set_counts : (m : Machine) (x : Counts) (q : ℕ) → CanMove m q → CanMove (set_counts m x) q
CanMove-set_counts m x q move = CanMove-IsAlike m (set_counts m x) q (IsAlike-set_counts m x) move

pub CanMove-set_node : (m : Machine) (k : NodeName) (x : Node) (q : ℕ) → CanMove m q → CanMove (set_node m k x) q
CanMove-set_node m k x q move = CanMove-IsAlike m (set_node m k x) q (IsAlike-set_node m k x) move

pub CanMove-set_queued : (m : Machine) (p n : ℕ) (q : ℕ) → CanMove m q → CanMove (set_queued m p n) q
CanMove-set_queued m p n q move = CanMove-IsAlike m (set_queued m p n) q (IsAlike-set_queued m p n) move

pub CanMove-set_preempted : (m : Machine) (p : ℕ) (b : Bool) (q : ℕ) → CanMove m q → CanMove (set_preempted m p b) q
CanMove-set_preempted m p b q move = CanMove-IsAlike m (set_preempted m p b) q (IsAlike-set_preempted m p b) move

pub CanMove-set_halted : (m : Machine) (p : ℕ) (b : Bool) (q : ℕ) → CanMove m q → CanMove (set_halted m p b) q
CanMove-set_halted m p b q move = CanMove-IsAlike m (set_halted m p b) q (IsAlike-set_halted m p b) move

pub CanMove-set_kicked : (m : Machine) (p : ℕ) (b : Bool) (q : ℕ) → CanMove m q → CanMove (set_kicked m p b) q
CanMove-set_kicked m p b q move = CanMove-IsAlike m (set_kicked m p b) q (IsAlike-set_kicked m p b) move

pub CanMove-set_entry : (m : Machine) (l : LockName) (n : Option NodeName) (q : ℕ) → CanMove m q → CanMove (set_entry m l n) q
CanMove-set_entry m l n q move = CanMove-IsAlike m (set_entry m l n) q (IsAlike-set_entry m l n) move

pub CanMove-set_top : (m : Machine) (p : ℕ) (f : Frame) → CanMove m p → f.program ≡ (top_frame m p).program → f.«at» ≡ (top_frame m p).«at» → CanMove (set_top m p f) p
CanMove-set_top m p f move same_program same_at = CanMove-IsAlike m (set_top m p f) p (IsAlike-set_top m p f move.top same_program same_at) move

pub CanMove-leave : (m : Machine) (p : ℕ) → CanMove m p → CanMove (leave m p) p
CanMove-leave m p move = CanMove-IsAlike m (leave m p) p (IsAlike-leave m p move.top) move

-- a frame comes on top

pub setup-push : (m : Machine) (p : ℕ) (f : Frame) → (push m p f).setup ≡ m.setup
unfolding push set_cpu
setup-push m p f = refl

pub length-cpus-push : (m : Machine) (p : ℕ) (f : Frame) → length (push m p f).cpus ≡ length m.cpus
unfolding push set_cpu
length-cpus-push m p f = length-set m.cpus p _

pub depth_at-push : (m : Machine) (p : ℕ) (f : Frame) → p < length m.cpus → depth_at (push m p f) p ≡ depth_at m p + 1
unfolding push set_cpu cpu_at depth_at
depth_at-push m p f within = ap (λ (c : CpuState). length c.frames) (get_or-set_same m.cpus p _ no_cpu within) ∙ length-append _ (f ∷ [])

push_end : (fs : List Frame) (f : Frame) → slice_get (fs ++ f ∷ []) (length fs) ≡ Some f
push_end [] f = refl
push_end (g ∷ fs) f = push_end fs f

-- and is the top one
pub top_frame-push : (m : Machine) (p : ℕ) (f : Frame) → p < length m.cpus → top_frame (push m p f) p ≡ f
unfolding push set_cpu cpu_at depth_at frame_at
top_frame-push m p f within =
    let fs : List Frame = (cpu_at m p).frames in
    let c : CpuState = record (cpu_at m p) { frames = fs ++ f ∷ []; handlers = (cpu_at m p).handlers + 1 } in
    let more : length (fs ++ f ∷ []) ≡ length fs + length (f ∷ []) = length-append fs (f ∷ []) in
    let before : length (fs ++ f ∷ []) - 1 ≡ length fs = omega (arith, more) in
    ap (λ (d : CpuState). unwrap_or (slice_get d.frames (length d.frames - 1)) rest_frame) (get_or-set_same m.cpus p c no_cpu within)
    ∙ ap (λ n. unwrap_or (slice_get (fs ++ f ∷ []) n) rest_frame) before ∙ ap (λ (o : Option Frame). unwrap_or o rest_frame) (push_end fs f)

-- the top frames stay where no frame is stored

same_top : (m : Machine) (p : ℕ) (c : CpuState) → c.frames ≡ (cpu_at m p).frames → (q : ℕ) → top_frame (set_cpu m p c) q ≡ top_frame m q
unfolding set_cpu depth_at frame_at
same_top m p c e q =
    cpu_part (λ (d : CpuState). unwrap_or (slice_get d.frames (length d.frames - 1)) rest_frame) m p c
    (ap (λ (fs : List Frame). unwrap_or (slice_get fs (length fs - 1)) rest_frame) e) q

pub top_frame-set_rw : (m : Machine) (i : ℕ) (x : RwFields) (q : ℕ) → top_frame (set_rw m i x) q ≡ top_frame m q
unfolding set_rw set_lock depth_at frame_at cpu_at
top_frame-set_rw m i x q = refl

pub top_frame-set_word : (m : Machine) (l : LockName) (x : Fields) (q : ℕ) → top_frame (set_word m l x) q ≡ top_frame m q
unfolding set_word set_lock depth_at frame_at cpu_at
top_frame-set_word m l x q = refl

pub top_frame-set_counts : (m : Machine) (x : Counts) (q : ℕ) → top_frame (set_counts m x) q ≡ top_frame m q
unfolding set_counts depth_at frame_at cpu_at
top_frame-set_counts m x q = refl

pub top_frame-set_entry : (m : Machine) (l : LockName) (n : Option NodeName) (q : ℕ) → top_frame (set_entry m l n) q ≡ top_frame m q
unfolding set_entry depth_at frame_at cpu_at
top_frame-set_entry m l None q = refl
top_frame-set_entry m l (Some n) q = refl

pub top_frame-set_node : (m : Machine) (k : NodeName) (x : Node) (q : ℕ) → top_frame (set_node m k x) q ≡ top_frame m q
unfolding set_node
top_frame-set_node m k x q = same_top m k.cpu _ refl q

pub top_frame-set_queued : (m : Machine) (p n q : ℕ) → top_frame (set_queued m p n) q ≡ top_frame m q
unfolding set_queued
top_frame-set_queued m p n q = same_top m p _ refl q

pub top_frame-set_halted : (m : Machine) (p : ℕ) (b : Bool) (q : ℕ) → top_frame (set_halted m p b) q ≡ top_frame m q
unfolding set_halted
top_frame-set_halted m p b q = same_top m p _ refl q

-- what a caller's goals need that calls one writer or move after another
pub ruleset kept = (
  setup-set_rw,
  setup-set_word,
  setup-set_counts,
  setup-set_node,
  setup-set_queued,
  setup-set_preempted,
  setup-set_halted,
  setup-set_kicked,
  setup-set_entry,
  setup-set_top,
  setup-leave,
  length-locks-set_rw,
  length-locks-set_word,
  length-locks-set_counts,
  length-locks-set_node,
  length-locks-set_queued,
  length-locks-set_preempted,
  length-locks-set_halted,
  length-locks-set_kicked,
  length-locks-set_entry,
  length-locks-set_top,
  length-locks-leave,
  length-cpus-set_rw,
  length-cpus-set_word,
  length-cpus-set_counts,
  length-cpus-set_node,
  length-cpus-set_queued,
  length-cpus-set_preempted,
  length-cpus-set_halted,
  length-cpus-set_kicked,
  length-cpus-set_entry,
  length-cpus-set_top,
  length-cpus-leave,
  depth_at-set_rw,
  depth_at-set_word,
  depth_at-set_counts,
  depth_at-set_node,
  depth_at-set_queued,
  depth_at-set_preempted,
  depth_at-set_halted,
  depth_at-set_kicked,
  depth_at-set_entry,
  depth_at-set_top,
  depth_at-leave,
  CanMove-set_rw,
  top_frame-set_rw,
  top_frame-set_word,
  top_frame-set_counts,
  top_frame-set_entry,
  top_frame-set_node,
  top_frame-set_queued,
  top_frame-set_halted,
  CanMove-set_word,
  CanMove-set_counts,
  CanMove-set_node,
  CanMove-set_queued,
  CanMove-set_preempted,
  CanMove-set_halted,
  CanMove-set_kicked,
  CanMove-set_entry,
  CanMove-set_top,
  CanMove-leave,
)

-- what the rest of an interrupt needs
pub ruleset pushed = (setup-push, length-cpus-push, depth_at-push, top_frame-push)
