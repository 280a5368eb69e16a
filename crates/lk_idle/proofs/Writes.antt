-- What is read of a machine whose dead registers are at rest, and what is written to it.
use Rattle.std.proofs.Common.{◌≡◌, ℕ, ◌+◌, ◌-◌, ◌≤◌, Bool, List, [], ◌∷◌, ◌++◌, map, length, take}
use Rattle.std.proofs.Common.{get_or, set, slice_get, position, inl, inr, ap, refl, sym, ◌∙◌, subst}
use Rattle.std.proofs.lemmas.List.{length-map, length-set, get_or_past}
use Rattle.std.specs.Prelude.{unwrap_or}
use Rattle.lk_idle.proofs.Names.{cases_lt, set_past, NodeName, CpuState, Machine, rest_frame}
use Rattle.lk_idle.proofs.Names.{rest_node, top_frame, is_node, Frame, Node, rested, rested_cpu}
use Rattle.lk_idle.proofs.Names.{rested_frame}
use Rattle.lk_rows.specs.Machine.{cpu_at, node_at, frame_at, depth_at, queued_at, halted_at}
use Rattle.lk_rows.specs.Machine.{kicked_at, preempted_at, handlers_at, set_cpu, set_node, set_top}
use Rattle.lk_rows.specs.Machine.{set_queued, set_halted, set_kicked, set_preempted, pop, push}
use Rattle.lk_rows.specs.{Machine.no_cpu, Moves.{context_of, waiter_of}}
use Rattle.lk_core.proofs.Access.{cpu_part, cpu_same}
use Rattle.lk_idle.proofs.Frames.{rested_twice}
use Rattle.lk_idle.proofs.Lists.{get_or_mapped, set_mapped, slice_get_mapped, take_mapped}
use Rattle.lk_idle.proofs.Lists.{push_mapped, position_mapped, put_there, mapped_twice}

-- what is read

pub cpu-rested : (m : Machine) (p : ℕ) → cpu_at (rested m) p ≡ rested_cpu (cpu_at m p)
unfolding cpu_at
cpu-rested m p = get_or_mapped (λ c. rested_cpu c) m.cpus p no_cpu

pub node-rested : (m : Machine) (n : NodeName) → node_at (rested m) n ≡ node_at m n
unfolding node_at
node-rested m n = ap (λ (c : CpuState). get_or c.nodes n.index rest_node) (cpu-rested m n.cpu)

pub queued-rested : (m : Machine) (p : ℕ) → queued_at (rested m) p ≡ queued_at m p
unfolding queued_at
queued-rested m p = ap (λ (c : CpuState). c.queued) (cpu-rested m p)

pub preempted-rested : (m : Machine) (p : ℕ) → preempted_at (rested m) p ≡ preempted_at m p
unfolding preempted_at
preempted-rested m p = ap (λ (c : CpuState). c.preempted) (cpu-rested m p)

pub halted-rested : (m : Machine) (p : ℕ) → halted_at (rested m) p ≡ halted_at m p
unfolding halted_at
halted-rested m p = ap (λ (c : CpuState). c.halted) (cpu-rested m p)

pub kicked-rested : (m : Machine) (p : ℕ) → kicked_at (rested m) p ≡ kicked_at m p
unfolding kicked_at
kicked-rested m p = ap (λ (c : CpuState). c.kicked) (cpu-rested m p)

pub handlers-rested : (m : Machine) (p : ℕ) → handlers_at (rested m) p ≡ handlers_at m p
unfolding handlers_at
handlers-rested m p = ap (λ (c : CpuState). c.handlers) (cpu-rested m p)

pub depth-rested : (m : Machine) (p : ℕ) → depth_at (rested m) p ≡ depth_at m p
unfolding depth_at
depth-rested m p =
    ap (λ (c : CpuState). length c.frames) (cpu-rested m p)
    ∙ length-map (cpu_at m p).frames (λ f. rested_frame f)

-- the newest of these frames
abbrev pub top_in : List Frame → Frame
top_in fs = unwrap_or (slice_get fs (length fs - 1)) rest_frame

pub top_in-rested : (fs : List Frame) → top_in (map (λ f. rested_frame f) fs) ≡ rested_frame (top_in fs)
top_in-rested fs =
    ap (λ n. unwrap_or (slice_get (map (λ f. rested_frame f) fs) (n - 1)) rest_frame)
    (length-map fs (λ f. rested_frame f))
    ∙ slice_get_mapped (λ f. rested_frame f) fs (length fs - 1) rest_frame

pub top-rested : (m : Machine) (p : ℕ) → top_frame (rested m) p ≡ rested_frame (top_frame m p)
unfolding frame_at depth_at
top-rested m p =
    ap (λ (c : CpuState). top_in c.frames) (cpu-rested m p) ∙ top_in-rested (cpu_at m p).frames

pub waiter-rested : (m : Machine) (n : NodeName) → waiter_of (rested m) n ≡ waiter_of m n
unfolding waiter_of context_of
waiter-rested m n =
    ap (λ o. record { cpu = n.cpu; ctx = unwrap_or o 0 })
    (ap (λ (c : CpuState). position (λ f. is_node f.me n) c.frames) (cpu-rested m n.cpu)
    ∙ position_mapped (λ f. rested_frame f) (λ f. is_node f.me n) (cpu_at m n.cpu).frames)

-- what is at rest stays so

cpu_twice : (c : CpuState) → rested_cpu (rested_cpu c) ≡ rested_cpu c
cpu_twice c = (λ i. record c { frames = mapped_twice (λ f. rested_frame f) rested_twice c.frames i })

pub machine_twice : (m : Machine) → rested (rested m) ≡ rested m
machine_twice m = (λ i. record m { cpus = mapped_twice (λ c. rested_cpu c) cpu_twice m.cpus i })

-- what is written

pub put-rested : (m : Machine) (p : ℕ) (c : CpuState)
    → set_cpu (rested m) p (rested_cpu c) ≡ rested (set_cpu m p c)
unfolding set_cpu
put-rested m p c = (λ i. record m { cpus = set_mapped (λ c. rested_cpu c) m.cpus p c i })

-- a write to what is no frame
pub write-rested : (h : CpuState → CpuState) → ((c : CpuState) → h (rested_cpu c) ≡ rested_cpu (h c))
    → (m : Machine) (p : ℕ)
    → set_cpu (rested m) p (h (cpu_at (rested m) p)) ≡ rested (set_cpu m p (h (cpu_at m p)))
write-rested h same m p =
    ap (λ c. set_cpu (rested m) p (h c)) (cpu-rested m p)
    ∙ ap (λ c. set_cpu (rested m) p c) (same (cpu_at m p))
    ∙ put-rested m p (h (cpu_at m p))

pub set_node-rested : (m : Machine) (n : NodeName) (x : Node)
    → set_node (rested m) n x ≡ rested (set_node m n x)
unfolding set_node
set_node-rested m n x =
    write-rested (λ c. record c { nodes = set c.nodes n.index x }) (λ c. refl) m n.cpu

pub set_queued-rested : (m : Machine) (p i : ℕ) → set_queued (rested m) p i ≡ rested (set_queued m p i)
unfolding set_queued
set_queued-rested m p i = write-rested (λ c. record c { queued = i }) (λ c. refl) m p

pub set_preempted-rested : (m : Machine) (p : ℕ) (b : Bool)
    → set_preempted (rested m) p b ≡ rested (set_preempted m p b)
unfolding set_preempted
set_preempted-rested m p b = write-rested (λ c. record c { preempted = b }) (λ c. refl) m p

pub set_halted-rested : (m : Machine) (p : ℕ) (b : Bool)
    → set_halted (rested m) p b ≡ rested (set_halted m p b)
unfolding set_halted
set_halted-rested m p b = write-rested (λ c. record c { halted = b }) (λ c. refl) m p

pub set_kicked-rested : (m : Machine) (p : ℕ) (b : Bool)
    → set_kicked (rested m) p b ≡ rested (set_kicked m p b)
unfolding set_kicked
set_kicked-rested m p b = write-rested (λ c. record c { kicked = b }) (λ c. refl) m p

-- a write to the newest frame
top_write : Frame → CpuState → CpuState
top_write f c = record c { frames = set c.frames (length c.frames - 1) f }

top_write-rested : (f : Frame) (c : CpuState)
    → top_write (rested_frame f) (rested_cpu c) ≡ rested_cpu (top_write f c)
unfolding top_write
top_write-rested f c =
    ap (λ n. record (rested_cpu c) { frames = set (map (λ f. rested_frame f) c.frames) (n - 1) (rested_frame f) })
    (length-map c.frames (λ f. rested_frame f))
    ∙ (λ i. record c { frames = set_mapped (λ f. rested_frame f) c.frames (length c.frames - 1) f i })

pub set_top-rested : (m : Machine) (p : ℕ) (f : Frame)
    → set_top (rested m) p (rested_frame f) ≡ rested (set_top m p f)
unfolding set_top depth_at top_write
set_top-rested m p f =
    ap (λ c. set_cpu (rested m) p (top_write (rested_frame f) c)) (cpu-rested m p)
    ∙ ap (λ c. set_cpu (rested m) p c) (top_write-rested f (cpu_at m p))
    ∙ put-rested m p (top_write f (cpu_at m p))

-- frames that differ in dead registers alone
pub set_top-alike : (m : Machine) (p : ℕ) (g f : Frame) → rested_frame g ≡ rested_frame f
    → rested (set_top (rested m) p g) ≡ rested (set_top m p f)
set_top-alike m p g f same =
    sym (set_top-rested (rested m) p g)
    ∙ ap (λ k. set_top k p (rested_frame g)) (machine_twice m)
    ∙ ap (λ k. set_top (rested m) p k) same
    ∙ set_top-rested m p f

pub pop-rested : (m : Machine) (p : ℕ) → pop (rested m) p ≡ rested (pop m p)
unfolding pop depth_at
pop-rested m p =
    ap (λ (c : CpuState). set_cpu (rested m) p (record c { frames = take (length c.frames - 1) c.frames }))
    (cpu-rested m p)
    ∙ ap (λ n. set_cpu (rested m) p (record (rested_cpu (cpu_at m p)) { frames = take (n - 1) (map (λ f. rested_frame f) (cpu_at m p).frames) }))
    (length-map (cpu_at m p).frames (λ f. rested_frame f))
    ∙ ap (λ fs. set_cpu (rested m) p (record (cpu_at m p) { frames = fs }))
    (take_mapped (λ f. rested_frame f) (cpu_at m p).frames (length (cpu_at m p).frames - 1))
    ∙ put-rested m p (record (cpu_at m p) { frames = take (length (cpu_at m p).frames - 1) (cpu_at m p).frames })

pub push-rested : (m : Machine) (p : ℕ) (f : Frame)
    → push (rested m) p (rested_frame f) ≡ rested (push m p f)
unfolding push
push-rested m p f =
    ap (λ (c : CpuState). set_cpu (rested m) p (record c { frames = c.frames ++ rested_frame f ∷ []; handlers = c.handlers + 1 }))
    (cpu-rested m p)
    ∙ ap (λ fs. set_cpu (rested m) p (record (cpu_at m p) { frames = fs; handlers = (cpu_at m p).handlers + 1 }))
    (push_mapped (λ f. rested_frame f) (cpu_at m p).frames f)
    ∙ put-rested m p (record (cpu_at m p) { frames = (cpu_at m p).frames ++ f ∷ []; handlers = (cpu_at m p).handlers + 1 })

-- the newest frame after a write

-- a write to what is no frame leaves it
pub top-write : (h : CpuState → CpuState) → ((c : CpuState) → (h c).frames ≡ c.frames)
    → (m : Machine) (q p : ℕ) → top_frame (set_cpu m q (h (cpu_at m q))) p ≡ top_frame m p
unfolding frame_at depth_at
top-write h same m q p =
    ap (λ fs. top_in fs) (cpu_part (λ (c : CpuState). c.frames) m q (h (cpu_at m q)) (same (cpu_at m q)) p)

-- what is true of a frame that is put on top, and of one at rest
module _ (m : Machine) (p : ℕ) (f : Frame) where
  abbrev put_in : List Frame
  put_in = set (cpu_at m p).frames (length (cpu_at m p).frames - 1) f

  put_past : length m.cpus ≤ p → cpu_at (set_cpu m p (record (cpu_at m p) { frames = put_in })) p ≡ no_cpu
  unfolding cpu_at set_cpu
  put_past high =
      ap (λ cs. get_or cs p no_cpu) (set_past m.cpus p (record (cpu_at m p) { frames = put_in }) high)
      ∙ get_or_past m.cpus p no_cpu high

  pub top-put : (P : Frame → Type 0) → P rest_frame → P f → P (top_frame (set_top m p f) p)
  unfolding frame_at depth_at set_top
  top-put P none some =
      elim (cases_lt p (length m.cpus)) [
        | inl low ↦ subst (λ (c : CpuState). P (top_in c.frames))
            (sym (cpu_same m p (record (cpu_at m p) { frames = put_in }) low))
            (subst (λ (n : ℕ). P (unwrap_or (slice_get put_in (n - 1)) rest_frame))
            (sym (length-set (cpu_at m p).frames (length (cpu_at m p).frames - 1) f))
            (put_there P rest_frame f none some (cpu_at m p).frames (length (cpu_at m p).frames - 1)))
        | inr high ↦ subst (λ (c : CpuState). P (top_in c.frames)) (sym (put_past high)) none
      ]
