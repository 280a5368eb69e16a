-- What is read of a machine whose unowned nodes are at rest, and what is written to it.
use Rattle.std.proofs.Common.{◌≡◌, ◌≢◌, ℕ, ◌+◌, ◌-◌, Option, Some, None, Bool, true, [], ◌∷◌, ◌++◌}
use Rattle.std.proofs.Common.{length, take, get_or, set, slice_get, position, ap, refl, sym, ◌∙◌}
use Rattle.std.proofs.Common.{subst, ◌≤◌, inl, inr}
use Rattle.std.specs.Prelude.{unwrap_or}
use Rattle.lk_idle.proofs.Names.{cases_lt, set_past, NodeName, CpuState, Machine, rest_frame}
use Rattle.lk_idle.proofs.Names.{rest_node, top_frame, is_node, Frame, Node, freed, freed_node}
use Rattle.lk_idle.proofs.Names.{is_owned, owns}
use Rattle.lk_rows.specs.Machine.{cpu_at, node_at, frame_at, depth_at, queued_at, halted_at}
use Rattle.lk_rows.specs.Machine.{kicked_at, preempted_at, handlers_at, set_cpu, set_node, set_top}
use Rattle.lk_rows.specs.Machine.{set_queued, set_halted, set_kicked, set_preempted, pop, push}
use Rattle.lk_rows.specs.{Machine.no_cpu, Moves.{context_of, waiter_of}}
use Rattle.lk_core.proofs.Access.{cpu_same}
use Rattle.lk_idle.proofs.FreeNodes.{get_freed, fewer_freed, stored_freed, reset_freed, owned_set}
use Rattle.lk_idle.proofs.FreeNodes.{owned_take, owned_push, same_number, set_again}
use Rattle.lk_idle.proofs.Lists.{get_or_mapped, set_mapped, mapped_twice}
use Rattle.lk_idle.specs.Free.{freed_cpu}

-- what is read

pub cpu-freed : (m : Machine) (p : ℕ) → cpu_at (freed m) p ≡ freed_cpu (cpu_at m p)
unfolding cpu_at
cpu-freed m p = get_or_mapped (λ c. freed_cpu c) m.cpus p no_cpu

pub queued-freed : (m : Machine) (p : ℕ) → queued_at (freed m) p ≡ queued_at m p
unfolding queued_at
queued-freed m p = ap (λ (c : CpuState). c.queued) (cpu-freed m p)

pub preempted-freed : (m : Machine) (p : ℕ) → preempted_at (freed m) p ≡ preempted_at m p
unfolding preempted_at
preempted-freed m p = ap (λ (c : CpuState). c.preempted) (cpu-freed m p)

pub halted-freed : (m : Machine) (p : ℕ) → halted_at (freed m) p ≡ halted_at m p
unfolding halted_at
halted-freed m p = ap (λ (c : CpuState). c.halted) (cpu-freed m p)

pub kicked-freed : (m : Machine) (p : ℕ) → kicked_at (freed m) p ≡ kicked_at m p
unfolding kicked_at
kicked-freed m p = ap (λ (c : CpuState). c.kicked) (cpu-freed m p)

pub handlers-freed : (m : Machine) (p : ℕ) → handlers_at (freed m) p ≡ handlers_at m p
unfolding handlers_at
handlers-freed m p = ap (λ (c : CpuState). c.handlers) (cpu-freed m p)

pub depth-freed : (m : Machine) (p : ℕ) → depth_at (freed m) p ≡ depth_at m p
unfolding depth_at
depth-freed m p = ap (λ (c : CpuState). length c.frames) (cpu-freed m p)

pub top-freed : (m : Machine) (p : ℕ) → top_frame (freed m) p ≡ top_frame m p
unfolding frame_at depth_at
top-freed m p =
    ap (λ (c : CpuState). unwrap_or (slice_get c.frames (length c.frames - 1)) rest_frame) (cpu-freed m p)

pub waiter-freed : (m : Machine) (n : NodeName) → waiter_of (freed m) n ≡ waiter_of m n
unfolding waiter_of context_of
waiter-freed m n =
    ap (λ (c : CpuState). record { cpu = n.cpu; ctx = unwrap_or (position (λ f. is_node f.me n) c.frames) 0 })
    (cpu-freed m n.cpu)

-- some frame of the node's processor has a node with this index
abbrev pub IsOwned : Machine → NodeName → Type 0
IsOwned m n = is_owned (cpu_at m n.cpu).frames n.index ≡ true

pub node-freed : (m : Machine) (n : NodeName)
    → node_at (freed m) n ≡ freed_node (is_owned (cpu_at m n.cpu).frames n.index) (node_at m n)
unfolding node_at
node-freed m n =
    ap (λ (c : CpuState). get_or c.nodes n.index rest_node) (cpu-freed m n.cpu)
    ∙ get_freed (cpu_at m n.cpu).frames (cpu_at m n.cpu).nodes n.index

-- a node that a frame has is as it is
pub node-owned : (m : Machine) (n : NodeName) → IsOwned m n → node_at (freed m) n ≡ node_at m n
node-owned m n own = node-freed m n ∙ ap (λ b. freed_node b (node_at m n)) own

pub state-freed : (m : Machine) (n : NodeName) → (node_at (freed m) n).state ≡ (node_at m n).state
state-freed m n = ap (λ (x : Node). x.state) (node-freed m n)

-- what is at rest stays so

cpu_twice : (c : CpuState) → freed_cpu (freed_cpu c) ≡ freed_cpu c
cpu_twice c = (λ i. record c { nodes = fewer_freed c.frames c.frames c.nodes (λ j own. own) i })

pub freed_twice : (m : Machine) → freed (freed m) ≡ freed m
freed_twice m = (λ i. record m { cpus = mapped_twice (λ c. freed_cpu c) cpu_twice m.cpus i })

-- what is written

pub put-freed : (m : Machine) (p : ℕ) (c : CpuState)
    → set_cpu (freed m) p (freed_cpu c) ≡ freed (set_cpu m p c)
unfolding set_cpu
put-freed m p c = (λ i. record m { cpus = set_mapped (λ c. freed_cpu c) m.cpus p c i })

put-alike : (m : Machine) (p : ℕ) (d c : CpuState) → freed_cpu d ≡ freed_cpu c
    → freed (set_cpu (freed m) p d) ≡ freed (set_cpu m p c)
put-alike m p d c same =
    sym (put-freed (freed m) p d)
    ∙ ap (λ k. set_cpu k p (freed_cpu d)) (freed_twice m)
    ∙ ap (λ k. set_cpu (freed m) p k) same
    ∙ put-freed m p c

-- a processor's record is changed
pub change-freed : (h : CpuState → CpuState) (m : Machine) (p : ℕ)
    → freed_cpu (h (freed_cpu (cpu_at m p))) ≡ freed_cpu (h (cpu_at m p))
    → freed (set_cpu (freed m) p (h (cpu_at (freed m) p))) ≡ freed (set_cpu m p (h (cpu_at m p)))
change-freed h m p same =
    ap (λ c. freed (set_cpu (freed m) p (h c))) (cpu-freed m p)
    ∙ put-alike m p (h (freed_cpu (cpu_at m p))) (h (cpu_at m p)) same

-- a write to what is neither a frame nor a node
pub beside-freed : (h : CpuState → CpuState) → ((c : CpuState) → h (freed_cpu c) ≡ freed_cpu (h c))
    → (m : Machine) (p : ℕ) → set_cpu (freed m) p (h (cpu_at (freed m) p)) ≡ freed (set_cpu m p (h (cpu_at m p)))
beside-freed h same m p =
    ap (λ c. set_cpu (freed m) p (h c)) (cpu-freed m p)
    ∙ ap (λ c. set_cpu (freed m) p c) (same (cpu_at m p))
    ∙ put-freed m p (h (cpu_at m p))

pub set_queued-freed : (m : Machine) (p i : ℕ) → set_queued (freed m) p i ≡ freed (set_queued m p i)
unfolding set_queued
set_queued-freed m p i = beside-freed (λ c. record c { queued = i }) (λ c. refl) m p

pub set_preempted-freed : (m : Machine) (p : ℕ) (b : Bool) → set_preempted (freed m) p b ≡ freed (set_preempted m p b)
unfolding set_preempted
set_preempted-freed m p b = beside-freed (λ c. record c { preempted = b }) (λ c. refl) m p

pub set_halted-freed : (m : Machine) (p : ℕ) (b : Bool) → set_halted (freed m) p b ≡ freed (set_halted m p b)
unfolding set_halted
set_halted-freed m p b = beside-freed (λ c. record c { halted = b }) (λ c. refl) m p

pub set_kicked-freed : (m : Machine) (p : ℕ) (b : Bool) → set_kicked (freed m) p b ≡ freed (set_kicked m p b)
unfolding set_kicked
set_kicked-freed m p b = beside-freed (λ c. record c { kicked = b }) (λ c. refl) m p

-- a field of a node is stored
pub field-freed : (k : Node → Node)
    → ((b : Bool) (x : Node) → freed_node b (k (freed_node b x)) ≡ freed_node b (k x))
    → (m : Machine) (n : NodeName)
    → freed (set_node (freed m) n (k (node_at (freed m) n))) ≡ freed (set_node m n (k (node_at m n)))
unfolding set_node node_at
field-freed k same m n =
    let c = cpu_at m n.cpu in
    change-freed (λ d. record d { nodes = set d.nodes n.index (k (get_or d.nodes n.index rest_node)) }) m n.cpu
    (λ i. record c { nodes = stored_freed c.frames c.nodes n.index k same i })

-- the newest frame is stored, and has the node that it had, or none
pub set_top-freed : (m : Machine) (p : ℕ) (g : Frame)
    → ((j : ℕ) → owns g.me j ≡ true → owns (top_frame m p).me j ≡ true)
    → freed (set_top (freed m) p g) ≡ freed (set_top m p g)
unfolding set_top depth_at frame_at
set_top-freed m p g keeps =
    let c = cpu_at m p in
    let fs = set c.frames (length c.frames - 1) g in
    change-freed (λ d. record d { frames = set d.frames (length d.frames - 1) g }) m p
    (λ i. record c {
      frames = fs;
      nodes = fewer_freed c.frames fs c.nodes
          (λ j own. owned_set c.frames (length c.frames - 1) g j (keeps j) own) i;
    })

pub pop-freed : (m : Machine) (p : ℕ) → freed (pop (freed m) p) ≡ freed (pop m p)
unfolding pop depth_at
pop-freed m p =
    let c = cpu_at m p in
    let fs = take (length c.frames - 1) c.frames in
    change-freed (λ d. record d { frames = take (length d.frames - 1) d.frames }) m p
    (λ i. record c {
      frames = fs;
      nodes = fewer_freed c.frames fs c.nodes (λ j own. owned_take c.frames (length c.frames - 1) j own) i;
    })

pub push-freed : (m : Machine) (p : ℕ) (f : Frame) → f.me ≡ None → freed (push (freed m) p f) ≡ freed (push m p f)
unfolding push
push-freed m p f none =
    let c = cpu_at m p in
    change-freed (λ d. record d { frames = d.frames ++ f ∷ []; handlers = d.handlers + 1 }) m p
    (λ i. record c {
      frames = c.frames ++ f ∷ [];
      handlers = c.handlers + 1;
      nodes = fewer_freed c.frames (c.frames ++ f ∷ []) c.nodes (λ j own. owned_push c.frames f j none own) i;
    })

-- a frame enters with this node, which is reset

set_cpu_twice : (m : Machine) (p : ℕ) (c d : CpuState) → set_cpu (set_cpu m p c) p d ≡ set_cpu m p d
unfolding set_cpu
set_cpu_twice m p c d = (λ i. record m { cpus = set_again m.cpus p d c i })

set_cpu_past : (m : Machine) (p : ℕ) (c : CpuState) → length m.cpus ≤ p → set_cpu m p c ≡ m
unfolding set_cpu
set_cpu_past m p c high = (λ i. record m { cpus = set_past m.cpus p c high i })

enter_cpu : NodeName → Frame → CpuState → CpuState
enter_cpu n g c = record c { frames = set c.frames (length c.frames - 1) g; nodes = set c.nodes n.index rest_node }

entered-once : (m : Machine) (n : NodeName) (g : Frame)
    → set_top (set_node m n rest_node) n.cpu g ≡ set_cpu m n.cpu (enter_cpu n g (cpu_at m n.cpu))
unfolding set_top set_node depth_at enter_cpu
entered-once m n g =
    let q = n.cpu in
    let c : CpuState = record (cpu_at m q) { nodes = set (cpu_at m q).nodes n.index rest_node } in
    elim (cases_lt q (length m.cpus)) [
      | inl low ↦
          ap (λ (d : CpuState). set_cpu (set_cpu m q c) q (record d { frames = set d.frames (length d.frames - 1) g }))
          (cpu_same m q c low)
          ∙ set_cpu_twice m q c (enter_cpu n g (cpu_at m q))
      | inr high ↦
          set_cpu_twice m q c _
          ∙ set_cpu_past m q _ high
          ∙ sym (set_cpu_past m q (enter_cpu n g (cpu_at m q)) high)
    ]

pub enter-freed : (m : Machine) (n : NodeName) (g : Frame) → g.me ≡ Some n
    → freed (set_top (set_node (freed m) n rest_node) n.cpu g) ≡ freed (set_top (set_node m n rest_node) n.cpu g)
unfolding enter_cpu
enter-freed m n g own =
    let c = cpu_at m n.cpu in
    let fs = set c.frames (length c.frames - 1) g in
    ap (λ k. freed k) (entered-once (freed m) n g)
    ∙ change-freed (λ d. enter_cpu n g d) m n.cpu
    (λ i. record c { frames = fs; nodes = reset_freed c.frames fs c.nodes n.index fewer i })
    ∙ sym (ap (λ k. freed k) (entered-once m n g))
  where
    other : (j : ℕ) → j ≢ n.index → owns g.me j ≡ true → ⊥
    other j ne has = ne (sym (same_number n.index j (subst (λ (o : Option NodeName). owns o j ≡ true) own has)))

    fewer : (j : ℕ) → j ≢ n.index
        → is_owned (set (cpu_at m n.cpu).frames (length (cpu_at m n.cpu).frames - 1) g) j ≡ true
        → is_owned (cpu_at m n.cpu).frames j ≡ true
    fewer j ne has =
        owned_set (cpu_at m n.cpu).frames (length (cpu_at m n.cpu).frames - 1) g j (λ own. absurd (other j ne own)) has
