-- Whom a step touches: what is no single processor's, the processor that makes it, and at most one other. Whatever
-- the others are, such a step does the same.
use Rattle.std.specs.Prelude.{◌≡◌, ◌<◌, ℕ, Option, Some, None, List, length, slice_set, slice_index_or}
use Rattle.lk_names.specs.declared.events.Act.TheVariants.{Step}
use Rattle.lk_word.specs.declared.spin_word.NodeName.{NodeName}
use Rattle.lk_rows.specs.declared.parts.Frame.{Frame}
use Rattle.lk_rows.specs.declared.parts.Pc.{Pc}
use Rattle.lk_rows.specs.declared.parts.Pc.TheVariants.{G5, G6, G10, G11, C3, C4, C5, C6, C8, C9, W1, W2, W3, W4, W5}
use Rattle.lk_rows.specs.declared.parts.Pc.TheVariants.{W7, E1, E2, E10, E14, E15, K1, U5, C1, C2, C7}
use Rattle.lk_rows.specs.Machine.{Machine, CpuState, no_cpu, top_frame}
use Rattle.lk_rows.specs.Acts.{next}

-- the processor of the node that a register names
abbrev pub cpu_of : Option NodeName → Option ℕ
cpu_of None = None
cpu_of (Some n) = Some n.cpu

-- The other processor that a row touches, whose node or mark it reads or writes, or the one itself. Of some rows of a
-- head that chooses a successor nothing is said.
abbrev pub other_of : Pc → Frame → ℕ → Option ℕ
other_of C1 f p = None
other_of C2 f p = None
other_of C7 f p = None
other_of G5 f p = cpu_of f.prev
other_of G6 f p = cpu_of f.me
other_of G10 f p = cpu_of f.me
other_of G11 f p = cpu_of f.y
other_of C3 f p = cpu_of f.second
other_of C4 f p = cpu_of f.t
other_of C5 f p = cpu_of f.b
other_of C6 f p = cpu_of f.second
other_of C8 f p = cpu_of f.y
other_of C9 f p = cpu_of f.t
other_of W1 f p = cpu_of f.me
other_of W2 f p = cpu_of f.prev
other_of W3 f p = cpu_of f.me
other_of W4 f p = cpu_of f.me
other_of W5 f p = cpu_of f.me
other_of W7 f p = cpu_of f.me
other_of E1 f p = cpu_of f.me
other_of E2 f p = cpu_of f.me
other_of E10 f p = cpu_of f.me
other_of E14 f p = cpu_of f.me
other_of E15 f p = cpu_of f.y
other_of K1 f p = cpu_of f.y
other_of U5 f p = cpu_of f.target
other_of c f p = Some p

-- of the row of a frame, if it stands at one
abbrev pub other_at : Option Pc → Frame → ℕ → Option ℕ
other_at None f p = Some p
other_at (Some c) f p = other_of c f p

-- a step of p touches no processor but p and q
abbrev pub Touches : Machine → ℕ → ℕ → Type 0
Touches m p q = other_at (top_frame m p).place (top_frame m p) p ≡ Some q

-- these processors, with p and q as they are among others
abbrev pub with_both : List CpuState → ℕ → ℕ → List CpuState → List CpuState
with_both others p q cs =
    slice_set (slice_set others p (slice_index_or cs p no_cpu)) q (slice_index_or cs q no_cpu)

-- the machine with its processors p and q among others
abbrev pub among : List CpuState → ℕ → ℕ → Machine → Machine
among others p q m = record m { cpus = with_both others p q m.cpus }

-- A step that touches p and q tells the same among other processors, and leaves the same but for them, which stay as
-- they are.
abbrev pub StepsStayAmong : Type 0
StepsStayAmong = (others : List CpuState) (p q : ℕ) (m : Machine) → p < length others → q < length others
    → p < length m.cpus → q < length m.cpus → Touches m p q
    → next (among others p q m) (Step p) ≡ (among others p q (next m (Step p)).0, (next m (Step p)).1)
