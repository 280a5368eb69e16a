-- The words of `Words` for a call with its node, and what its frame has at each place.
use Rattle.std.specs.Prelude.{Option}
use Rattle.lk_word.specs.declared.spin_word.NodeName.{NodeName}
use Rattle.lk_rows.specs.declared.parts.Frame.{Frame}
use Rattle.lk_rows.specs.declared.parts.Pc.{Pc}
use Rattle.lk_domain.specs.Words.{IsNode}
use Rattle.lk_domain.specs.declared.cpu.Cpu.{Cpu}
use Rattle.lk_run.specs.Frames as frame
use Rattle.lk_run.specs.Resting as rest
use Rattle.lk_run.specs.Words as call
use Rattle.lk_run.specs.declared.call.Queued.{Queued}
use Rattle.lk_run.specs.declared.rest.Rest.{Rest}

-- the node is one of the domain
abbrev pub IsNodeOf : Queued → NodeName → Type 0
IsNodeOf q = IsNode q.call.domain.now.plan

-- the frame has its node, and more

abbrev pub Owns : Queued → Frame → Type 0
Owns q = frame.Owns q.own

abbrev pub Follows : NodeName → Queued → Frame → Type 0
Follows prev q = frame.Follows q.own prev

abbrev pub Fronts : Option NodeName → Queued → Frame → Type 0
Fronts second q = frame.Fronts q.own second

-- where it stands, and what its rows and paths do

abbrev pub At : Queued → Pc → (Queued → Frame → Type 0) → Cpu → Type 0
At q c P cpu = call.At q.call c (P q) cpu

abbrev pub Steps : Queued → Pc → (Queued → Frame → Type 0) → Pc → (Queued → Frame → Type 0) → Cpu
    → Cpu → Type 0
Steps q a P b Q old new = call.Steps q.call a (P q) b (Q q) old new

abbrev pub Looks : Queued → Pc → (Queued → Frame → Type 0) → Cpu → Cpu → Type 0
Looks q a P old new = call.Looks q.call a (P q) old new

abbrev pub Takes : Queued → Pc → (Queued → Frame → Type 0) → Cpu → Cpu → Type 0
Takes q a P old new = call.Takes q.call a (P q) old new

abbrev pub Turns : Queued → Pc → (Queued → Frame → Type 0) → Option Rest → Cpu → Cpu → Type 0
Turns q a P next old new = rest.Turns q.call a (P q) next old new
