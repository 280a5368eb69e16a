-- The words of `Words` for a call at the head of the queue, and what its frame has at each place.
use Rattle.std.specs.Prelude.{Option}
use Rattle.lk_word.specs.declared.spin_word.NodeName.{NodeName}
use Rattle.lk_rows.specs.declared.parts.Frame.{Frame}
use Rattle.lk_rows.specs.declared.parts.Pc.{Pc}
use Rattle.lk_domain.specs.Words.{IsNode}
use Rattle.lk_domain.specs.declared.cpu.Cpu.{Cpu}
use Rattle.lk_run.specs.Frames as frame
use Rattle.lk_run.specs.Resting as rest
use Rattle.lk_run.specs.Words as call
use Rattle.lk_run.specs.declared.call.Front.{Front}
use Rattle.lk_run.specs.declared.rest.Rest.{Rest}

-- the node is one of the domain
abbrev pub IsNodeOf : Front → NodeName → Type 0
IsNodeOf h = IsNode h.call.domain.now.plan

-- the frame has its node, and the first of the secondary queue that it knows, or this one

abbrev pub Fronts : Front → Frame → Type 0
Fronts h = frame.Fronts h.own h.second

abbrev pub FrontsWith : Option NodeName → Front → Frame → Type 0
FrontsWith second h = frame.Fronts h.own second

-- and more

abbrev pub Precedes : Option NodeName → NodeName → Front → Frame → Type 0
Precedes second y h = frame.Precedes h.own second y

abbrev pub Skips : NodeName → NodeName → Front → Frame → Type 0
Skips a b h = frame.Skips h.own h.second a b

abbrev pub Appends : NodeName → NodeName → NodeName → NodeName → Front → Frame → Type 0
Appends first a b y h = frame.Appends h.own first a b y

abbrev pub Ties : NodeName → NodeName → NodeName → NodeName → NodeName → Front → Frame → Type 0
Ties first a b y t h = frame.Ties h.own first a b y t

abbrev pub Parts : NodeName → NodeName → NodeName → Front → Frame → Type 0
Parts first b y h = frame.Parts h.own first b y

abbrev pub Flushes : NodeName → NodeName → Front → Frame → Type 0
Flushes first a h = frame.Flushes h.own first a

abbrev pub Returns : NodeName → NodeName → NodeName → Front → Frame → Type 0
Returns first a t h = frame.Returns h.own first a t

abbrev pub Promotes : NodeName → Front → Frame → Type 0
Promotes first h = frame.Promotes h.own first

abbrev pub Promoting : NodeName → NodeName → Front → Frame → Type 0
Promoting first t h = frame.Promoting h.own first t

-- where it stands, and what its rows and paths do

abbrev pub At : Front → Pc → (Front → Frame → Type 0) → Cpu → Type 0
At h c P cpu = call.At h.call c (P h) cpu

abbrev pub Steps : Front → Pc → (Front → Frame → Type 0) → Pc → (Front → Frame → Type 0) → Cpu
    → Cpu → Type 0
Steps h a P b Q old new = call.Steps h.call a (P h) b (Q h) old new

abbrev pub LooksOn : Front → Pc → (Front → Frame → Type 0) → (Front → Frame → Type 0) → Cpu → Cpu
    → Type 0
LooksOn h a P Q old new = call.LooksOn h.call a (P h) (Q h) old new

abbrev pub Looks : Front → Pc → (Front → Frame → Type 0) → Cpu → Cpu → Type 0
Looks h a P old new = call.LooksOn h.call a (P h) (P h) old new

abbrev pub Takes : Front → Pc → (Front → Frame → Type 0) → Cpu → Cpu → Type 0
Takes h a P old new = call.Takes h.call a (P h) old new

abbrev pub Turns : Front → Pc → (Front → Frame → Type 0) → Option Rest → Cpu → Cpu → Type 0
Turns h a P next old new = rest.Turns h.call a (P h) next old new
