-- What a running processor may store into nodes, and which nodes its rows name, in every sound
-- world.
use Rattle.std.specs.Prelude.{◌≡◌, ◌≢◌, ℕ, Bool, Some, true, false, ◌≤◌}
use Rattle.lk_names.specs.History.{LockHistory}
use Rattle.lk_names.specs.declared.names.Waiter.{Waiter}
use Rattle.lk_names.specs.declared.names.LockName.{LockName}
use Rattle.lk_word.specs.declared.spin_word.NodeName.{NodeName}
use Rattle.lk_rows.specs.declared.parts.Flag.TheVariants.{Unset, Second}
use Rattle.lk_rows.specs.declared.parts.Node.{Node}
use Rattle.lk_rows.specs.declared.parts.Frame.{Frame}
use Rattle.lk_rows.specs.declared.parts.Pc.{Pc}
use Rattle.lk_rows.specs.declared.parts.Pc.TheVariants.{G5, G6, G10, C1, C2, C3, C4, C7, C8, C9}
use Rattle.lk_rows.specs.declared.parts.Why.{Why}
use Rattle.lk_rows.specs.declared.parts.Why.TheVariants as why
use Rattle.lk_rows.specs.Moves.{node_of}
use Rattle.lk_law.specs.Agree.{halts}
use Rattle.lk_law.specs.Cna.{moves_aside}
use Rattle.lk_law.specs.Families.{chooses}
use Rattle.lk_law.specs.Known.{IsOwnNode, choice_node}
use Rattle.lk_law.specs.Premises.{IsShallow, Uses, GoesTo}
use Rattle.lk_law.specs.SoundWorld.{IsSoundWorld}
use Rattle.lk_law.specs.SpinWorld.{IsSoundSpinWorld}
use Rattle.lk_law.specs.Steps.{put_node, row_in}
use Rattle.lk_law.specs.World.{World}

-- nobody uses the node
abbrev pub IsFree : World → NodeName → Type 0
IsFree m n = (u : Waiter) → Uses m u n → ⊥

-- what may be stored into a node: a count of handoffs up to the threshold, and, where nobody is
-- moved aside, no flag that names a secondary queue
abbrev pub IsPlainNode : World → Node → Type 0
IsPlainNode m x = (x.runs ≤ m.threshold)
    × (moves_aside m.mode ≡ false → (k : NodeName) → x.flag ≢ Second k)

-- What is stored into a node that nobody uses keeps every sound world.
abbrev pub FreeNodeKeeps : Type 0
FreeNodeKeeps = (m : World) (hs : LockName → LockHistory) (n : NodeName) (x : Node)
    → IsSoundWorld m hs → IsFree m n → IsPlainNode m x
    → IsSoundWorld (put_node m n x) hs

-- The node that the next frame of a processor gets is used by nobody.
abbrev pub FreshIsFree : Type 0
FreshIsFree = (m : World) (hs : LockName → LockHistory) (p : ℕ) → IsSoundSpinWorld m hs
    → IsShallow m p → IsFree m (record { cpu = p; index = m.queued p })

-- The node before that of a frame that links is used.
abbrev pub PrevIsUsed : Type 0
PrevIsUsed = (m : World) (hs : LockName → LockHistory) (w : Waiter) (f : Frame)
    → IsSoundSpinWorld m hs → m.frame w ≡ Some f → f.place ≡ Some G5
    → (u : Waiter) × Uses m u (node_of f.prev) × IsOwnNode u (node_of f.prev)

-- The node to which the node of a head is linked that looks for the next is used.
abbrev pub LinkIsUsed : Type 0
LinkIsUsed = (m : World) (hs : LockName → LockHistory) (w : Waiter) (f : Frame) (n : NodeName)
    → IsSoundSpinWorld m hs → m.frame w ≡ Some f → f.place ≡ Some G10
    → (m.node (node_of f.me)).next ≡ Some n → (u : Waiter) × Uses m u n × IsOwnNode u n

-- Where a row hands off, some waiter uses the node that it names.
abbrev pub LeadGoesOn : Type 0
LeadGoesOn = (m : World) (hs : LockName → LockHistory) (w : Waiter) (f : Frame) (c : Pc)
    → IsSoundSpinWorld m hs → m.frame w ≡ Some f → f.place ≡ Some c
    → (to : Waiter) × GoesTo m to (row_in m w f c).1

-- A head finds the last of the secondary queue in the node of its first, and it is used.
abbrev pub SecondTailIsUsed : Type 0
SecondTailIsUsed = (m : World) (hs : LockName → LockHistory) (w : Waiter) (f : Frame)
    → IsSoundSpinWorld m hs → m.frame w ≡ Some f → f.place ≡ Some C3
    → (n : NodeName) × ((m.node (node_of f.second)).second_tail ≡ Some n)
    × ((u : Waiter) × Uses m u n × IsOwnNode u n)

-- a head looks along the links of the queue
abbrev pub looks_along : Pc → Bool
looks_along C1 = true
looks_along C2 = true
looks_along _ = false

-- The node to which that is linked at which it looks is used.
abbrev pub BehindIsUsed : Type 0
BehindIsUsed = (m : World) (hs : LockName → LockHistory) (w : Waiter) (f : Frame) (c : Pc)
    (n : NodeName)
    → IsSoundSpinWorld m hs → m.frame w ≡ Some f → f.place ≡ Some c → looks_along c ≡ true
    → (m.node (node_of (choice_node c f))).next ≡ Some n
    → (u : Waiter) × Uses m u n × IsOwnNode u n

-- The first of the secondary queue, as a flag names it, is used.
abbrev pub FirstIsUsed : Type 0
FirstIsUsed = (m : World) (hs : LockName → LockHistory) (w : Waiter) (f : Frame) (n : NodeName)
    → IsSoundSpinWorld m hs → m.frame w ≡ Some f → f.place ≡ Some G6
    → (m.node (node_of f.me)).flag ≡ Second n → (u : Waiter) × Uses m u n × IsOwnNode u n

-- a head tells the chosen one how long the run is, or hands off to it
abbrev pub tells_next : Pc → Bool
tells_next C7 = true
tells_next C8 = true
tells_next _ = false

-- The flag of the chosen one is unset, and who uses its node chooses nobody.
abbrev pub ChosenWaits : Type 0
ChosenWaits = (m : World) (hs : LockName → LockHistory) (w : Waiter) (f : Frame) (c : Pc)
    → IsSoundSpinWorld m hs → m.frame w ≡ Some f → f.place ≡ Some c → tells_next c ≡ true
    → ((m.node (node_of f.y)).flag ≡ Unset)
    × ((u : Waiter) (g : Frame) (d : Pc) → Uses m u (node_of f.y) → m.frame u ≡ Some g
    → g.place ≡ Some d → chooses d ≡ false)

-- Where no processor halts, the node that the link of a used node names is used.
abbrev pub LinkedIsUsed : Type 0
LinkedIsUsed = (m : World) (hs : LockName → LockHistory) (u : Waiter) (a n : NodeName)
    → IsSoundSpinWorld m hs → halts m.mode ≡ false → Uses m u a → (m.node a).next ≡ Some n
    → (w : Waiter) × Uses m w n × IsOwnNode w n

-- whether a head that stands at this place, for this reason, will link others behind the
-- secondary queue: those that it passed over, or the rest of the queue
abbrev pub will_link : Pc → Why → Bool
will_link C2 y = true
will_link C3 why.Append = true
will_link C3 why.Flush = true
will_link C4 y = true
will_link C9 y = true
will_link c y = false

-- The first of those that it will link is used.
abbrev pub PassedIsUsed : Type 0
PassedIsUsed = (m : World) (hs : LockName → LockHistory) (w : Waiter) (f : Frame) (c : Pc)
    → IsSoundSpinWorld m hs → m.frame w ≡ Some f → f.place ≡ Some c → will_link c f.why ≡ true
    → (u : Waiter) × Uses m u (node_of f.a) × IsOwnNode u (node_of f.a)
