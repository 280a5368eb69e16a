-- What a sound world says of the word, and of the nodes, that a row meets: on this the steps of a
-- domain of threads may rest.
use Rattle.std.specs.Prelude.{◌≤◌, ℕ, Option, ◌≡◌, ◌≢◌, ◌<◌, Some, None, Bool, true, false}
use Rattle.std.specs.Prelude.{slice_get, is_some}
use Rattle.lk_names.specs.History.{LockHistory}
use Rattle.lk_names.specs.declared.names.Format.TheVariants.{Two}
use Rattle.lk_names.specs.declared.names.Waiter.{Waiter}
use Rattle.lk_names.specs.declared.names.LockName.{LockName}
use Rattle.lk_word.specs.declared.spin_word.NodeName.{NodeName}
use Rattle.lk_word.specs.declared.spin_word.Fields.{Fields}
use Rattle.lk_word.specs.declared.spin_word.Locked.TheVariants.{Free, Held, Slow}
use Rattle.lk_rows.specs.declared.parts.Flag.TheVariants.{Unset}
use Rattle.lk_rows.specs.declared.parts.Node.{Node}
use Rattle.lk_rows.specs.declared.parts.Frame.{Frame}
use Rattle.lk_rows.specs.declared.parts.Pc.{Pc}
use Rattle.lk_rows.specs.declared.parts.Pc.TheVariants.{U1, P2, P3, P4, G2, G3, G4, G5, G6, G7}
use Rattle.lk_rows.specs.declared.parts.Pc.TheVariants.{G8, G9, G10, G11, C1, C2, C3, C4, C5, C6}
use Rattle.lk_rows.specs.declared.parts.Pc.TheVariants.{C7, C8, C9, C10, E6, E8, E9, E13, E14}
use Rattle.lk_rows.specs.declared.parts.Pc.TheVariants.{E15, K1, K2, K3, U2, U3, U4}
use Rattle.lk_rows.specs.Machine.{rest_node}
use Rattle.lk_rows.specs.Moves.{node_of}
use Rattle.lk_law.specs.World.{World}
use Rattle.lk_law.specs.SpinWorld.{IsSoundSpinWorld}
use Rattle.lk_law.specs.Families.{chooses}
use Rattle.lk_law.specs.Premises.{Uses}
use Rattle.lk_law.specs.Agree.{halts}

-- Who releases, or leads and has taken the lock, meets a held byte; who has set pending meets it
-- set; who claims the lock or stakes it meets a free byte; and who stands in the queue meets a
-- tail. A head that stakes the lock may meet pending set, for a moment, by a waiter that will
-- clear it.
abbrev pub Known : Pc → Fields → Type 0
Known U1 x = x.locked ≡ Held
Known P2 x = x.pending ≡ true
Known P3 x = x.pending ≡ true
Known P4 x = (x.locked ≡ Free) × (x.pending ≡ true)
Known G5 x = is_some x.tail ≡ true
Known G6 x = is_some x.tail ≡ true
Known G7 x = is_some x.tail ≡ true
Known G8 x = (x.locked ≡ Free) × (is_some x.tail ≡ true)
Known G9 x = (x.locked ≡ Free) × (is_some x.tail ≡ true)
Known G10 x = (x.locked ≡ Held) × (is_some x.tail ≡ true)
Known G11 x = (x.locked ≡ Held) × (is_some x.tail ≡ true)
Known C1 x = (x.locked ≡ Held) × (is_some x.tail ≡ true)
Known C2 x = (x.locked ≡ Held) × (is_some x.tail ≡ true)
Known C3 x = (x.locked ≡ Held) × (is_some x.tail ≡ true)
Known C4 x = (x.locked ≡ Held) × (is_some x.tail ≡ true)
Known C5 x = (x.locked ≡ Held) × (is_some x.tail ≡ true)
Known C6 x = (x.locked ≡ Held) × (is_some x.tail ≡ true)
Known C7 x = (x.locked ≡ Held) × (is_some x.tail ≡ true)
Known C8 x = (x.locked ≡ Held) × (is_some x.tail ≡ true)
Known C9 x = (x.locked ≡ Held) × (is_some x.tail ≡ true)
Known C10 x = (x.locked ≡ Held) × (is_some x.tail ≡ true)
Known c x = x.locked ≢ Slow

-- The same where processors halt, and of the entry in the hash: who releases meets a byte that is
-- not free, and finds an entry where it is slow; who took the lock as slow, or hands it on to one
-- that halted, meets it so; and nobody enters a lock that is entered, or takes out another's entry.
abbrev pub KnownHalting : Pc → Frame → Fields → Option NodeName → Type 0
KnownHalting E6 f x entry = entry ≡ None
KnownHalting E8 f x entry = x.locked ≡ Slow
KnownHalting E9 f x entry = (x.locked ≡ Held) × (entry ≡ Some (node_of f.me))
KnownHalting E13 f x entry = (x.locked ≡ Held) × (is_some x.tail ≡ true)
KnownHalting E14 f x entry = (x.locked ≡ Held) × (is_some x.tail ≡ true)
KnownHalting E15 f x entry = (x.locked ≡ Held) × (is_some x.tail ≡ true)
KnownHalting K2 f x entry = x.locked ≡ Held
KnownHalting K3 f x entry = (x.locked ≡ Slow) × (entry ≡ None)
KnownHalting U2 f x entry = x.locked ≢ Free
KnownHalting U3 f x entry = (x.locked ≡ Slow) × (is_some entry ≡ true)
KnownHalting U4 f x entry = (x.locked ≡ Slow) × (entry ≡ None)
KnownHalting c f x entry = Unit {0}

-- Before the queue the own node is at rest; where it links, the node before it has no next; and
-- where it hands off, the flag of the next is unset.
abbrev pub KnownNodes : Pc → Frame → (NodeName → Node) → Type 0
KnownNodes G2 f node = node (node_of f.me) ≡ rest_node
KnownNodes G3 f node = node (node_of f.me) ≡ rest_node
KnownNodes G4 f node = node (node_of f.me) ≡ rest_node
KnownNodes G5 f node = (node (node_of f.prev)).next ≡ None
KnownNodes G11 f node = (node (node_of f.y)).flag ≡ Unset
KnownNodes E15 f node = (node (node_of f.y)).flag ≡ Unset
KnownNodes c f node = Unit {0}

-- In every sound world a frame at the row meets such a word, and such nodes.
abbrev pub RowKnows : Pc → Type 0
RowKnows c = (m : World) (hs : LockName → LockHistory) (w : Waiter) (f : Frame)
    → IsSoundSpinWorld m hs → m.frame w ≡ Some f → f.place ≡ Some c
    → (halts m.mode ≡ false → Known c (m.word f.lock)) × KnownNodes c f m.node
    × (halts m.mode ≡ true → KnownHalting c f (m.word f.lock) (m.entry f.lock))

-- the node is one of the four of its user's processor
pub record IsOwnNode (u : Waiter) (n : NodeName) : Type 0 where
  pub cpu : n.cpu ≡ u.cpu
  pub index : n.index < 4

-- In every sound world a tail is the node of a waiter that uses it.
abbrev pub TailIsUsed : Type 0
TailIsUsed = (m : World) (hs : LockName → LockHistory) (l : LockName) (n : NodeName)
    → IsSoundSpinWorld m hs → (m.word l).tail ≡ Some n
    → (u : Waiter) × Uses m u n × IsOwnNode u n

-- In every sound world the node to which a frame hands off is used by the second of the queue.
abbrev pub NextIsUsed : Type 0
NextIsUsed = (m : World) (hs : LockName → LockHistory) (w : Waiter) (f : Frame)
    → IsSoundSpinWorld m hs → m.frame w ≡ Some f → f.place ≡ Some G11
    → (u : Waiter) × Uses m u (node_of f.y) × IsOwnNode u (node_of f.y)
    × (slice_get (hs f.lock).main 1 ≡ Some u)

-- what the node is on which a row of the choice operates, besides the word
abbrev pub choice_node : Pc → Frame → Option NodeName
choice_node C2 f = f.b
choice_node C3 f = f.second
choice_node C4 f = f.t
choice_node C5 f = f.b
choice_node C6 f = f.second
choice_node C7 f = f.y
choice_node C8 f = f.y
choice_node C9 f = f.t
choice_node c f = f.me

-- In every sound world the node on which a row of the choice operates is used by a waiter, as one
-- of its own processor's.
abbrev pub ChoiceIsUsed : Type 0
ChoiceIsUsed = (m : World) (hs : LockName → LockHistory) (w : Waiter) (f : Frame) (c : Pc)
    → IsSoundSpinWorld m hs → m.frame w ≡ Some f → f.place ≡ Some c → chooses c ≡ true
    → (u : Waiter) × Uses m u (node_of (choice_node c f)) × IsOwnNode u (node_of (choice_node c f))

-- In every sound world no waiter that stands aside has seen more handoffs than the threshold.
abbrev pub PassesAreBounded : Type 0
PassesAreBounded = (m : World) (hs : LockName → LockHistory) (l : LockName) → IsSoundSpinWorld m hs
    → (i n : ℕ) → slice_get (hs l).passes i ≡ Some n → n ≤ m.threshold

-- In every sound world a node is used by one waiter at most, and it is one of its processor's.
abbrev pub NodeIsOnes : Type 0
NodeIsOnes = (m : World) (hs : LockName → LockHistory) (u v : Waiter) (n : NodeName)
    → IsSoundSpinWorld m hs → Uses m u n → Uses m v n → (u ≡ v) × IsOwnNode u n

-- In every sound world no node's count of handoffs is above the threshold.
abbrev pub RunsAreBounded : Type 0
RunsAreBounded = (m : World) (hs : LockName → LockHistory) (n : NodeName) → IsSoundSpinWorld m hs
    → (m.node n).runs ≤ m.threshold

-- In every sound world a head that is about to tell the next of a secondary queue has made fewer
-- handoffs than the threshold since that queue became non-empty.
abbrev pub RunIsShort : Type 0
RunIsShort = (m : World) (hs : LockName → LockHistory) (w : Waiter) (f : Frame)
    → IsSoundSpinWorld m hs → m.frame w ≡ Some f → f.place ≡ Some C7 → is_some f.second ≡ true
    → (m.node (node_of f.me)).runs < m.threshold

-- In every sound world the last that a head has passed over stands in the main queue, as far
-- behind it as it has counted.
abbrev pub SkippedIsQueued : Type 0
SkippedIsQueued = (m : World) (hs : LockName → LockHistory) (w : Waiter) (f : Frame)
    → IsSoundSpinWorld m hs → m.frame w ≡ Some f → f.place ≡ Some C2
    → (u : Waiter) × (slice_get (hs f.lock).main f.k ≡ Some u)

-- In the second format who stands aside is a task: no waiter in an interrupt is moved there.
abbrev pub AsideAreTasks : Type 0
AsideAreTasks = (m : World) (hs : LockName → LockHistory) (l : LockName) (i : ℕ) (u : Waiter)
    → IsSoundSpinWorld m hs → m.format ≡ Two → slice_get (hs l).second i ≡ Some u → u.ctx ≡ 0

-- In every sound world who stands in the main queue of a lock has a frame, and stands in it once.
abbrev pub QueueIsDistinct : Type 0
QueueIsDistinct = (m : World) (hs : LockName → LockHistory) (l : LockName) → IsSoundSpinWorld m hs
    → ((i : ℕ) (u : Waiter) → slice_get (hs l).main i ≡ Some u → (f : Frame) × (m.frame u ≡ Some f))
    × ((i j : ℕ) (u : Waiter) → slice_get (hs l).main i ≡ Some u → slice_get (hs l).main j ≡ Some u
    → i ≡ j)

-- Where processors halt: in every sound world the node to which a head is about to hand off
-- is used by the second of the queue;
abbrev pub HaltingNextIsUsed : Type 0
HaltingNextIsUsed = (m : World) (hs : LockName → LockHistory) (w : Waiter) (f : Frame)
    → IsSoundSpinWorld m hs → m.frame w ≡ Some f → f.place ≡ Some E15
    → (u : Waiter) × Uses m u (node_of f.y) × IsOwnNode u (node_of f.y)
    × (slice_get (hs f.lock).main 1 ≡ Some u)

-- the node that a holder looks after, or of whose processor a releaser will kick, is used by the
-- first of the queue;
abbrev pub names_front : Pc → Bool
names_front K1 = true
names_front K2 = true
names_front K3 = true
names_front U4 = true
names_front _ = false

-- the node that such a row has for the head: a holder that looks after it, or a release that will
-- kick it
abbrev pub front_named : Pc → Frame → Option NodeName
front_named K1 f = f.y
front_named K2 f = f.y
front_named K3 f = f.y
front_named U4 f = f.target
front_named c f = None

-- In every sound world that node is used by the first of the queue.
abbrev pub NamedFrontIsUsed : Type 0
NamedFrontIsUsed = (m : World) (hs : LockName → LockHistory) (w : Waiter) (f : Frame) (c : Pc)
    → IsSoundSpinWorld m hs → m.frame w ≡ Some f → f.place ≡ Some c → names_front c ≡ true
    → (u : Waiter) × Uses m u (node_of (front_named c f)) × IsOwnNode u (node_of (front_named c f))
    × (slice_get (hs f.lock).main 0 ≡ Some u)

-- and so is the node of a lock's entry in the hash.
abbrev pub EntryIsUsed : Type 0
EntryIsUsed = (m : World) (hs : LockName → LockHistory) (l : LockName) (n : NodeName)
    → IsSoundSpinWorld m hs → halts m.mode ≡ true → m.entry l ≡ Some n
    → (u : Waiter) × Uses m u n × IsOwnNode u n × (slice_get (hs l).main 0 ≡ Some u)

-- Where no processor halts none has halted.
abbrev pub NobodyHalts : Type 0
NobodyHalts = (m : World) (hs : LockName → LockHistory) → IsSoundSpinWorld m hs
    → halts m.mode ≡ false → (p : ℕ) → m.halted p ≡ false
