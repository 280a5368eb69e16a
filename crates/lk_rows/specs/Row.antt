-- A row is one operation on one word or one field, told as data: by the acting frame and the value
-- that it meets there it says what it stores, where it leads, what it tells and what it counts. One
-- general application makes the row on a machine of it.
use Rattle.std.specs.Prelude.{◌+◌, ℕ, Option, Some, None, Bool, false, List, [], ◌∷◌}
use Rattle.lk_names.specs.declared.events.Event.{Event}
use Rattle.lk_names.specs.declared.events.What.{What}
use Rattle.lk_names.specs.declared.events.What.TheVariants.{Pass}
use Rattle.lk_word.specs.declared.spin_word.NodeName.{NodeName}
use Rattle.lk_rows.specs.declared.parts.Counts.{Counts}
use Rattle.lk_rows.specs.declared.parts.Frame.{Frame}
use Rattle.lk_rows.specs.declared.parts.Pc.{Pc}
use Rattle.lk_rows.specs.declared.parts.Why.{Why}
use Rattle.lk_rows.specs.Machine.{Machine, set_counts, set_node, set_top, rest_node}
use Rattle.lk_rows.specs.Moves.{granted, freed, done, missed, leave, waiting, waiter_of}

-- one of the ten counts
pub data Counter : Type 0 where
  LockPending : Counter
  LockSlowpath : Counter
  LockUseNode2 : Counter
  LockUseNode3 : Counter
  LockUseNode4 : Counter
  LockNoNode : Counter
  PvLockStealing : Counter
  PvWaitNode : Counter
  PvWaitHead : Counter
  PvKickUnlock : Counter

-- one register of a frame gets a new value
pub data Change : Type 0 where
  Prev : Option NodeName → Change
  Second : Option NodeName → Change
  Y : Option NodeName → Change
  Left : ℕ → Change
  A : Option NodeName → Change
  B : Option NodeName → Change
  K : ℕ → Change
  T : Option NodeName → Change
  Reason : Why → Change
  Tailed : Bool → Change
  HashedIs : Bool → Change
  TargetIs : Option NodeName → Change

-- where a row leads
pub data Lead : Type 0 where
  -- the frame goes to this place, with these registers changed
  Goes : Pc → List Change → Lead
  -- the frame gets this node as its own, or none, reset to rest, and goes to this place
  Enters : Option NodeName → Pc → Lead
  -- the lock is granted
  Granted : Lead
  -- the lock is freed
  Freed : Lead
  -- the try has failed
  Missed : Lead
  -- the operation is done
  Done : Lead
  -- the frame takes the wait lock of its lock, and then goes to this place
  TakesWait : Pc → Lead
  -- the frame leaves the slow path, and the lock is granted
  Leaves : Lead
  -- the lock is freed, and the frame goes to this place, with these registers changed
  Yields : Pc → List Change → Lead

-- what a row tells
pub data Tell : Type 0 where
  Nothing : Tell
  Says : What → Tell
  -- the head of the frame's lock hands off to this node's waiter, after so many were moved aside
  Passes : NodeName → ℕ → Tell

-- What a row does where it meets a value of this type: `stores` is none where it only looks, or
-- where its exchange fails.
pub record Effect (A : Type 0) : Type 0 where
  pub stores : Option A
  pub leads : Lead
  pub tells : Tell
  pub counts : List Counter

-- the row only looks, and the frame goes to this place
abbrev pub looks : {A : Type 0} → Pc → Effect A
looks c = record { stores = None; leads = Goes c []; tells = Nothing; counts = [] }

-- the same, and registers change
abbrev pub learns : {A : Type 0} → Pc → Change → Effect A
learns c change =
    record { stores = None; leads = Goes c (change ∷ []); tells = Nothing; counts = [] }

-- and several registers change
abbrev pub learns_all : {A : Type 0} → Pc → List Change → Effect A
learns_all c changes =
    record { stores = None; leads = Goes c changes; tells = Nothing; counts = [] }

-- where a head goes that looks for its successor: back until there is one, and then on with it
abbrev pub next_lead : Pc → Pc → Option NodeName → Lead
next_lead back on None = Goes back []
next_lead back on (Some n) = Goes on (Y (Some n) ∷ [])

-- the row only looks, in the link of the own node, for the successor
abbrev pub looks_for_next : Pc → Pc → Option NodeName → Effect (Option NodeName)
looks_for_next back on x =
    record { stores = None; leads = next_lead back on x; tells = Nothing; counts = [] }

-- the row stores a value, and the frame goes to this place
abbrev pub writes : {A : Type 0} → A → Pc → Effect A
writes x c = record { stores = Some x; leads = Goes c []; tells = Nothing; counts = [] }

-- the try has failed
abbrev pub misses : {A : Type 0} → What → Effect A
misses what = record { stores = None; leads = Missed; tells = Says what; counts = [] }

-- the frame with one register changed
abbrev pub with_change : Frame → Change → Frame
with_change f (Prev n) = record f { prev = n }
with_change f (Second n) = record f { second = n }
with_change f (Y n) = record f { y = n }
with_change f (Left n) = record f { left = n }
with_change f (A n) = record f { a = n }
with_change f (B n) = record f { b = n }
with_change f (K n) = record f { k = n }
with_change f (T n) = record f { t = n }
with_change f (Reason n) = record f { why = n }
with_change f (Tailed b) = record f { tailed = b }
with_change f (HashedIs b) = record f { hashed = b }
with_change f (TargetIs n) = record f { target = n }

-- the frame with registers changed, in their order
abbrev pub changed_all : Frame → List Change → Frame
changed_all f [] = f
changed_all f (c ∷ cs) = changed_all (with_change f c) cs

-- the frame at a place, with registers changed
abbrev pub gone : Frame → Pc → List Change → Frame
gone f c cs = record (changed_all f cs) { place = Some c }

-- the frame with this node as its own, at the beginning of the slow path
abbrev pub entered : Frame → Option NodeName → Pc → Frame
entered f me c = record f { me = me; second = None; hashed = false; place = Some c }

-- the counts with one more
abbrev pub count : Counts → Counter → Counts
count n LockPending = record n { lock_pending = n.lock_pending + 1 }
count n LockSlowpath = record n { lock_slowpath = n.lock_slowpath + 1 }
count n LockUseNode2 = record n { lock_use_node2 = n.lock_use_node2 + 1 }
count n LockUseNode3 = record n { lock_use_node3 = n.lock_use_node3 + 1 }
count n LockUseNode4 = record n { lock_use_node4 = n.lock_use_node4 + 1 }
count n LockNoNode = record n { lock_no_node = n.lock_no_node + 1 }
count n PvLockStealing = record n { pv_lock_stealing = n.pv_lock_stealing + 1 }
count n PvWaitNode = record n { pv_wait_node = n.pv_wait_node + 1 }
count n PvWaitHead = record n { pv_wait_head = n.pv_wait_head + 1 }
count n PvKickUnlock = record n { pv_kick_unlock = n.pv_kick_unlock + 1 }

-- the counts with each of these one more
abbrev pub count_all : Counts → List Counter → Counts
count_all n [] = n
count_all n (c ∷ cs) = count_all (count n c) cs

-- on a machine

-- the machine after it has counted
abbrev pub counted : Machine → List Counter → Machine
counted m [] = m
counted m (c ∷ cs) = set_counts m (count_all m.counts (c ∷ cs))

-- the machine with this node at rest, if there is one
abbrev pub with_rest : Machine → Option NodeName → Machine
with_rest m None = m
with_rest m (Some n) = set_node m n rest_node

-- the top frame f of a processor goes where its row leads
abbrev pub moved : Machine → ℕ → Frame → Lead → Machine
moved m p f (Goes c cs) = set_top m p (gone f c cs)
moved m p f (Enters me c) = set_top (with_rest m me) p (entered f me c)
moved m p f Granted = granted m p
moved m p f Freed = freed m p
moved m p f Missed = missed m p
moved m p f Done = done m p
moved m p f (TakesWait c) = set_top m p (waiting f c)
moved m p f Leaves = granted (leave m p) p
moved m p f (Yields c cs) = set_top m p (gone f c cs)

-- the event of a row of the frame f
abbrev pub event_of : Machine → ℕ → Frame → Tell → Option Event
event_of m p f Nothing = None
event_of m p f (Says what) = Some (record { by = record { cpu = p; ctx = f.ctx }; what = what })
event_of m p f (Passes n k) =
    Some (record { by = record { cpu = p; ctx = f.ctx }; what = Pass f.lock (waiter_of m n) k })

-- the machine after a row or an act, and its event
abbrev pub Answer : Type 0
Answer = Machine × Option Event

-- The general application: m is the machine that the row met, n the same after its store.
abbrev pub applied : {A : Type 0} → Machine → Machine → ℕ → Frame → Effect A → Answer
applied m n p f o = (moved (counted n o.counts) p f o.leads, event_of m p f o.tells)
