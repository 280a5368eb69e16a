-- What a processor does for the spin queue, as far as the laws read it: nine phases stand for the
-- places of all rows.
use Rattle.std.specs.Prelude.{ℕ, Bool, true, false, Option, Some, None}

-- what a processor does for the queue
pub data Phase : Type 0 where
  -- it is outside: finished, or before its first row
  Outside : Phase
  -- it is outside, and its node is fresh
  Fresh : Phase
  -- it has arrived behind this one, and will link its node behind that one's
  Links : ℕ → Phase
  -- it waits, and no link is in its hand
  Waits : Phase
  -- it has cut the link from this one to itself
  Cuts : ℕ → Phase
  -- the same, and it has grabbed the link from itself to the second
  Bridges : ℕ → ℕ → Phase
  -- it holds the lock
  Holds : Phase
  -- it holds the lock, and has grabbed the link from itself to this one, to which it will hand the
  -- lock
  Hands : ℕ → Phase
  -- it has lost a register that its next row reads; nobody is here
  Astray : Phase

-- it stands in the queue
abbrev pub queues : Phase → Bool
queues Outside = false
queues Fresh = false
queues _ = true

-- it holds the lock
abbrev pub holds : Phase → Bool
holds Holds = true
holds (Hands b) = true
holds _ = false

-- it may be the first of the queue: it holds the lock, or it waits and its flag is set
abbrev pub leads : Phase → Bool → Bool
leads Holds flag = true
leads (Hands b) flag = true
leads Waits flag = flag
leads _ flag = false

-- it may stand behind another
abbrev pub follows : Phase → Bool
follows (Links a) = true
follows Waits = true
follows (Cuts a) = true
follows (Bridges a b) = true
follows _ = false

-- the one before it, where the link from that one is in its hand: still to come, or cut
abbrev pub link_before : Phase → Option ℕ
link_before (Links a) = Some a
link_before (Cuts a) = Some a
link_before (Bridges a b) = Some a
link_before _ = None

-- the one behind it, where the link to that one is in its hand: grabbed
abbrev pub link_behind : Phase → Option ℕ
link_behind (Bridges a b) = Some b
link_behind (Hands b) = Some b
link_behind _ = None

-- what the next of a node says, where v stands behind it: v, where the link is in neither's hand
abbrev pub shown : Option ℕ → Option ℕ → ℕ → Option ℕ
shown None None v = Some v
shown _ _ v = None
