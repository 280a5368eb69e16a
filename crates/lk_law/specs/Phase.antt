-- What a waiter does for one lock, as far as the laws read it: some fifteen phases stand for the
-- places of all rows.
use Rattle.std.specs.Prelude.{Bool, true, false}
use Rattle.lk_word.specs.declared.spin_word.NodeName.{NodeName}
use Rattle.lk_rows.specs.declared.parts.Flag.{Flag}
use Rattle.lk_rows.specs.declared.parts.Flag.TheVariants.{Go, Second}

-- what a waiter does for one lock, as far as the laws read it
pub data Phase : Type 0 where
  -- it does nothing for the lock
  Idle : Phase
  -- it is on its way, and has touched nothing of the lock
  Seeks : Phase
  -- it is about to release
  Releases : Phase
  -- it has set pending, and will clear it
  Undoes : Phase
  -- it has set pending, and waits for the holder
  Watches : Phase
  -- it has set pending, and the lock is free
  Claims : Phase
  -- it has a node that no other can reach
  Prepared : Phase
  -- it has the tail, and will link its node behind the one that it met
  Links : NodeName → Phase
  -- it waits for its flag
  Waits : Phase
  -- it leads the queue
  Leads : Phase
  -- it leads the queue, and the lock is free
  Stakes : Phase
  -- it leads the queue, and holds the lock
  Holds : Phase
  -- the same, and it knows the node to which it hands off
  Hands : NodeName → Phase
  -- it leads the queue, and has set pending so that nobody steals the lock
  Presses : Phase
  -- it was moved to the secondary queue, and waits there
  Aside : Phase
  -- it has handed off, holds the lock, and looks after the node that leads now
  Tends : NodeName → Phase

-- the phase has set the pending bit
abbrev pub pends : Phase → Bool
pends Undoes = true
pends Watches = true
pends Claims = true
pends Presses = true
pends _ = false

-- the phase will take the lock by the pending bit
abbrev pub watches : Phase → Bool
watches Watches = true
watches Claims = true
watches _ = false

-- the phase leads the queue of a free lock
abbrev pub stakes : Phase → Bool
stakes Stakes = true
stakes _ = false

-- the phase may take the free lock in its next step
abbrev pub claims : Phase → Bool
claims Claims = true
claims Stakes = true
claims _ = false

-- the phase stands in the main queue
abbrev pub queues : Phase → Bool
queues (Links n) = true
queues Waits = true
queues Leads = true
queues Stakes = true
queues Holds = true
queues (Hands n) = true
queues Presses = true
queues _ = false

-- the phase has a node of its own
abbrev pub has_node : Phase → Bool
has_node Prepared = true
has_node (Links n) = true
has_node Waits = true
has_node Leads = true
has_node Stakes = true
has_node Holds = true
has_node (Hands n) = true
has_node Aside = true
has_node Presses = true
has_node (Tends n) = true
has_node _ = false

-- the phase stands in the queue behind its head
abbrev pub follows : Phase → Bool
follows (Links n) = true
follows Waits = true
follows _ = false

-- the phase leads the queue, with this flag in its node
abbrev pub leads : Phase → Flag → Bool
leads Leads f = true
leads Stakes f = true
leads Holds f = true
leads (Hands n) f = true
leads Presses f = true
leads Waits Go = true
leads Waits (Second n) = true
leads _ _ = false

-- the phase is on its way to the lock, or holds it without the program's knowing it
abbrev pub seeks : Phase → Bool
seeks Idle = false
seeks Releases = false
seeks _ = true

-- the waiter has the lock, where by its program it holds it so
abbrev pub has_lock : Phase → Bool → Bool
has_lock Holds h = true
has_lock (Hands n) h = true
has_lock (Tends n) h = true
has_lock _ h = h
