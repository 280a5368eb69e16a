-- When the tail, the phases and the nodes agree with what a history tells.
use Rattle.std.specs.Prelude.{◌≡◌, ◌⊎◌, ℕ, Option, Some, None, true, [], ◌∷◌, ◌++◌, slice_get}
use Rattle.lk_osq.specs.Phase.{Phase, holds}
use Rattle.lk_osq.specs.Phase.Phase.{Waits}
use Rattle.lk_osq.specs.Queue.{OsqQueueAgrees}
use Rattle.lk_osq.specs.declared.nodes.Node.{Node}
use Rattle.lk_osq.specs.History.{Told}

-- nobody is there
pub record NobodyIsThere (t : Told) : Type 0 where
  pub holders : t.holders ≡ []
  pub waiting : t.waiting ≡ []
  pub handed : t.handed ≡ None

-- one holds the lock
pub record OneHolds (phase : ℕ → Phase) (t : Told) : Type 0 where
  pub holder : ℕ
  pub holders : t.holders ≡ holder ∷ []
  pub handed : t.handed ≡ None
  pub has : holds (phase holder) ≡ true

-- the lock was handed to the first that waits, which has still to see it
pub record OneIsHanded (phase : ℕ → Phase) (t : Told) : Type 0 where
  pub next : ℕ
  pub holders : t.holders ≡ []
  pub handed : t.handed ≡ Some next
  pub first : slice_get t.waiting 0 ≡ Some next
  pub waits : phase next ≡ Waits

-- The queue is the holder and behind it those that wait; and it is empty, or its first holds the
-- lock, or was handed it.
pub record OsqAgrees (tail : Option ℕ) (phase : ℕ → Phase) (node : ℕ → Node)
    (t : Told) : Type 0 where
  pub queue : OsqQueueAgrees tail phase node (t.holders ++ t.waiting)
  pub front : NobodyIsThere t ⊎ OneHolds phase t ⊎ OneIsHanded phase t
