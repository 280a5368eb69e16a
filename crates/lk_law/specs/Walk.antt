-- The queue as it stands in words and nodes: the walk from the head's node, each node to the one
-- behind it.
use Rattle.std.specs.Prelude.{◌≡◌, ◌≢◌, ◌≤◌, ℕ, Option, Some, None, true, false, List, [], ◌∷◌}
use Rattle.std.specs.Prelude.{length, map, slice_get}
use Rattle.std.proofs.Common.{zero, suc}
use Rattle.lk_names.specs.History.{LockHistory}
use Rattle.lk_names.specs.declared.names.Waiter.{Waiter}
use Rattle.lk_names.specs.declared.names.LockName.{LockName}
use Rattle.lk_word.specs.declared.spin_word.NodeName.{NodeName}
use Rattle.lk_rows.specs.declared.parts.Node.{Node}
use Rattle.lk_law.specs.Phase.{Phase, leads}
use Rattle.lk_law.specs.Phase.Phase.{Links}
use Rattle.lk_law.specs.Snapshot.{Snapshot}
use Rattle.lk_law.specs.Cna.{moves_aside, part, shown, front_cut, front_tip, first_node, named_by}
use Rattle.lk_law.specs.Agree.{SnapshotAgrees}

-- the walk from a node along its successors, for at most so many steps
abbrev pub walk : (NodeName → Option NodeName) → ℕ → Option NodeName → List NodeName
walk behind zero n = []
walk behind (suc c) None = []
walk behind (suc c) (Some n) = n ∷ walk behind c (behind n)

-- Right behind a node stands the one that it names as its next; where it names none, the node of
-- the waiter that has taken the tail from it and will link; and where there is no such waiter,
-- none.
pub record IsBehind (phase : Waiter → Phase) (own : Waiter → NodeName) (node : NodeName → Node)
    (behind : NodeName → Option NodeName) : Type 0 where
  pub linked : (a b : NodeName) → (node a).next ≡ Some b → behind a ≡ Some b
  pub linking : (a : NodeName) (u : Waiter)
      → (node a).next ≡ None
      → phase u ≡ Links a
      → behind a ≡ Some (own u)
  pub none : (a : NodeName)
      → (node a).next ≡ None
      → ((u : Waiter) → phase u ≢ Links a)
      → behind a ≡ None

-- the waiter leads the queue of the lock
abbrev pub LeadsQueue : Snapshot → LockName → Waiter → Type 0
LeadsQueue s l u = leads (s.phase l u) ((s.node (s.own u)).flag) ≡ true

-- Where a waiter leads the queue, main has the waiters of the walk from its node, in their order;
-- where none does, main is empty.
pub record IsTheWalk (s : Snapshot) (h : LockHistory) (l : LockName) : Type 0 where
  pub led : (behind : NodeName → Option NodeName)
      → IsBehind (s.phase l) s.own s.node behind
      → (u : Waiter)
      → LeadsQueue s l u
      → (c : ℕ)
      → length h.main ≤ c
      → walk behind c (Some (s.own u)) ≡ map s.own h.main
  pub unled : ((u : Waiter) → ¬ LeadsQueue s l u) → h.main ≡ []

-- In every snapshot that agrees with its histories, main of each lock is the walk, where the family
-- moves nobody aside.
abbrev pub MainIsTheWalk : Type 0
MainIsTheWalk = (s : Snapshot) (hs : LockName → LockHistory) (l : LockName) → SnapshotAgrees s hs
    → moves_aside s.mode ≡ false → IsTheWalk s (hs l) l

-- Where waiters are moved aside the same is true of what is shown of the lock: those that stand
-- aside are not in the queue, and a link that the head has cut, or will make good when it hands
-- off, is there.
pub record IsTheShownWalk (s : Snapshot) (h : LockHistory) (l : LockName) : Type 0 where
  pub led : (behind : NodeName → Option NodeName)
      → IsBehind (part h.second (s.phase l)) s.own
      (shown (front_cut s.own (s.stage l) (slice_get h.main 0)) s.node) behind
      → (u : Waiter)
      → LeadsQueue s l u
      → (c : ℕ)
      → length h.main ≤ c
      → walk behind c (Some (s.own u)) ≡ map s.own h.main
  pub unled : ((u : Waiter) → ¬ LeadsQueue s l u) → h.main ≡ []

-- Where waiters are moved aside the same is true of the queue as it is shown.
abbrev pub MainIsTheShownWalk : Type 0
MainIsTheShownWalk = (s : Snapshot) (hs : LockName → LockHistory) (l : LockName)
    → SnapshotAgrees s hs → moves_aside s.mode ≡ true → IsTheShownWalk s (hs l) l

-- The secondary queue is the walk from its first: each names the next one of it, as many as it has.
-- The last names none, but where the head has tied those that it passed over behind it: then it
-- names the first of those. And who leads knows the first, by its register, or by its flag before
-- it looked at it.
pub record IsTheSecondWalk (s : Snapshot) (h : LockHistory) (l : LockName) : Type 0 where
  pub walked : walk (λ n. (s.node n).next) (length h.second) (first_node s.own h.second)
      ≡ map s.own h.second
  pub ended : (i : ℕ) (u : Waiter)
      → slice_get h.second i ≡ Some u
      → slice_get h.second (suc i) ≡ None
      → (s.node (s.own u)).next ≡ front_tip (s.stage l) (slice_get h.main 0)
  pub known : (u : Waiter)
      → LeadsQueue s l u
      → h.second ≢ []
      → named_by (s.phase l u) (s.node (s.own u)).flag (s.kept u) ≡ first_node s.own h.second

-- The secondary queue is the walk from its first, whom the head knows.
abbrev pub SecondIsTheWalk : Type 0
SecondIsTheWalk = (s : Snapshot) (hs : LockName → LockHistory) (l : LockName) → SnapshotAgrees s hs
    → moves_aside s.mode ≡ true → IsTheSecondWalk s (hs l) l
