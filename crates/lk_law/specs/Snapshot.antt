-- What the laws read of a machine or of running processors, as functions; and when its parts agree
-- with the history of a lock.
use Rattle.std.specs.Prelude.{◌==◌, ◌&&◌, ◌≡◌, ◌≢◌, ◌+◌, ◌<◌, ℕ, Option, if◌then◌else◌, Some, None}
use Rattle.std.specs.Prelude.{Bool, true, false, List, slice_get}
use Rattle.std.proofs.Common.{zero, suc}
use Rattle.lk_names.specs.declared.names.Mode.{Mode}
use Rattle.lk_names.specs.declared.holder.Manner.{Manner}
use Rattle.lk_names.specs.declared.holder.Manner.TheVariants.{Spins}
use Rattle.lk_names.specs.declared.names.Waiter.{Waiter}
use Rattle.lk_names.specs.declared.names.LockName.{LockName}
use Rattle.lk_word.specs.declared.spin_word.NodeName.{NodeName}
use Rattle.lk_word.specs.declared.spin_word.Fields.{Fields}
use Rattle.lk_word.specs.declared.spin_word.Locked.{Locked}
use Rattle.lk_word.specs.declared.spin_word.Locked.TheVariants.{Free}
use Rattle.lk_rows.specs.declared.parts.Flag.TheVariants.{Unset}
use Rattle.lk_rows.specs.declared.parts.Node.{Node}
use Rattle.lk_rows.specs.Machine.{rest_node}
use Rattle.lk_law.specs.Stage.{Stage}
use Rattle.lk_law.specs.Pv.{Post}
use Rattle.lk_law.specs.Phase.{Phase, has_lock, seeks, pends, watches, stakes, claims, queues}
use Rattle.lk_law.specs.Phase.{has_node, follows, leads}
use Rattle.lk_law.specs.Phase.Phase.{Releases, Links, Waits, Hands, Prepared}

-- what the laws read of all locks, waiters and nodes at one moment
pub record Snapshot : Type 0 where
  pub mode : Mode
  -- how many handoffs may pass a moved waiter by; and which waiters are local to another, which
  -- never moves them aside
  pub threshold : ℕ
  pub local : Waiter → Waiter → Bool
  pub word : LockName → Fields
  pub phase : LockName → Waiter → Phase
  -- the node of a waiter
  pub own : Waiter → NodeName
  pub node : NodeName → Node
  -- how a waiter holds a lock by its program, or by what its processor knows
  pub held : Waiter → LockName → Option Manner
  -- the waiter is in the slow path
  pub slow : Waiter → Bool
  -- how many waiters of a processor are in the slow path
  pub queued : ℕ → ℕ
  -- how far a head has come with its choice of the next
  pub stage : LockName → Waiter → Stage
  -- the first node of the secondary queue, as the waiter knows it
  pub kept : Waiter → Option NodeName
  -- where processors halt: what a waiter does besides its phase, the lock's entry in the hash, and
  -- of which processors a kick is remembered
  pub post : LockName → Waiter → Post
  pub entry : LockName → Option NodeName
  pub kicked : ℕ → Bool

-- the two are one node
abbrev pub same_node : NodeName → NodeName → Bool
same_node a b = (a.cpu == b.cpu) && (a.index == b.index)

-- the manner is that of a spinlock
abbrev pub spins : Option Manner → Bool
spins (Some Spins) = true
spins _ = false

-- one change of a map, at one waiter
pub record Moves {A : Type 0} (f g : Waiter → A) (w : Waiter) (x y : A) : Type 0 where
  pub was : f w ≡ x
  pub now : g w ≡ y
  pub others : (u : Waiter) → u ≢ w → g u ≡ f u

-- one change of the nodes
pub record Rewrites (f g : NodeName → Node) (n : NodeName) (x : Node) : Type 0 where
  pub now : g n ≡ x
  pub others : (k : NodeName) → k ≢ n → g k ≡ f k

-- The byte is free exactly where nobody has the lock; who has it, by its phase or its program, is
-- its one holder; who is on the way to it does not hold it; and who is about to release holds it.
pub record HolderAgrees (locked : Locked) (phase : Waiter → Phase) (held : Waiter → Bool)
    (holder : Option Waiter) : Type 0 where
  pub free : locked ≡ Free → holder ≡ None
  pub taken : holder ≡ None → locked ≡ Free
  pub has : (u : Waiter) → has_lock (phase u) (held u) ≡ true → holder ≡ Some u
  pub had : (u : Waiter) → holder ≡ Some u → has_lock (phase u) (held u) ≡ true
  pub without : (u : Waiter) → seeks (phase u) ≡ true → held u ≡ false
  pub releases : (u : Waiter) → phase u ≡ Releases → held u ≡ true

-- The pending bit is set exactly where one waiter has set it; where a waiter may take the lock in
-- its next step it is free; and a waiter that will take it by the pending bit does not stand beside
-- a head that may take it.
pub record PendingAgrees (locked : Locked) (pending : Bool) (phase : Waiter → Phase) : Type 0 where
  pub set : (u : Waiter) → pends (phase u) ≡ true → pending ≡ true
  pub one : (u v : Waiter) → pends (phase u) ≡ true → pends (phase v) ≡ true → u ≡ v
  pub someone : pending ≡ true → (u : Waiter) × (pends (phase u) ≡ true)
  pub free : (u : Waiter) → claims (phase u) ≡ true → locked ≡ Free
  pub apart : (u v : Waiter) → watches (phase u) ≡ true → stakes (phase v) ≡ true → ⊥

-- The waiters in a queueing phase are main, each once.
pub record MembersAgree (phase : Waiter → Phase) (main : List Waiter) : Type 0 where
  pub inside : (i : ℕ) (u : Waiter) → slice_get main i ≡ Some u → queues (phase u) ≡ true
  pub place : (u : Waiter) → queues (phase u) ≡ true → (i : ℕ) × (slice_get main i ≡ Some u)
  pub once : (i j : ℕ) (u : Waiter) → slice_get main i ≡ Some u → slice_get main j ≡ Some u → i ≡ j

-- The tail names the last of main, and nobody where there is none; the first leads, and those
-- behind it follow with their flags unset.
pub record EndsAgree (tail : Option NodeName) (phase : Waiter → Phase) (own : Waiter → NodeName)
    (node : NodeName → Node) (main : List Waiter) : Type 0 where
  pub no_tail : slice_get main 0 ≡ None → tail ≡ None
  pub tail_is : (i : ℕ) (u : Waiter)
      → slice_get main i ≡ Some u
      → slice_get main (suc i) ≡ None
      → tail ≡ Some (own u)
  pub first : (u : Waiter)
      → slice_get main 0 ≡ Some u
      → leads (phase u) ((node (own u)).flag) ≡ true
  pub behind : (i : ℕ) (u : Waiter)
      → slice_get main (suc i) ≡ Some u
      → (follows (phase u) ≡ true) × ((node (own u)).flag ≡ Unset)

-- Each node names the one behind it, but where that waiter will still link it, and then it names
-- none; the last names none; who hands off does so to the second; and a node that nobody can reach is
-- at rest.
pub record LinksAgree (phase : Waiter → Phase) (own : Waiter → NodeName) (node : NodeName → Node)
    (main : List Waiter) : Type 0 where
  pub linked : (i : ℕ) (u v : Waiter)
      → slice_get main i ≡ Some u
      → slice_get main (suc i) ≡ Some v
      → phase v ≡ Waits
      → (node (own u)).next ≡ Some (own v)
  pub linking : (i : ℕ) (u v : Waiter) (n : NodeName)
      → slice_get main i ≡ Some u
      → slice_get main (suc i) ≡ Some v
      → phase v ≡ Links n
      → (n ≡ own u) × ((node (own u)).next ≡ None)
  pub last : (i : ℕ) (u : Waiter)
      → slice_get main i ≡ Some u
      → slice_get main (suc i) ≡ None
      → (node (own u)).next ≡ None
  pub hand : (u : Waiter) (n : NodeName)
      → phase u ≡ Hands n
      → (v : Waiter) × (slice_get main 1 ≡ Some v) × (phase v ≡ Waits) × (own v ≡ n)
  pub fresh : (u : Waiter) → phase u ≡ Prepared → node (own u) ≡ rest_node

-- the waiters in a queueing phase, the word's tail and the nodes are one queue: main
pub record QueueAgrees (tail : Option NodeName) (phase : Waiter → Phase) (own : Waiter → NodeName)
    (node : NodeName → Node) (main : List Waiter) : Type 0 where
  pub members : MembersAgree phase main
  pub ends : EndsAgree tail phase own node main
  pub links : LinksAgree phase own node main

-- how many waiters of a processor below a context are in the slow path
abbrev pub before : (Waiter → Bool) → ℕ → ℕ → ℕ
before slow p zero = 0
before slow p (suc c) = before slow p c + (if slow (record { cpu = p; ctx = c }) then 1 else 0)

-- The count of a processor is how many of its waiters are in the slow path; and a waiter's node has
-- the number of such waiters below it, of which there are fewer than four. So each node is used by
-- one waiter.
pub record NodesAgree (phase : LockName → Waiter → Phase) (own : Waiter → NodeName)
    (slow : Waiter → Bool) (queued : ℕ → ℕ) : Type 0 where
  pub counted : (p : ℕ) → queued p ≡ before slow p 6
  pub slowly : (l : LockName) (u : Waiter) → has_node (phase l u) ≡ true → slow u ≡ true
  pub below : (l : LockName) (u : Waiter)
      → has_node (phase l u) ≡ true
      → before slow u.cpu u.ctx < 4
  pub placed : (l : LockName) (u : Waiter)
      → has_node (phase l u) ≡ true
      → own u ≡ record { cpu = u.cpu; index = before slow u.cpu u.ctx }
