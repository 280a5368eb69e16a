-- When a snapshot agrees with the histories of all locks; and what a row changes of a snapshot.
use Rattle.std.specs.Prelude.{◌⊎◌, slice_get, ◌≡◌, ◌≢◌, ◌+◌, ◌<◌, ℕ, Option, Some, None, Bool, true}
use Rattle.std.specs.Prelude.{false, List, [], ◌∷◌}
use Rattle.lk_names.specs.History.{LockHistory}
use Rattle.lk_names.specs.declared.holder.Manner.TheVariants.{Spins}
use Rattle.lk_names.specs.declared.holder.Holder.{Holder}
use Rattle.lk_names.specs.declared.names.Waiter.{Waiter}
use Rattle.lk_names.specs.declared.names.LockName.{LockName}
use Rattle.lk_word.specs.declared.spin_word.Fields.{Fields}
use Rattle.lk_law.specs.Phase.{Phase}
use Rattle.lk_law.specs.Phase.Phase.{Idle, Holds}
use Rattle.lk_law.specs.Stage.Stage.{Rests}
use Rattle.lk_law.specs.Pv.{PostsAgree, agrees, at_halt}
use Rattle.lk_law.specs.Pv.Post.{Off, Kicks}
use Rattle.lk_names.specs.declared.names.Mode.{Mode}
use Rattle.lk_names.specs.declared.names.Mode.TheVariants.{Pv}
use Rattle.lk_word.specs.declared.spin_word.NodeName.{NodeName}
use Rattle.lk_rows.specs.declared.parts.State.{State}
use Rattle.lk_law.specs.Cna.{ListsAgree, moves_aside}
use Rattle.lk_law.specs.Snapshot.{Snapshot, Moves, HolderAgrees, PendingAgrees, NodesAgree, spins}

-- the holders of a spinlock, of which there is one at most
abbrev pub sole : Option Waiter → List Holder
sole None = []
sole (Some w) = record { waiter = w; manner = Spins } ∷ []

-- the family halts processors
abbrev pub halts : Mode → Bool
halts Pv = true
halts _ = false

-- the state of a waiter's node
abbrev pub node_state : Snapshot → Waiter → State
node_state s u = (s.node (s.own u)).state

-- a kick of the processor is remembered, or on its way
abbrev pub Owed : Snapshot → ℕ → Type 0
Owed s p = (s.kicked p ≡ true)
    ⊎ ((l : LockName) × (u : Waiter) × (t : NodeName) × (s.post l u ≡ Kicks t) × (t.cpu ≡ p))

-- One lock's posts agree with its byte, its entry in the hash, the states of the nodes and the
-- phases; and a head that sleeps while nobody holds the lock is owed a kick.
pub record ParaAgrees (s : Snapshot) (h : LockHistory) (l : LockName) : Type 0 where
  pub posts : PostsAgree (s.word l).locked (s.entry l) (slice_get h.main 0) (s.post l)
      (node_state s)
      s.own (λ u. Owed s u.cpu)
  pub suits : (u : Waiter) → agrees (s.post l u) (s.phase l u) ≡ true

-- One lock's word, nodes and phases agree with its history.
pub record LockAgrees (s : Snapshot) (h : LockHistory) (l : LockName) : Type 0 where
  pub holder : Option Waiter
  pub holders : h.holders ≡ sole holder
  pub hold : HolderAgrees (s.word l).locked (s.phase l) (λ u. spins (s.held u l)) holder
  pub pend : PendingAgrees (s.word l).locked (s.word l).pending (s.phase l)
  pub posts : halts s.mode ≡ true → ParaAgrees s h l
  pub lists : ListsAgree (moves_aside s.mode) (s.word l).tail (s.phase l) s.own s.node s.local
      s.threshold (s.stage l) s.kept h.main h.second h.passes

-- The snapshot agrees with these histories: each lock does, each node is used by one waiter, and a
-- waiter acts on one lock at a time.
pub record SnapshotAgrees (s : Snapshot) (hs : LockName → LockHistory) : Type 0 where
  pub locks : (l : LockName) → LockAgrees s (hs l) l
  pub nodes : NodesAgree s.phase s.own s.slow s.queued
  pub alone : (k l : LockName) (u : Waiter) → k ≢ l → s.phase k u ≢ Idle → s.phase l u ≡ Idle
  -- only one waiter of a processor is about to halt or halted
  pub sleeper : halts s.mode ≡ true
      → (k l : LockName) (u z : Waiter)
      → at_halt (s.post k u) ≡ true
      → at_halt (s.post l z) ≡ true
      → u.cpu ≡ z.cpu
      → u ≡ z

-- what a row of w on the lock l changes: its phase, the lock's word, and whether w holds it; and of
-- its choice of the next, what it knows. Who does not hold the lock as the head has not begun to
-- choose.
pub record Step (s s' : Snapshot) (w : Waiter) (l : LockName) (r r' : Phase) (x : Fields)
    (h h' : Bool) : Type 0 where
  pub acts : Moves (s.phase l) (s'.phase l) w r r'
  pub phases : (k : LockName) → k ≢ l → (u : Waiter) → s'.phase k u ≡ s.phase k u
  pub idle : (k : LockName) → k ≢ l → s.phase k w ≡ Idle
  pub word : s'.word l ≡ x
  pub words : (k : LockName) → k ≢ l → s'.word k ≡ s.word k
  pub holds : Moves (λ u. spins (s.held u l)) (λ u. spins (s'.held u l)) w h h'
  pub helds : (k : LockName) → k ≢ l → (u : Waiter) → spins (s'.held u k) ≡ spins (s.held u k)
  pub owns : (u : Waiter) → u ≢ w → s'.own u ≡ s.own u
  pub mode : s'.mode ≡ s.mode
  pub threshold : s'.threshold ≡ s.threshold
  pub local : s'.local ≡ s.local
  pub stages : (k : LockName) (u : Waiter) → u ≢ w → s'.stage k u ≡ s.stage k u
  pub was_calm : (k : LockName) → k ≢ l → s.stage k w ≡ Rests
  pub calm : (k : LockName) → k ≢ l → s'.stage k w ≡ Rests
  pub rests : r' ≢ Holds → s'.stage l w ≡ Rests
  pub kepts : (u : Waiter) → u ≢ w → s'.kept u ≡ s.kept u
  pub posts : (k : LockName) (u : Waiter) → u ≢ w → s'.post k u ≡ s.post k u
  pub were_off : (k : LockName) → k ≢ l → s.post k w ≡ Off
  pub off : (k : LockName) → k ≢ l → s'.post k w ≡ Off
  pub entries : (k : LockName) → k ≢ l → s'.entry k ≡ s.entry k
  -- where processors halt: who sleeps at another lock is owed its kick still, and who falls asleep
  -- is the only one of its processor
  pub owed : halts s.mode ≡ true
      → (k : LockName) (u : Waiter)
      → k ≢ l
      → at_halt (s.post k u) ≡ true
      → Owed s u.cpu
      → Owed s' u.cpu
  pub lone : halts s.mode ≡ true
      → at_halt (s'.post l w) ≡ true
      → (k : LockName) (u : Waiter)
      → u.cpu ≡ w.cpu
      → at_halt (s.post k u) ≡ true
      → u ≡ w

-- no waiter enters or leaves the slow path
pub record Stays (s s' : Snapshot) (w : Waiter) : Type 0 where
  pub own : s'.own w ≡ s.own w
  pub slow : (u : Waiter) → s'.slow u ≡ s.slow u
  pub queued : (p : ℕ) → s'.queued p ≡ s.queued p

-- the waiter knows of the secondary queue what it knew, and has come no further with its choice
pub record Knows (s s' : Snapshot) (w : Waiter) (l : LockName) : Type 0 where
  pub stage : s'.stage l w ≡ s.stage l w
  pub kept : s'.kept w ≡ s.kept w
  pub post : s'.post l w ≡ s.post l w
  pub entry : s'.entry l ≡ s.entry l
  pub kicked : (p : ℕ) → s'.kicked p ≡ s.kicked p

-- no context of the waiter's processor above it is in the slow path
pub record IsOnTop (s : Snapshot) (w : Waiter) : Type 0 where
  pub top : (c : ℕ) → w.ctx < c → s.slow (record { cpu = w.cpu; ctx = c }) ≡ false
  pub low : w.ctx < 6

-- the waiter leaves the slow path
pub record LeavesSlowPath (s s' : Snapshot) (w : Waiter) : Type 0 where
  pub slow : Moves s.slow s'.slow w true false
  pub here : s'.queued w.cpu + 1 ≡ s.queued w.cpu
  pub queued : (p : ℕ) → p ≢ w.cpu → s'.queued p ≡ s.queued p
  pub on_top : IsOnTop s w

-- the waiter enters the slow path
pub record EntersSlowPath (s s' : Snapshot) (w : Waiter) : Type 0 where
  pub slow : Moves s.slow s'.slow w false true
  pub here : s'.queued w.cpu ≡ s.queued w.cpu + 1
  pub queued : (p : ℕ) → p ≢ w.cpu → s'.queued p ≡ s.queued p
  pub on_top : IsOnTop s w
