-- The lists of a lock, by its family. Where waiters are moved aside, the secondary queue is the
-- history's, and the head knows its first.
use Rattle.std.specs.Prelude.{◌≡◌, ◌≢◌, ◌+◌, ◌<◌, ◌≤◌, ◌||◌, ◌⊎◌, ℕ, Option, if◌then◌else◌, Some}
use Rattle.std.specs.Prelude.{None, Bool, true, false, List, [], ◌∷◌, slice_get, length}
use Rattle.std.proofs.Common.{suc}
use Rattle.lk_names.specs.Names.{same_waiter}
use Rattle.lk_names.specs.declared.names.Mode.{Mode}
use Rattle.lk_names.specs.declared.names.Mode.TheVariants.{Cna}
use Rattle.lk_names.specs.declared.names.Waiter.{Waiter}
use Rattle.lk_word.specs.declared.spin_word.NodeName.{NodeName}
use Rattle.lk_rows.specs.declared.parts.Flag.{Flag}
use Rattle.lk_rows.specs.declared.parts.Flag.TheVariants.{Unset, Go, Second}
use Rattle.lk_rows.specs.declared.parts.Node.{Node}
use Rattle.lk_law.specs.Phase.{Phase}
use Rattle.lk_law.specs.Phase.Phase.{Waits, Aside, Holds}
use Rattle.lk_law.specs.Stage.{Stage, cut_of, tip_of, passed_over, parted, chosen, told_runs, tied}
use Rattle.lk_law.specs.Stage.{picks}
use Rattle.lk_law.specs.Stage.{hangs, tail_seen, before_of}
use Rattle.lk_law.specs.Stage.Stage.{Rests}
use Rattle.lk_law.specs.Snapshot.{QueueAgrees, same_node}

-- the family moves waiters aside
abbrev pub moves_aside : Mode → Bool
moves_aside Cna = true
moves_aside _ = false

-- the waiter is one of the list
abbrev pub is_in : List Waiter → Waiter → Bool
is_in [] u = false
is_in (w ∷ ws) u = same_waiter w u || is_in ws u

-- the phase of a waiter in the main queue: one that was moved has none there
abbrev pub part : List Waiter → (Waiter → Phase) → Waiter → Phase
part second phase u = if is_in second u then Aside else phase u

-- a link that the one that leads will make good when it hands off
abbrev pub shown : Option (NodeName × NodeName) → (NodeName → Node) → NodeName → Node
shown None node n = node n
shown (Some p) node n = if same_node n p.0 then record (node n) { next = Some p.1 } else node n

-- there is no node
abbrev pub same_none : Option NodeName → Bool
same_none None = true
same_none (Some n) = false

-- the secondary queue
pub record SecondAgrees (phase : Waiter → Phase) (own : Waiter → NodeName) (node : NodeName → Node)
    (second : List Waiter) (tip : Option NodeName) : Type 0 where
  pub waits : (i : ℕ) (u : Waiter)
      → slice_get second i ≡ Some u
      → (phase u ≡ Waits) × ((node (own u)).flag ≡ Unset)
  pub once : (i j : ℕ) (u : Waiter)
      → slice_get second i ≡ Some u
      → slice_get second j ≡ Some u
      → i ≡ j
  pub linked : (i : ℕ) (u v : Waiter)
      → slice_get second i ≡ Some u
      → slice_get second (suc i) ≡ Some v
      → (node (own u)).next ≡ Some (own v)
  pub last : (i : ℕ) (u : Waiter)
      → slice_get second i ≡ Some u
      → slice_get second (suc i) ≡ None
      → (node (own u)).next ≡ tip

-- the node that the first of a list has
abbrev pub first_node : (Waiter → NodeName) → List Waiter → Option NodeName
first_node own [] = None
first_node own (w ∷ ws) = Some (own w)

-- what the one that leads knows: its registers, and how the lists stand to them
pub record FrontAgrees (phase : Waiter → Phase) (own : Waiter → NodeName) (node : NodeName → Node)
    (local : Waiter → Waiter → Bool) (threshold : ℕ)
    (main second : List Waiter) (passes : List ℕ) (w : Waiter) (stage : Stage)
    (named : Option NodeName) : Type 0 where
  -- the first of second is named, or the first of those that are moved
  pub names : tied stage ≡ false ⊎ (second ≢ []) → named ≡ first_node own second
  pub names_moved : (a b : NodeName) (k : ℕ)
      → tied stage ≡ true
      → passed_over stage ≡ Some (a, b, k)
      → second ≡ []
      → named ≡ Some a
  -- the last of second is known in the node of its first
  pub tail_at : (i : ℕ) (u v : Waiter)
      → hangs stage ≡ None
      → slice_get second 0 ≡ Some u
      → slice_get second i ≡ Some v
      → slice_get second (suc i) ≡ None
      → (node (own u)).second_tail ≡ Some (own v)
  pub tail_hung : (b n : NodeName)
      → hangs stage ≡ Some b
      → named ≡ Some n
      → (node n).second_tail ≡ Some b
  pub tail_met : (t : NodeName) (i : ℕ) (v : Waiter)
      → tail_seen stage ≡ Some t
      → slice_get second i ≡ Some v
      → slice_get second (suc i) ≡ None
      → t ≡ own v
  pub tail_some : (t : NodeName) → tail_seen stage ≡ Some t → second ≢ []
  -- the run
  pub run : ((node (own w)).runs) ≤ threshold
  pub run_none : second ≡ [] → picks stage ≡ false → (node (own w)).runs ≡ 0
  pub run_short : (a b : NodeName) (k : ℕ)
      → passed_over stage ≡ Some (a, b, k)
      → (node (own w)).runs < threshold
  pub run_picks : (n : NodeName)
      → picks stage ≡ true
      → named ≡ Some n
      → (node (own w)).runs < threshold
  pub run_next : (y : NodeName)
      → told_runs stage ≡ Some y
      → (node y).runs ≡ (if same_none named then 0 else ((node (own w)).runs + 1))
  -- where it has chosen the next and moves nobody, the node that its own link names is that of a
  -- waiter behind it
  pub own_link : (n : NodeName)
      → picks stage ≡ true
      → (node (own w)).next ≡ Some n
      → (i : ℕ) × (v : Waiter) × (slice_get main (suc i) ≡ Some v) × (phase v ≡ Waits) × (own v ≡ n)
  -- those passed over are the first behind w, and none is local
  pub some : (a b : NodeName) (k : ℕ) → passed_over stage ≡ Some (a, b, k) → (i : ℕ) × (k ≡ suc i)
  pub far : (a b : NodeName) (k i : ℕ)
      → passed_over stage ≡ Some (a, b, k)
      → i < k
      → (u : Waiter) × (slice_get main (suc i) ≡ Some u) × (phase u ≡ Waits)
      × (local w u ≡ false)
  pub near : (a b : NodeName) (k : ℕ) (u : Waiter)
      → passed_over stage ≡ Some (a, b, k)
      → slice_get main 1 ≡ Some u
      → own u ≡ a
  pub close : (a b : NodeName) (k : ℕ) (u : Waiter)
      → passed_over stage ≡ Some (a, b, k)
      → slice_get main k ≡ Some u
      → own u ≡ b
  pub cut : (b : NodeName) → parted stage ≡ Some b → (node b).next ≡ None
  -- whom the lead goes to stands behind them
  pub next : (k : ℕ) (y : NodeName)
      → chosen stage ≡ Some (k, y)
      → (v : Waiter) × (slice_get main (suc k) ≡ Some v) × (phase v ≡ Waits) × (own v ≡ y)
  pub kin : (a b : NodeName) (k j : ℕ) (y : NodeName)
      → passed_over stage ≡ Some (a, b, k)
      → chosen stage ≡ Some (j, y)
      → (v : Waiter) × (slice_get main (suc j) ≡ Some v) × (local w v ≡ true)
  pub before : (a : NodeName)
      → before_of stage ≡ Some a
      → (v : Waiter) × (slice_get main 1 ≡ Some v) × (phase v ≡ Waits) × (own v ≡ a)
  -- the history's count
  pub lengths : length passes ≡ length second
  pub oldest : (n : ℕ) → slice_get passes 0 ≡ Some n → n ≡ (node (own w)).runs
  pub bounded : (i n : ℕ) → slice_get passes i ≡ Some n → n ≤ (node (own w)).runs

-- of the one that leads
abbrev pub front_cut : (Waiter → NodeName)
    → (Waiter → Stage)
    → Option Waiter
    → Option (NodeName × NodeName)
front_cut own stage None = None
front_cut own stage (Some w) = cut_of (own w) (stage w)

-- the node that the last of the secondary queue names, by the stage of the one that leads
abbrev pub front_tip : (Waiter → Stage) → Option Waiter → Option NodeName
front_tip stage None = None
front_tip stage (Some w) = tip_of (stage w)

-- the node that a flag names: the first of the secondary queue
abbrev pub node_in : Flag → Option NodeName
node_in Unset = None
node_in Go = None
node_in (Second n) = Some n

-- what a waiter has for the first of second: its flag until it saw it, then its register
abbrev pub named_by : Phase → Flag → Option NodeName → Option NodeName
named_by Waits f r = node_in f
named_by _ f r = r

-- the two queues of a lock, and the one that leads
pub record CnaAgrees (tail : Option NodeName) (phase : Waiter → Phase) (own : Waiter → NodeName)
    (node : NodeName → Node) (local : Waiter → Waiter → Bool) (threshold : ℕ)
    (stage : Waiter → Stage) (kept : Waiter → Option NodeName) (main second : List Waiter)
    (passes : List ℕ) : Type 0 where
  pub queue : QueueAgrees tail (part second phase) own
      (shown (front_cut own stage (slice_get main 0)) node) main
  pub second_ok : SecondAgrees phase own node second (front_tip stage (slice_get main 0))
  -- each waiter that stands aside is not local to some waiter, as to the head that moved it
  pub moved : (i : ℕ) (u : Waiter)
      → slice_get second i ≡ Some u
      → (w : Waiter) × (local w u ≡ false)
  pub lead : (w : Waiter)
      → slice_get main 0 ≡ Some w
      → FrontAgrees phase own node local threshold main second passes w (stage w)
      (named_by (phase w) (node (own w)).flag (kept w))
  pub empty : slice_get main 0 ≡ None → second ≡ []
  pub lengths : length passes ≡ length second
  pub calm : (u : Waiter) → phase u ≢ Holds → stage u ≡ Rests

-- the one queue of a lock: nobody stands aside
pub record FlatAgrees (tail : Option NodeName) (phase : Waiter → Phase) (own : Waiter → NodeName)
    (node : NodeName → Node) (main second : List Waiter) (passes : List ℕ) : Type 0 where
  pub queue : QueueAgrees tail phase own node main
  pub single : second ≡ []
  pub unpassed : passes ≡ []

-- the lists of a lock, by whether its family moves waiters aside
pub record ListsAgree (aside : Bool) (tail : Option NodeName) (phase : Waiter → Phase)
    (own : Waiter → NodeName) (node : NodeName → Node) (local : Waiter → Waiter → Bool)
    (threshold : ℕ)
    (stage : Waiter → Stage) (kept : Waiter → Option NodeName) (main second : List Waiter)
    (passes : List ℕ) : Type 0 where
  pub flat : aside ≡ false → FlatAgrees tail phase own node main second passes
  pub cna : aside ≡ true
      → CnaAgrees tail phase own node local threshold stage kept main second passes
