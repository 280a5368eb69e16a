-- What a row changes of the lists of one lock: for each kind of row a record that names its facts.
-- Primed are what stands after the row.
use Rattle.std.proofs.Common.{◌≡◌, ◌≢◌, ℕ, suc, Option, Some, None, true, false, List, [], ◌⊎◌}
use Rattle.std.proofs.Common.{◌++◌, ◌+◌, ◌<◌, slice_get, drop, take, if◌then◌else◌}
use Rattle.lk_law.proofs.Names.{NodeName, Waiter, Node, flag_for, first_node, named_by, same_none}
use Rattle.lk_law.proofs.Names.{Phase, leads, queues, Hands, Holds, Idle, Waits, Moves, Rewrites}
use Rattle.lk_law.proofs.Names.{Stage, cut_of, parted, picks, tail_seen, tied, tip_of, Picks, Rests}
use Rattle.lk_law.proofs.common.Cases.{Apart}

-- Others act, and w leads still: those that wait keep their nodes, the queue may get longer, and no
-- node gets another count or second tail.
pub record OthersAct (phase phase' : Waiter → Phase) (own own' : Waiter → NodeName)
    (node node' : NodeName → Node) (main main' second : List Waiter) (w : Waiter)
    (stage : Stage) : Type 0 where
  pub queued : queues (phase w) ≡ true
  pub grows : (i : ℕ) (u : Waiter) → slice_get main i ≡ Some u → slice_get main' i ≡ Some u
  pub waits : (u : Waiter) → phase u ≡ Waits → u ≢ w → (phase' u ≡ Waits) × (own' u ≡ own u)
  pub not_behind : (i : ℕ) (u : Waiter) → slice_get main (suc i) ≡ Some u → u ≢ w
  pub not_aside : (i : ℕ) (u : Waiter) → slice_get second i ≡ Some u → u ≢ w
  pub own_w : own' w ≡ own w
  pub fields : (u : Waiter)
      → queues (phase u) ≡ true
      → ((node' (own u)).runs ≡ (node (own u)).runs)
      × ((node' (own u)).second_tail ≡ (node (own u)).second_tail)
  pub links : picks stage ≡ true → (node' (own w)).next ≡ (node (own w)).next
  pub cuts : (u : Waiter)
      → phase u ≡ Waits
      → u ≢ w
      → parted stage ≡ Some (own u)
      → (node' (own u)).next ≡ None

-- G6 to G9: the front w, which has not begun to choose, goes on from r to r'
pub record GoesAhead (phase phase' : Waiter → Phase) (own : Waiter → NodeName)
    (node : NodeName → Node) (stage stage' : Waiter → Stage)
    (kept kept' : Waiter → Option NodeName) (main : List Waiter) (w : Waiter)
    (r r' : Phase) : Type 0 where
  pub moves : Moves phase phase' w r r'
  pub front : slice_get main 0 ≡ Some w
  pub leads_on : leads r' ((node (own w)).flag) ≡ true
  pub not_waits : r' ≢ Waits
  pub not_hands : (n : NodeName) → r' ≢ Hands n
  pub rests : stage w ≡ Rests
  pub stages : (u : Waiter) → stage' u ≡ stage u
  pub keeps : (u : Waiter) → u ≢ w → kept' u ≡ kept u
  pub names : named_by r' ((node (own w)).flag) (kept' w) ≡ named_by r ((node (own w)).flag)
      (kept w)

-- G8 and E13: the front w, behind which nobody stands, leaves from r
pub record LeavesAlone (tail : Option NodeName) (phase phase' : Waiter → Phase)
    (own own' : Waiter → NodeName) (node : NodeName → Node) (stage stage' : Waiter → Stage)
    (kept : Waiter → Option NodeName) (main : List Waiter) (w : Waiter) (r : Phase) : Type 0 where
  pub moves : Moves phase phase' w r Idle
  pub front : slice_get main 0 ≡ Some w
  pub mine : tail ≡ Some (own w)
  pub rests : stage w ≡ Rests
  pub nobody : named_by r ((node (own w)).flag) (kept w) ≡ None
  pub owns : (u : Waiter) → u ≢ w → own' u ≡ own u
  pub stages : (u : Waiter) → stage' u ≡ stage u
  pub apart : Apart phase own

-- C8: the front w stores the flag x into the node y, and leaves
pub record HandsOver (phase phase' : Waiter → Phase) (own own' : Waiter → NodeName)
    (node node' : NodeName → Node) (stage stage' : Waiter → Stage)
    (kept : Waiter → Option NodeName) (main : List Waiter) (w : Waiter) (y : NodeName)
    (x : Node) : Type 0 where
  pub front : slice_get main 0 ≡ Some w
  pub moves : Moves phase phase' w Holds Idle
  pub writes : Rewrites node node' y x
  pub store : x ≡ record (node y) { flag = flag_for (kept w) }
  pub owns : (u : Waiter) → u ≢ w → own' u ≡ own u
  pub stages : (u : Waiter) → u ≢ w → stage' u ≡ stage u
  pub rests : stage' w ≡ Rests
  pub apart : Apart phase own

-- to whom: v waits with the node y, behind the front and the k that it passed over
pub record IsHandedTo (phase : Waiter → Phase) (own : Waiter → NodeName) (main : List Waiter)
    (k : ℕ) (v : Waiter) (y : NodeName) : Type 0 where
  pub place : slice_get main (suc k) ≡ Some v
  pub waits : phase v ≡ Waits
  pub owned : own v ≡ y

-- C9 and C10: the front w, which knows y as the first of the second queue and chooses it, lets that
-- queue return
pub record LetsReturn (phase : Waiter → Phase) (own : Waiter → NodeName)
    (stage stage' : Waiter → Stage) (kept kept' : Waiter → Option NodeName) (main : List Waiter)
    (w : Waiter) (y : NodeName) : Type 0 where
  pub front : slice_get main 0 ≡ Some w
  pub holds : phase w ≡ Holds
  pub names : kept w ≡ Some y
  pub forgets : kept' w ≡ None
  pub stages : (u : Waiter) → u ≢ w → stage' u ≡ stage u
  pub picks : stage' w ≡ Picks y
  pub apart : Apart phase own

-- what C9 and C10 share, t the last node of the second queue: the link of t, and the tail
pub record JoinsAt (tail tail' : Option NodeName) (phase : Waiter → Phase)
    (own : Waiter → NodeName) (node node' : NodeName → Node) (main : List Waiter) (me t : NodeName)
    (stage : Stage) (x : Node) : Type 0 where
  pub met : tail_seen stage ≡ Some t
  pub uncut : cut_of me stage ≡ None
  pub no_tip : tip_of stage ≡ None
  pub loose : tied stage ≡ false
  pub writes : Rewrites node node' t x
  pub flag : x.flag ≡ (node t).flag
  pub runs : x.runs ≡ (node t).runs
  -- the rest of the queue stands behind t, or nobody does and t is the tail
  pub way : ((v : Waiter) × (slice_get main 1 ≡ Some v) × (phase v ≡ Waits)
      × (x.next ≡ Some (own v)) × (tail' ≡ tail))
      ⊎ ((slice_get main 1 ≡ None) × (x.next ≡ None) × (tail' ≡ Some t))

-- no waiter begins a choice or goes on with one, and only w may know another second queue
pub record ChoosesNothing (stage stage' : Waiter → Stage)
    (kept kept' : Waiter → Option NodeName) (w : Waiter) : Type 0 where
  pub stages : (u : Waiter) → u ≢ w → stage' u ≡ stage u
  pub rests : stage' w ≡ Rests
  pub keeps : (u : Waiter) → u ≢ w → kept' u ≡ kept u

-- What the front w knows as it hands on to y, past k waiters of whom the last has the node b: x is
-- what it stores for y, and named the first of the second queue, as the next will know it.
pub record KnowsMoved (own : Waiter → NodeName) (node : NodeName → Node) (threshold : ℕ)
    (main second : List Waiter) (w : Waiter) (stage : Stage) (named : Option NodeName)
    (k : ℕ) (y b : NodeName) (x : Node) : Type 0 where
  pub cut : cut_of (own w) stage ≡ Some (b, y)
  pub last : (u : Waiter) → slice_get main k ≡ Some u → own u ≡ b
  pub runs : x.runs ≡ (if same_none named then 0 else ((node (own w)).runs + 1))
  pub short : (n : NodeName) → named ≡ Some n → (node (own w)).runs < threshold
  -- where nobody is moved, second is named as it is, and its first names its last
  pub plain : k ≡ 0
      → (named ≡ first_node own second)
      × ((i : ℕ) (u z : Waiter)
      → slice_get second 0 ≡ Some u
      → slice_get second i ≡ Some z
      → slice_get second (suc i) ≡ None
      → (node (own u)).second_tail ≡ Some (own z))
  -- else it is named with those that are moved behind it, whose last is known
  pub moved : 0 < k
      → (named ≡ first_node own (second ++ take k (drop 1 main)))
      × ((n : NodeName) → named ≡ Some n → (node n).second_tail ≡ Some b)
      × (second ≡ [] → (node (own w)).runs ≡ 0)
