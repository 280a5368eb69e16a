-- When the tail, the nodes and the phases agree with the queue that the history tells.
use Rattle.std.specs.Prelude.{◌≡◌, ◌≢◌, ◌⊎◌, ℕ, Option, Some, None, true, false, List, slice_get}
use Rattle.std.proofs.Common.{suc}
use Rattle.lk_osq.specs.declared.nodes.Node.{Node}
use Rattle.lk_osq.specs.Phase.{Phase, queues, leads, follows, link_before, link_behind, shown}
use Rattle.lk_osq.specs.Phase.Phase.{Fresh}

-- Two neighbours: u with phase p and node n, and directly behind it v with phase q. The link from u
-- to v is whole, and then the node says v; or it is in one hand, and then the node says none: still
-- to come or cut, in v's hand, or grabbed, in u's.
pub record Pair (u v : ℕ) (p q : Phase) (n : Node) : Type 0 where
  pub next : n.next ≡ shown (link_behind p) (link_before q) v
  pub before : (link_before q ≡ None) ⊎ (link_before q ≡ Some u) × (link_behind p ≡ None)
  pub behind : (link_behind p ≡ None) ⊎ (link_behind p ≡ Some v)

-- The processors in the queue are those in main, each once, and the tail names the last.
pub record OsqQueueAgrees (tail : Option ℕ) (phase : ℕ → Phase) (node : ℕ → Node)
    (main : List ℕ) : Type 0 where
  -- who stands in main is in the queue by its phase, and who is in the queue stands there, once
  pub inside : (i u : ℕ) → slice_get main i ≡ Some u → queues (phase u) ≡ true
  pub place : (u : ℕ) → queues (phase u) ≡ true → (i : ℕ) × (slice_get main i ≡ Some u)
  pub once : (i j u : ℕ) → slice_get main i ≡ Some u → slice_get main j ≡ Some u → i ≡ j
  -- the tail is the last, and none where there is nobody
  pub no_tail : slice_get main 0 ≡ None → tail ≡ None
  pub tail_is : (i u : ℕ) → slice_get main i ≡ Some u → slice_get main (suc i) ≡ None
      → tail ≡ Some u
  -- the first leads; those behind it follow, with their flags unset
  pub first : (u : ℕ) → slice_get main 0 ≡ Some u → leads (phase u) ((node u).flag) ≡ true
  pub behind : (i u : ℕ) → slice_get main (suc i) ≡ Some u
      → (follows (phase u) ≡ true) × ((node u).flag ≡ false)
  -- neighbours are a pair; behind the last there is no link, and none from who is outside
  pub pair : (i u v : ℕ) → slice_get main i ≡ Some u → slice_get main (suc i) ≡ Some v
      → Pair u v (phase u) (phase v) (node u)
  pub last : (i u : ℕ) → slice_get main i ≡ Some u → slice_get main (suc i) ≡ None
      → ((node u).next ≡ None) × (link_behind (phase u) ≡ None)
  pub outside : (u : ℕ) → queues (phase u) ≡ false → (node u).next ≡ None
  -- the flag of a fresh node is unset
  pub fresh : (u : ℕ) → phase u ≡ Fresh → (node u).flag ≡ false

-- one change of a map on processors
pub record Moves {A : Type 0} (f g : ℕ → A) (w : ℕ) (x y : A) : Type 0 where
  pub was : f w ≡ x
  pub now : g w ≡ y
  pub others : (u : ℕ) → u ≢ w → g u ≡ f u
