-- What holds of values under locks, whatever a lock is.
use Rattle.std.specs.Prelude.{◌≡◌, ℕ, ◌+◌, ◌<◌, List, [], ◌∷◌, ◌++◌, slice_set}
use mathlib.Core.Option.{Option, none, some}
use lib.ListN.{get_elem?}
use Rattle.lk_values.specs.Guarded.{Among, IsApart, IsHome, Guarded, IsExclusive, KeepsRights}
use Rattle.lk_values.specs.Guarded.{AreIdle}

module _ {S V : Type 0} (own locks : ℕ) (alone : ℕ → V → Type 0) (outs : V → List ℕ)
    (fits : ℕ → S → Type 0) where
  abbrev Safe : List (Option S) → List V → Type 0
  Safe = Guarded own locks alone outs fits

  -- a value is out with one seat at most
  abbrev pub OneHasIt : Type 0
  OneHasIt = (homes : List (Option S)) (views : List V) (l i j : ℕ) (v u : V) → Safe homes views
      → IsExclusive alone views → get_elem? views i ≡ some v → get_elem? views j ≡ some u
      → Among l (outs v) → Among l (outs u) → i ≡ j

  -- a seat that holds a lock alone, and does not have its value, finds it at home
  abbrev pub HolderFinds : Type 0
  HolderFinds = (homes : List (Option S)) (views : List V) (l id : ℕ) (v : V) → Safe homes views
      → IsExclusive alone views → get_elem? views id ≡ some v → l < locks → alone l v
      → IsApart l (outs v) → IsHome own fits homes l

  -- a step that keeps the rights of its seat, and leaves the slots, keeps the values safe
  abbrev pub StepKeeps : Type 0
  StepKeeps = (homes : List (Option S)) (views : List V) (id : ℕ) (v w : V) → Safe homes views
      → get_elem? views id ≡ some v → KeepsRights alone outs v w → Safe homes (slice_set views id w)

  -- so does a step that takes the value of a lock out, which the seat holds alone
  abbrev pub TakingKeeps : Type 0
  TakingKeeps = (homes : List (Option S)) (views : List V) (l id : ℕ) (v w : V) → Safe homes views
      → get_elem? views id ≡ some v → l < locks → alone l v → outs w ≡ l ∷ outs v
      → ((k : ℕ) → alone k v → alone k w)
      → Safe (slice_set homes (own + l) none) (slice_set views id w)

  -- and one that brings a value home which fits, the newest of those that are out with the seat
  abbrev pub BringingKeeps : Type 0
  BringingKeeps = (homes : List (Option S)) (views : List V) (l id : ℕ) (v w : V) (x : S)
      → Safe homes views → get_elem? views id ≡ some v → l < locks → fits l x → outs v ≡ l ∷ outs w
      → ((k : ℕ) → alone k v → alone k w)
      → Safe (slice_set homes (own + l) (some x)) (slice_set views id w)

  -- a seat more, which has nothing out, keeps them
  abbrev pub NewSeatKeeps : Type 0
  NewSeatKeeps = (homes : List (Option S)) (views : List V) (v : V) → Safe homes views → outs v ≡ []
      → Safe homes (views ++ v ∷ [])

  -- where no seat holds a lock alone, each value is at home
  abbrev pub IdleIsHome : Type 0
  IdleIsHome = (homes : List (Option S)) (views : List V) (l : ℕ) → Safe homes views
      → AreIdle alone views → l < locks → IsHome own fits homes l
