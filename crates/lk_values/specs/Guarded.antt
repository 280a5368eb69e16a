-- Values under locks. Behind its own slots a table has a slot for each lock, and the value of the lock
-- lies in it. A seat that holds a lock alone may have its value out.
use Rattle.std.specs.Prelude.{◌≡◌, ◌⊎◌, ℕ, ◌+◌, ◌<◌, ◌≤◌, List, [], ◌∷◌, length}
use mathlib.Core.Option.{Option, some}
use lib.ListN.{get_elem?}

-- the lock is one of these
abbrev pub Among : ℕ → List ℕ → Type 0
Among l [] = ⊥
Among l (x ∷ xs) = (l ≡ x) ⊎ Among l xs

-- the lock is none of these
abbrev pub IsApart : ℕ → List ℕ → Type 0
IsApart l xs = Among l xs → ⊥

-- the value of the lock is in its slot, and fits
pub record IsHome {S : Type 0} (own : ℕ) (fits : ℕ → S → Type 0) (homes : List (Option S)) (l : ℕ) : Type 0 where
  pub value : S
  pub home : get_elem? homes (own + l) ≡ some (some value)
  pub meets : fits l value

-- it is out with a seat
pub record IsAway {V : Type 0} (outs : V → List ℕ) (views : List V) (l : ℕ) : Type 0 where
  pub seat : ℕ
  pub view : V
  pub here : get_elem? views seat ≡ some view
  pub has : Among l (outs view)

-- The seats with these views, of a table with so many slots of its own and so many locks, guard the
-- values: each value that is out is out with a seat that holds the lock alone, and the value of each
-- lock is at home or out.
pub record Guarded {S V : Type 0} (own locks : ℕ) (alone : ℕ → V → Type 0) (outs : V → List ℕ)
    (fits : ℕ → S → Type 0) (homes : List (Option S)) (views : List V) : Type 0 where
  pub room : own + locks ≤ length homes
  pub rights : (id : ℕ) (v : V) (l : ℕ) → get_elem? views id ≡ some v → Among l (outs v) → alone l v
  pub place : (l : ℕ) → l < locks → IsHome own fits homes l ⊎ IsAway outs views l

-- no two seats hold one lock alone
abbrev pub IsExclusive : {V : Type 0} → (ℕ → V → Type 0) → List V → Type 0
IsExclusive {V} alone views = (l i j : ℕ) (v u : V) → get_elem? views i ≡ some v
    → get_elem? views j ≡ some u → alone l v → alone l u → i ≡ j

-- after a step a seat has the values out that it had, and still holds their locks alone
pub record KeepsRights {V : Type 0} (alone : ℕ → V → Type 0) (outs : V → List ℕ) (old new : V) : Type 0 where
  pub same : outs new ≡ outs old
  pub rights : (l : ℕ) → Among l (outs old) → alone l old → alone l new

-- each lock has a value among these, which fits
abbrev pub AreFit : {S : Type 0} → ℕ → ℕ → (ℕ → S → Type 0) → List S → Type 0
AreFit {S} own locks fits xs = (l : ℕ) → l < locks
    → (x : S) × (get_elem? xs (own + l) ≡ some x) × fits l x

-- no seat holds a lock alone
abbrev pub AreIdle : {V : Type 0} → (ℕ → V → Type 0) → List V → Type 0
AreIdle {V} alone views = (l i : ℕ) (v : V) → get_elem? views i ≡ some v → alone l v → ⊥
