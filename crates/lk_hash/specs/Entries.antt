-- A lock hash as callers see it: a finite map, told by its entries in the order of their locks.
use Rattle.std.specs.Prelude.{◌≡◌, ℕ, ◌==◌, Option, Some, None, List, [], ◌∷◌, if◌then◌else◌, nat_lt}

-- a lock with its node
abbrev pub Entry : Type 0
Entry = ℕ × ℕ

-- how many places there are, and what is entered
pub record Entered : Type 0 where
  pub places : ℕ
  pub entries : List Entry

-- the node of a lock, if it is entered
abbrev pub node_in : ℕ → List Entry → Option ℕ
node_in lock [] = None
node_in lock (e ∷ es) = if e.0 == lock then Some e.1 else node_in lock es

-- the entries with one more, which stands before the first of a higher lock
abbrev pub with_entry : ℕ → ℕ → List Entry → List Entry
with_entry lock node [] = (lock, node) ∷ []
with_entry lock node (e ∷ es) =
    if nat_lt lock e.0 then (lock, node) ∷ e ∷ es else e ∷ with_entry lock node es

-- the entries without a lock's
abbrev pub without_entry : ℕ → List Entry → List Entry
without_entry lock [] = []
without_entry lock (e ∷ es) =
    if e.0 == lock then without_entry lock es else e ∷ without_entry lock es

-- every entry of the second list is one of the first
abbrev pub HasAll : List Entry → List Entry → Type 0
HasAll xs ys = (lock node : ℕ) → node_in lock ys ≡ Some node → node_in lock xs ≡ Some node
