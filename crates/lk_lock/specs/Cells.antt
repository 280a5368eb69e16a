-- The cells in which the values of a lock lie, and their keys: the lock's own first, and behind it a copy
-- for each processor, where the lock has copies.
use Rattle.std.specs.Prelude.{◌≡◌, ℕ, zero, suc, List, [], ◌∷◌, ◌++◌, Option, Some, false, ⊤, slice_get}
use Rattle.atomic_table.specs.Seated.{TableId}
use Rattle.lk_names.specs.ListOf.{ListOf}
use Rattle.lk_cell.specs.Latched.{IsKey}
use Rattle.lk_cell.specs.declared.cell.KeyCell.{KeyCell}
use Rattle.lk_domain.specs.Values.{Key}

-- their names
abbrev pub names_of : {T F : Type 0} → List (KeyCell T F) → List TableId
names_of [] = []
names_of (cell ∷ cells) = cell.table.shared.table_id ∷ names_of cells

-- each key is that of the cell at its place
abbrev pub AreKeysOf : List TableId → List Key → Type 0
AreKeysOf [] [] = ⊤
AreKeysOf (cell ∷ cells) (key ∷ keys) = IsKey cell key × AreKeysOf cells keys
AreKeysOf [] (key ∷ keys) = ⊥
AreKeysOf (cell ∷ cells) [] = ⊥

-- each key is one of a cell that is shut
abbrev pub EachShut : List Key → Type 0
EachShut keys = (h : ℕ) (key : Key) → slice_get keys h ≡ Some key → key.views ≡ false ∷ []

abbrev pub AllShut : List (ListOf Key) → Type 0
AllShut all = (l : ℕ) (keys : ListOf Key) → slice_get all l ≡ Some keys → EachShut keys.items

-- what is left of a lock's keys behind the first

abbrev pub later : List Key → List Key
later [] = []
later (key ∷ keys) = keys

abbrev pub behind : ListOf Key → ListOf Key
behind keys = record keys { items = later keys.items }

-- the first of each lock, if one is left, and what is left behind these

abbrev pub firsts : List (ListOf Key) → List (Option Key)
firsts [] = []
firsts (keys ∷ more) = slice_get keys.items 0 ∷ firsts more

abbrev pub all_behind : List (ListOf Key) → List (ListOf Key)
all_behind [] = []
all_behind (keys ∷ more) = behind keys ∷ all_behind more

-- so many keys of each lock, in the order of the homes of a domain
abbrev pub laid : ℕ → List (ListOf Key) → List (Option Key)
laid zero all = []
laid (suc n) all = firsts all ++ laid n (all_behind all)
