-- What a list ends as, where a `&mut` to its items is returned.
use Rattle.std.specs.Prelude.{ℕ, List, slice_set, length}
use Rattle.std.specs.List.{refill}
use Rattle.std.specs.Borrow.{Lends, Fml, RattleType, MutBor, Array}
use Rattle.lk_names.specs.ListOf.{ListOf}
use Rattle.lk_names.specs.contracts.list.List.{the_row}

-- the list with this item at the place
abbrev pub with_item : {T : Type 0} → ListOf T → ℕ → T → ListOf T
with_item list i x = record list { items = slice_set list.items i x }

-- the list with these items, as many as before
abbrev pub with_items : {T : Type 0} → ListOf T → List T → ListOf T
with_items list xs = record list { items = refill (length list.items) list.items xs }

-- once the borrow r ends, the place has the last value written through it
abbrev pub LendsItem : (T : RattleType) → MutBor (ListOf T.Denot) → ℕ → MutBor T.Denot → Fml
LendsItem T list i r = Lends (the_row T) T list r (with_item list.now i)

-- once the borrow r ends, the items are those that it shows last
abbrev pub LendsItems : (T : RattleType) → MutBor (ListOf T.Denot) → MutBor (List T.Denot) → Fml
LendsItems T list r = Lends (the_row T) (Array T 0) list r (with_items list.now)
