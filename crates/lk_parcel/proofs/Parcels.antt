-- What the two walks share. A parcel owns what the box of the same value owns, word for word, so the
-- kit's steps for boxes serve for parcels.
use mathlib.Core.List.{[], ◌∷◌}
use denote.RattleType.{RattleType}
use denote.RawPtr.{RawPtr}
use denote.Struct.Tuple.{Tuple}
use Rattle.std.proofs.BoxSteps.Form.{Bx, D, R, P}
use Rattle.lk_parcel.specs.contracts.Parcel as parcel

module _ (E : Bx) where
  abbrev pub Packed : RattleType
  Packed = parcel.the_row (R E) (P E) E.al.g

  -- the box that owns what the parcel owns, and the other way round

  abbrev pub boxed : Packed.Denot → D E
  boxed p = record { ptr = p.at; alloc = p.alloc; value = p.value }

  abbrev pub packed : D E → Packed.Denot
  packed d = record { at = d.ptr; alloc = d.alloc; value = d.value }

  -- the pointer and the allocator, as one value
  abbrev pub Pair : RattleType
  Pair = Tuple (RawPtr ∷ P E ∷ [])
