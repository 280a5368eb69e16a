use Rattle.std.proofs.Common.{◌≡◌, ◌∷◌, ◌++◌, map, reverse, length, Some}
use Rattle.lk_domain.proofs.Names.{lodged, Entries}
use Rattle.lk_domain.proofs.making.opening_slots.Given as goal

abbrev pub decreases-loop-slots : goal.decreases-loop-slots
decreases-loop-slots l = length l.keys.items

-- the slots that are there, and those of the keys that are left
abbrev pub invariant-loop-slots : goal.invariant-loop-slots
invariant-loop-slots l = l.slots.items ++ map lodged (reverse l.keys.items) ≡ Some (Entries l.fn.journal) ∷ map lodged l.fn.keys.items
