use Rattle.std.proofs.Common.{◌≡◌, ◌<◌, ℕ, Some}
use Rattle.lk_hash.specs.declared.place.Place.TheVariants.{Taken}
use Rattle.lk_hash.specs.Entries.{node_in}
use Rattle.lk_hash.specs.Table.{place_at}
use Rattle.lk_hash.proofs.kept.has_places.Given as goal

-- the entries of the places so far are there
abbrev pub invariant-loop-at : goal.invariant-loop-at
invariant-loop-at l = (at lock node : ℕ) → at < l.at → place_at l.places at ≡ Taken lock node
    → node_in lock l.hash.entries ≡ Some node
