use Rattle.std.proofs.Common.{◌≡◌, replicate}
use Rattle.lk_hash.specs.declared.place.Place.TheVariants.{Free}
use Rattle.lk_hash.proofs.hash.free_places.Given as goal

-- the places made so far
abbrev pub invariant-loop : goal.invariant-loop
invariant-loop l = l.places.items ≡ replicate l.counter Free
