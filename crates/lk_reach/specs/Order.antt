-- New numbers of processors, and when only those change places that are alike.
use Rattle.std.specs.Prelude.{◌≡◌, ◌<◌, ◌≤◌, ℕ, List}
use Rattle.lk_renaming.specs.Renaming.{Renaming}
use Rattle.lk_reach.specs.declared.order.Order.{Order}
use Rattle.lk_reach.specs.Peers.{number_of}

-- the new numbers as a renaming
abbrev pub renaming_of : Order → Renaming
renaming_of o = record { to = λ p. number_of o.to p; back = λ q. number_of o.back q }

-- each processor has its own number
abbrev pub AreOwn : List ℕ → Type 0
AreOwn numbers = (p : ℕ) → number_of numbers p ≡ p

-- The processor gets the number of one that is like it, and its own back. Of those that are not there
-- each keeps its number.
pub record IsPlaced (firsts : List ℕ) (cpus : ℕ) (o : Order) (p : ℕ) : Type 0 where
  pub undone : number_of o.back (number_of o.to p) ≡ p
  pub redone : number_of o.to (number_of o.back p) ≡ p
  pub within : p < cpus → number_of o.to p < cpus
  pub peer : p < cpus → number_of firsts (number_of o.to p) ≡ number_of firsts p
  pub others : cpus ≤ p → number_of o.to p ≡ p
