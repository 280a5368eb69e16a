-- When a lock ranks above all that a processor holds or waits for. The rank of a lock is its number in its
-- domain.
use Rattle.std.specs.Prelude.{◌≡◌, ℕ, ◌<◌, true}
use Rattle.lk_domain.specs.Calls.{Calls, holds_in, waits_in}

-- the rank is above that of each lock that is held, and of each for which a call waits
pub record IsAbove (rank : ℕ) (c : Calls) : Type 0 where
  pub holds : (l : ℕ) → holds_in c.holds l ≡ true → l < rank
  pub waits : (l : ℕ) → waits_in c.frames l ≡ true → l < rank

-- each rank that was above all is so still
abbrev pub StaysAbove : Calls → Calls → Type 0
StaysAbove old new = (rank : ℕ) → IsAbove rank old → IsAbove rank new
