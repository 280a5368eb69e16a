-- What contracts see of a list in memory that was taken at its start.
use Rattle.std.specs.Prelude.{ℕ, List}

-- the items, first to last, and how many there is room for
pub record ListOf (T : Type 0) : Type 0 where
  pub items : List T
  pub room : ℕ
