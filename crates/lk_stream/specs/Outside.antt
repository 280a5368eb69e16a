-- What is seen of a source and of a sink at one moment.
use Rattle.std.specs.Prelude.{ℕ, List, Option}

-- the bytes that the source has left and those that the sink holds, where they tell them, and their
-- counts of faults
pub record Outside : Type 0 where
  pub left : Option (List ℕ)
  pub reads : ℕ
  pub held : Option (List ℕ)
  pub writes : ℕ

-- what a source has left and a sink holds, with their counts of faults
abbrev pub outside : Option (List ℕ) → ℕ → Option (List ℕ) → ℕ → Outside
outside left reads held writes = record { left = left; reads = reads; held = held; writes = writes }
