-- How many edges are written down.
use Rattle.std.specs.Prelude.{◌+◌, ◌==◌, [], ◌∷◌, if◌then◌else◌, ℕ, List}

-- one, if an act led from the state of the one number to that of another
abbrev pub one_away : ℕ → ℕ → ℕ
one_away to from = if to == from then 0 else 1

-- How many of these numbers are other ones than their positions. The first of them stands at this position.
abbrev pub away_in : ℕ → List ℕ → ℕ
away_in at [] = 0
away_in at (to ∷ more) = one_away to at + away_in (at + 1) more

-- How many acts led to another state than that on which they were made: in the column of an act, the number at
-- position k is that of the state to which the act led on the state of number k.
abbrev pub edges_in : List (List ℕ) → ℕ
edges_in [] = 0
edges_in (column ∷ columns) = away_in 0 column + edges_in columns
