-- Processors that rest, whatever that means for their track.
use Rattle.std.specs.Prelude.{ℕ, ◌<◌, List, length, slice_index_or}

-- all of these processors do, in order of their numbers
abbrev pub AllRest : {C : Type 0} → (ℕ → C → Type 0) → List C → Type 0
AllRest rests cpus = (i : ℕ) (d : _) → i < length cpus → rests i (slice_index_or cpus i d)
