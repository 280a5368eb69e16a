-- The table in which the entries stand.
use Rattle.std.specs.Prelude.{◌≡◌, ◌≢◌, ◌<◌, ◌≤◌, ◌⊎◌, ◌-◌, ◌^◌, ℕ, ◌==◌, Bool, true, false, List, [], ◌∷◌}
use Rattle.std.specs.Prelude.{length, slice_index_or, bit_and}
use Rattle.lk_hash.specs.declared.place.Place.{Place}
use Rattle.lk_hash.specs.declared.place.Place.TheVariants.{Free, Removed, Taken}
use Rattle.lk_hash.specs.Entries.{Entered, Entry, with_entry}

-- what stands at a place
abbrev pub place_at : List Place → ℕ → Place
place_at places at = slice_index_or places at Free

-- a probe for a lock ends at such a place: with the lock, or without it
abbrev pub ends : ℕ → Place → Bool
ends sought Free = true
ends sought Removed = false
ends sought (Taken lock node) = lock == sought

-- an entry may come to such a place
abbrev pub is_vacant : Place → Bool
is_vacant (Taken lock node) = false
is_vacant _ = true

-- the entries of a table, in the order of their locks
abbrev pub with_place : Place → List Entry → List Entry
with_place (Taken lock node) es = with_entry lock node es
with_place _ es = es

abbrev pub entries_of : List Place → List Entry
entries_of [] = []
entries_of (p ∷ ps) = with_place p (entries_of ps)

-- a table as callers see it
abbrev pub entered_in : List Place → Entered
entered_in places = record { places = length places; entries = entries_of places }

-- the place from which a lock is sought, of so many places, which are a power of two
abbrev pub home : ℕ → ℕ → ℕ
home count lock = bit_and lock (count - 1)

-- a probe from a home to a place passes another one, maybe by way of the last place
abbrev pub Passes : ℕ → ℕ → ℕ → Type 0
Passes from to other =
    ((from ≤ other) × (other < to)) ⊎ ((to < from) × ((from ≤ other) ⊎ (other < to)))

-- A table is sound: each entry is found from its home, since no place that the probe passes is
-- free; and no lock has two entries.
pub record IsSound (places : List Place) : Type 0 where
  pub some : 0 < length places
  pub few : length places < 2 ^ 32
  pub found : (at lock node other : ℕ) → place_at places at ≡ Taken lock node → other < length places
      → Passes (home (length places) lock) at other → place_at places other ≢ Free
  pub once : (i j lock node more : ℕ) → place_at places i ≡ Taken lock node
      → place_at places j ≡ Taken lock more → i ≡ j

-- no place has the lock
abbrev pub IsAbsent : ℕ → List Place → Type 0
IsAbsent lock places = (at node : ℕ) → place_at places at ≢ Taken lock node

-- A probe from a home ends at a place, and at none that it passes before.
pub record EndsAt (stops : Place → Bool) (places : List Place) (from at : ℕ) : Type 0 where
  pub inside : at < length places
  pub here : stops (place_at places at) ≡ true
  pub before : (other : ℕ) → other < length places → Passes from at other → stops (place_at places other) ≡ false
