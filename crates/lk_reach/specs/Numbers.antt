-- Numbers in as many bytes as they need, and lists of them.
use Rattle.std.specs.Prelude.{◌≡◌, ◌≢◌, ◌≤◌, ◌+◌, ◌*◌, ◌/◌, ◌%◌, ◌++◌, [], ◌∷◌, ℕ, zero, suc, List, length, slice_index_or}
use Rattle.std.specs.Int.{from_le_bytes, w32}
use Rattle.lk_reach.specs.declared.numbers.fours.Fours.{Fours}
use Rattle.lk_reach.specs.declared.key.Key.{Key}
use Rattle.lk_reach.specs.declared.numbers.Numbers.{Numbers}
use Rattle.lk_reach.specs.declared.origin.Origin.{Origin}
use Rattle.lk_reach.specs.declared.numbers.places.Places.{Places}

-- the values of a function at the first numbers
abbrev pub listed : {A : Type 0} → ℕ → (ℕ → A) → List A
listed zero f = []
listed (suc n) f = listed n f ++ f n ∷ []

-- the list goes on with zeros up to a position
pub record Pads {A : Type 0} (none : A) (old new : List A) (at : ℕ) : Type 0 where
  pub same : (i : ℕ) → slice_index_or new i none ≡ slice_index_or old i none
  pub long : length old ≤ at → length new ≡ at

-- the item stands at a position, and the others are as before
pub record Puts {A : Type 0} (none : A) (old new : List A) (at : ℕ) (item : A) : Type 0 where
  pub here : slice_index_or new at none ≡ item
  pub others : (i : ℕ) → i ≢ at → slice_index_or new i none ≡ slice_index_or old i none

-- the number at a position
abbrev pub number_at : Numbers → ℕ → ℕ
number_at n i = from_le_bytes w32 (slice_index_or n.first.items i 0 ∷ slice_index_or n.second.items i 0
    ∷ slice_index_or n.third.items i 0 ∷ slice_index_or n.fourth.items i 0 ∷ [])

-- the number stands at a position, and the others are as before
pub record PutsNumber (old new : Numbers) (at number : ℕ) : Type 0 where
  pub here : number_at new at ≡ number
  pub others : (i : ℕ) → i ≢ at → number_at new i ≡ number_at old i

-- the lower bytes of a number, if none was put
abbrev pub no_lower : List ℕ
no_lower = 0 ∷ 0 ∷ 0 ∷ []

-- one of a list's numbers, or 0
abbrev pub nth : List ℕ → ℕ → ℕ
nth xs i = slice_index_or xs i 0

-- the first four
abbrev pub firsts : List ℕ → List ℕ
firsts xs = nth xs 0 ∷ nth xs 1 ∷ nth xs 2 ∷ nth xs 3 ∷ []

-- the halves of four numbers, and the numbers with these halves
abbrev pub lower_halves : List ℕ → List ℕ
lower_halves xs = nth xs 0 % 65536 ∷ nth xs 1 % 65536 ∷ nth xs 2 % 65536 ∷ nth xs 3 % 65536 ∷ []

abbrev pub upper_halves : List ℕ → List ℕ
upper_halves xs = nth xs 0 / 65536 ∷ nth xs 1 / 65536 ∷ nth xs 2 / 65536 ∷ nth xs 3 / 65536 ∷ []

abbrev pub joined : List ℕ → List ℕ → List ℕ
joined ls us = (nth ls 0 + 65536 * nth us 0) ∷ (nth ls 1 + 65536 * nth us 1) ∷ (nth ls 2 + 65536 * nth us 2)
    ∷ (nth ls 3 + 65536 * nth us 3) ∷ []

-- halves that are all 0
abbrev pub none : List ℕ
none = 0 ∷ 0 ∷ 0 ∷ 0 ∷ []

-- the four numbers at a position
abbrev pub four_at : Fours → ℕ → List ℕ
four_at f i = joined (slice_index_or f.lower.items i none) (slice_index_or f.upper.items i none)

-- the first four of these numbers stand at a position, and the others are as before
pub record PutsFour (old new : Fours) (at : ℕ) (four : List ℕ) : Type 0 where
  pub here : four_at new at ≡ firsts four
  pub others : (i : ℕ) → i ≢ at → four_at new i ≡ four_at old i

-- the number of a state at a position
abbrev pub place_at : Places → ℕ → ℕ
place_at n i =
    let lower = slice_index_or n.lower.items i no_lower in
    from_le_bytes w32 (nth lower 0 ∷ nth lower 1 ∷ nth lower 2 ∷ slice_index_or n.upper.items i 0 ∷ [])

-- it stands at a position, and the others are as before
pub record PutsPlace (old new : Places) (at number : ℕ) : Type 0 where
  pub here : place_at new at ≡ number
  pub others : (i : ℕ) → i ≢ at → place_at new i ≡ place_at old i

-- the key at a position
abbrev pub key_at : Numbers → Fours → Fours → ℕ → Key
key_at shared first others i = record { shared = number_at shared i; cpus = four_at first i ++ four_at others i }

-- the origin at a position
abbrev pub origin_at : Places → Numbers → Numbers → ℕ → Origin
origin_at states acts levels i = record { state = place_at states i; act = number_at acts i; level = number_at levels i }
