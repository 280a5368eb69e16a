-- The bytes of a line, and its words.
use Rattle.std.specs.Prelude.{◌≡◌, ℕ, ◌==◌, ◌&&◌, ◌||◌, nat_le, Bool, true, false, List, [], ◌∷◌, filter}
use Rattle.std.specs.List.{list_all, slice_split}

-- a space, a tab or a carriage return, which separate words
abbrev pub is_blank : ℕ → Bool
is_blank b = (b == 32) || ((b == 9) || (b == 13))

-- a byte that a line may have: 0x20 to 0x7e, a tab or a carriage return
abbrev pub is_allowed : ℕ → Bool
is_allowed b = (nat_le 32 b && nat_le b 126) || ((b == 9) || (b == 13))

-- every byte of the line is allowed
abbrev pub is_text : List ℕ → Bool
is_text line = list_all is_allowed line

-- it has a byte
abbrev pub is_filled : List ℕ → Bool
is_filled [] = false
is_filled (b ∷ bytes) = true

-- the words of a line: the parts between its blanks, without the empty ones
abbrev pub words : List ℕ → List (List ℕ)
words line = filter is_filled (slice_split is_blank line)

-- a word that begins with `#`, and so makes its line a comment
abbrev pub is_comment : List ℕ → Bool
is_comment [] = false
is_comment (b ∷ word) = b == 35

-- these words, the first of them and then those
abbrev pub HasFirst : List (List ℕ) → List (List ℕ) → Type 0
HasFirst all rest = (word : List ℕ) × (all ≡ word ∷ rest)
