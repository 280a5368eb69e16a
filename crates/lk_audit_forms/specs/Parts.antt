-- The parts of a line between the bytes that divide them, and numbers that are written as they are
-- printed.
use Rattle.std.specs.Prelude.{ℕ, ◌==◌, ◌^◌, nat_lt, Bool, false, List, [], ◌∷◌, Option, None, Some, if◌then◌else◌}
use Rattle.std.specs.List.{slice_split}
use Rattle.std.specs.Borrow.{Bor}
use Rattle.lk_text.specs.Numbers.{number_of}

-- the parts between each byte that is this mark: at least one, and an empty one where marks stand
-- beside each other, or at an end
abbrev pub parts : ℕ → List ℕ → List (List ℕ)
parts mark bytes = slice_split (λ b. b == mark) bytes

-- the words of a line, each but the last with a single space behind it
abbrev pub spaced : List ℕ → List (List ℕ)
spaced line = parts 32 line

-- the words that are left, of a line that goes on or does not
abbrev pub words_left : Option (Bor (List ℕ)) → List (List ℕ)
words_left None = []
words_left (Some line) = spaced line.now

-- the bytes that are lent, if any are
abbrev pub shown : Option (Bor (List ℕ)) → Option (List ℕ)
shown None = None
shown (Some bytes) = Some bytes.now

-- what follows a value, if there is one
abbrev pub if_some : {A B : Type 0} → Option A → (A → Option B) → Option B
if_some None next = None
if_some (Some a) next = next a

-- exactly one word
abbrev pub one_word : List (List ℕ) → Option (List ℕ)
one_word (word ∷ []) = Some word
one_word _ = None

-- exactly two words
abbrev pub two_words : List (List ℕ) → Option (List ℕ × List ℕ)
two_words (first ∷ second ∷ []) = Some (first, second)
two_words _ = None

-- a digit 0 in front of more
abbrev pub has_leading_zero : List ℕ → Bool
has_leading_zero [] = false
has_leading_zero (b ∷ []) = false
has_leading_zero (b ∷ c ∷ bytes) = b == 48

-- the number below 2^64 that a word writes as it is printed: without leading zeros
abbrev pub plain_number : List ℕ → Option ℕ
plain_number word = if has_leading_zero word then None else number_of word

-- the same, below 2^32
abbrev pub small_number : List ℕ → Option ℕ
small_number word = if_some (plain_number word) (λ n. if nat_lt n (2 ^ 32) then Some n else None)
