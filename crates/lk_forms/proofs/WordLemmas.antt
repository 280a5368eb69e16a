-- The words of a line, taken off one by one.
use Rattle.std.proofs.Common.{◌≡◌, ◌≤◌, ◌<◌, ◌+◌, ◌&&◌, ℕ, Bool, true, false, cond, List, [], ◌∷◌, ◌++◌, length, take, drop, filter, refl, ap, sym, ◌∙◌, arith, one-add, length-drop, unwrap_or, nat_le, nat_lt, not}
use Rattle.std.proofs.lemmas.Bool.Decides.{nat_tests}
use Rattle.std.proofs.lemmas.List.Sums.{prefix_len-le-length}
use Rattle.std.specs.List.{list_all, position, position_or_len, slice_split, onto_first, prefix_len}
use Rattle.lk_text.proofs.NumberLemmas.{and_split}
use Rattle.lk_forms.specs.Fronts.{ends_word}
use Rattle.lk_forms.specs.Words.{is_blank, is_allowed, is_filled, is_text, words}

-- where the first word starts
abbrev pub start_of : List ℕ → ℕ
start_of bytes = position_or_len (λ b. not (is_blank b)) bytes

-- where the word in front ends
abbrev pub end_of : List ℕ → ℕ
end_of bytes = position_or_len is_blank bytes

pub place_or_length : (p : ℕ → Bool) (bytes : List ℕ) → unwrap_or (position p bytes) (length bytes) ≡ position_or_len p bytes
place_or_length p bytes = by_test (nat_lt (position_or_len p bytes) (length bytes)) refl
  where
    by_test : (t : Bool) → nat_lt (position_or_len p bytes) (length bytes) ≡ t → unwrap_or (position p bytes) (length bytes) ≡ position_or_len p bytes
    by_test true h = rw h refl
    by_test false h = let within : position_or_len p bytes ≤ length bytes = prefix_len-le-length _ bytes in rw h (grind (arith, nat_tests, h, within))

pub place_within : (p : ℕ → Bool) (bytes : List ℕ) → position_or_len p bytes ≤ length bytes
place_within p bytes = prefix_len-le-length _ bytes

pub ruleset places = (place_or_length, place_within)

at_blank : (b : ℕ) (bytes : List ℕ) (t : Bool) → is_blank b ≡ t → words (drop (start_of bytes) bytes) ≡ words bytes
    → words (drop (cond (not (not t)) (1 + start_of bytes) 0) (b ∷ bytes)) ≡ filter is_filled (cond t ([] ∷ slice_split is_blank bytes) (onto_first b (slice_split is_blank bytes)))
at_blank b bytes true is later = rw one-add later
at_blank b bytes false is later = rw is refl

-- the blanks in front are no part of a word
pub words-skip : (bytes : List ℕ) → words (drop (start_of bytes) bytes) ≡ words bytes
words-skip [] = refl
words-skip (b ∷ bytes) = at_blank b bytes (is_blank b) refl (words-skip bytes)

-- the parts behind the first blank
parts_behind : List ℕ → List (List ℕ)
parts_behind [] = []
parts_behind (b ∷ bytes) = slice_split is_blank bytes

split_at_end : (bytes : List ℕ) → slice_split is_blank bytes ≡ take (end_of bytes) bytes ∷ parts_behind (drop (end_of bytes) bytes)
unfolding parts_behind
split_at_end [] = refl
split_at_end (b ∷ bytes) = by_test (is_blank b) (split_at_end bytes)
  where
    by_test : (t : Bool) → slice_split is_blank bytes ≡ take (end_of bytes) bytes ∷ parts_behind (drop (end_of bytes) bytes)
        → cond t ([] ∷ slice_split is_blank bytes) (onto_first b (slice_split is_blank bytes))
        ≡ take (cond (not t) (1 + end_of bytes) 0) (b ∷ bytes) ∷ parts_behind (drop (cond (not t) (1 + end_of bytes) 0) (b ∷ bytes))
    by_test true later = refl
    by_test false later = rw (later, one-add) refl

-- what stands behind the front that passes a test does not begin with what passes it
front_ends : (p : ℕ → Bool) (bytes : List ℕ) (b : ℕ) (rest : List ℕ) → drop (prefix_len p bytes) bytes ≡ b ∷ rest → p b ≡ false
front_ends p [] b rest is = cc
front_ends p (c ∷ bytes) b rest is = by_test (p c) refl is (front_ends p bytes b rest)
  where
    by_test : (t : Bool) → p c ≡ t → drop (cond t (1 + prefix_len p bytes) 0) (c ∷ bytes) ≡ b ∷ rest
        → (drop (prefix_len p bytes) bytes ≡ b ∷ rest → p b ≡ false) → p b ≡ false
    by_test true passes here later = later (rw one-add at here)
    by_test false stops here later = let same : c ≡ b = cc in rw (← same) stops

not_twice : (t : Bool) → not (not t) ≡ false → t ≡ false
not_twice true h = h
not_twice false h = refl

not_false : (t : Bool) → not t ≡ false → t ≡ true
not_false true h = refl
not_false false h = sym h

-- the parts behind a word are those of what stands behind it
words_behind : (bytes : List ℕ) → ((b : ℕ) (rest : List ℕ) → bytes ≡ b ∷ rest → is_blank b ≡ true) → filter is_filled (parts_behind bytes) ≡ words bytes
unfolding parts_behind
words_behind [] blank = refl
words_behind (b ∷ rest) blank = rw (blank b rest refl) refl

-- a part in front that is not empty is a word
words_front : (b : ℕ) (rest : List ℕ) → is_blank b ≡ false → words (b ∷ rest) ≡ take (end_of (b ∷ rest)) (b ∷ rest) ∷ words (drop (end_of (b ∷ rest)) (b ∷ rest))
words_front b rest other =
    let blank = λ (c : ℕ) (more : List ℕ) (is : drop (end_of rest) rest ≡ c ∷ more). not_false (is_blank c) (front_ends (λ x. not (is_blank x)) rest c more is) in
    let behind = words_behind (drop (end_of rest) rest) blank in
    rw (split_at_end rest, other, one-add) (ap (λ ws. (b ∷ take (end_of rest) rest) ∷ ws) behind)

-- the words of a line from its first one on, which is not blank
pub words_from : (bytes rest : List ℕ) → rest ≡ drop (start_of bytes) bytes → 0 < length rest
    → (words bytes ≡ take (end_of rest) rest ∷ words (drop (end_of rest) rest)) × (length (drop (end_of rest) rest) < length rest)
words_from bytes [] is some = absurd (omega arith)
words_from bytes (b ∷ rest) is some =
    let other : is_blank b ≡ false = not_twice _ (front_ends (λ x. not (not (is_blank x))) bytes b rest (sym is)) in (
      sym (words-skip bytes) ∙ ap words (sym is) ∙ words_front b rest other,
      rw (other, one-add) (shorter (end_of rest)),
    )
  where
    shorter : (n : ℕ) → length (drop n rest) < length (b ∷ rest)
    shorter n = omega (arith, length-drop n rest)

pub words_none : (bytes : List ℕ) → length (drop (start_of bytes) bytes) ≡ 0 → words bytes ≡ []
words_none bytes none = sym (words-skip bytes) ∙ ap words (length_zero (drop (start_of bytes) bytes) none)
  where
    length_zero : (xs : List ℕ) → length xs ≡ 0 → xs ≡ []
    length_zero [] h = refl
    length_zero (x ∷ xs) h = absurd (omega arith)

-- a blank in front

pub words-blank : (b : ℕ) (rest : List ℕ) → is_blank b ≡ true → words (b ∷ rest) ≡ words rest
words-blank b rest blank = rw blank refl

pub text-blank : (b : ℕ) (rest : List ℕ) → is_blank b ≡ true → is_text rest ≡ true → is_text (b ∷ rest) ≡ true
text-blank b rest blank text = rw (allowed, text) refl
  where
    allowed : is_allowed b ≡ true
    allowed = grind (arith, nat_tests, blank)

-- a word in front

-- neither a blank nor a byte that a line may not have
abbrev pub is_solid : ℕ → Bool
is_solid b = nat_le 33 b && nat_le b 126

solid-blank : (b : ℕ) → is_solid b ≡ true → is_blank b ≡ false
solid-blank b solid = grind (arith, nat_tests, solid)

solid-allowed : (b : ℕ) → is_solid b ≡ true → is_allowed b ≡ true
solid-allowed b solid = grind (arith, nat_tests, solid)

split-word : (word rest : List ℕ) → list_all is_solid word ≡ true → ends_word rest ≡ true → slice_split is_blank (word ++ rest) ≡ word ∷ parts_behind rest
unfolding parts_behind
split-word [] [] solid ends = refl
split-word [] (b ∷ rest) solid ends = rw ends refl
split-word (b ∷ word) rest solid ends =
    let parts = and_split (is_solid b) (list_all is_solid word) solid in
    rw (split-word word rest parts.1 ends, solid-blank b parts.0) refl

blank-first : (rest : List ℕ) → ends_word rest ≡ true → (b : ℕ) (more : List ℕ) → rest ≡ b ∷ more → is_blank b ≡ true
blank-first [] ends b more is = cc
blank-first (c ∷ rest) ends b more is = let same : c ≡ b = cc in rw (← same) ends

pub words-word : (word rest : List ℕ) → is_filled word ≡ true → list_all is_solid word ≡ true → ends_word rest ≡ true → words (word ++ rest) ≡ word ∷ words rest
words-word word rest filled solid ends = rw (split-word word rest solid ends, filled) (ap (λ ws. word ∷ ws) (words_behind rest (blank-first rest ends)))

pub text-word : (word rest : List ℕ) → list_all is_solid word ≡ true → is_text rest ≡ true → is_text (word ++ rest) ≡ true
text-word [] rest solid text = text
text-word (b ∷ word) rest solid text =
    let parts = and_split (is_solid b) (list_all is_solid word) solid in
    rw (solid-allowed b parts.0) (text-word word rest parts.1 text)
