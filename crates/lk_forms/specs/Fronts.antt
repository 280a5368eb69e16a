-- What stands in front of the bytes of a line.
use Rattle.std.specs.Prelude.{◌≡◌, ◌<◌, ℕ, Bool, true, List, [], ◌∷◌, ◌++◌, length, Some}
use Rattle.std.specs.Str.{all_ascii_digits}
use Rattle.std.specs.Str.Parse.{digits_value}
use Rattle.lk_text.specs.Numbers.{number_of}
use Rattle.lk_forms.specs.Words.{is_blank, is_text, words}

-- the end of a word that stands in front: nothing is left, or a blank comes
abbrev pub ends_word : List ℕ → Bool
ends_word [] = true
ends_word (b ∷ rest) = is_blank b

-- these bytes are digits, which write this number, and then those
pub record HasDigits (bytes : List ℕ) (n : ℕ) (rest : List ℕ) : Type 0 where
  pub digits : List ℕ
  pub split : bytes ≡ digits ++ rest
  pub all : all_ascii_digits digits ≡ true
  pub value : n ≡ digits_value 10 digits

-- The first word of these bytes writes this number, and those stand behind it. Where those are text, so are all.
pub record HasNumber (bytes : List ℕ) (n : ℕ) (rest : List ℕ) : Type 0 where
  pub word : List ℕ
  pub first : words bytes ≡ word ∷ words rest
  pub number : number_of word ≡ Some n
  pub text : is_text rest ≡ true → is_text bytes ≡ true

-- These bytes begin with digits, which write this number. This byte stands behind them, and those behind it.
pub record EndsNumber (bytes : List ℕ) (last n : ℕ) (rest : List ℕ) : Type 0 where
  pub digits : List ℕ
  pub split : bytes ≡ digits ++ last ∷ rest
  pub some : 0 < length digits
  pub all : all_ascii_digits digits ≡ true
  pub number : number_of digits ≡ Some n

-- `step ` and these bytes
abbrev pub step_of : List ℕ → List ℕ
step_of args = 115 ∷ 116 ∷ 101 ∷ 112 ∷ 32 ∷ args

-- These bytes begin with a line `step p n` of these two numbers. A line feed stands behind it, and those behind that.
pub record IsStepLine (bytes : List ℕ) (p n : ℕ) (rest : List ℕ) : Type 0 where
  pub args : List ℕ
  pub cpu : List ℕ
  pub times : List ℕ
  pub split : bytes ≡ step_of args ++ 10 ∷ rest
  pub two : words args ≡ cpu ∷ times ∷ []
  pub text : is_text args ≡ true
  pub processor : number_of cpu ≡ Some p
  pub number : number_of times ≡ Some n
