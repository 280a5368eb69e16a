-- What a sink holds after a write that may have been cut short. `old` and `new` are what it held and holds, where it tells that.
use Rattle.std.specs.Prelude.{◌≡◌, ℕ, List, ◌++◌, Option}
use Rattle.std.specs.Io.KnownBytes.{Appends}

-- the held bytes grew by a front of the text
pub record AppendsFront (old new : Option (List ℕ)) (text : List ℕ) : Type 0 where
  pub front : List ℕ
  pub rest : List ℕ
  pub whole : text ≡ front ++ rest
  pub grown : Appends old new front

-- what waited, and then the text, is what the held bytes grew by, and then what waits now
pub record Conveys (old new : Option (List ℕ)) (waited text waits : List ℕ) : Type 0 where
  pub put : List ℕ
  pub whole : waited ++ text ≡ put ++ waits
  pub grown : Appends old new put
