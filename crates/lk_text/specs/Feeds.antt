-- Bytes, cut at their line feeds.
use Rattle.std.specs.Prelude.{◌≡◌, ◌≢◌, ℕ, ◌==◌, ◌+◌, ◌<◌, List, [], ◌∷◌, length, take, drop, if◌then◌else◌}
use Rattle.std.specs.List.{AllByRecursion, onto_first}

-- no byte is a line feed
abbrev pub HasNoFeed : List ℕ → Type 0
HasNoFeed bytes = AllByRecursion (λ b. b ≢ 10) bytes

-- the lines of a text, in order, each with its line feed; the last may have none
abbrev pub pieces : List ℕ → List (List ℕ)
pieces [] = []
pieces (b ∷ bytes) = if b == 10 then (b ∷ []) ∷ pieces bytes else onto_first b (pieces bytes)

-- a line without its line feed
abbrev pub line_of : List ℕ → List ℕ
line_of [] = []
line_of (b ∷ bytes) = if b == 10 then [] else b ∷ line_of bytes

-- the first line feed of the bytes stands at this place
pub record FeedAt (bytes : List ℕ) (at : ℕ) : Type 0 where
  pub within : at < length bytes
  pub plain : HasNoFeed (take at bytes)
  pub here : drop at bytes ≡ 10 ∷ drop (at + 1) bytes
