-- What stands at the front of the bytes that were not looked at: a line, the end, or a limit that is passed.
-- `before` and `after` are these bytes before and after a step, where they are known; `looked` counts the bytes that were looked at.
use Rattle.std.specs.Prelude.{Bool, true, false, ◌≡◌, ℕ, ◌+◌, ◌<◌, ◌≤◌, ◌⊎◌, List, [], ◌∷◌, ◌++◌, length, Option, IfSome}
use Rattle.std.specs.Io.KnownBytes.{Consumes, IsAtEnd}
use Rattle.lk_text.specs.Feeds.{HasNoFeed, pieces}
use Rattle.lk_text.specs.declared.reader.TheConstants.{MAX_INPUT, MAX_LINE}

-- the piece is the line with its line feed; or it is the last line, which has none and is not empty, and the input ends behind it
abbrev pub IsPiece : List ℕ → List ℕ → Option (List ℕ) → Bool → Type 0
IsPiece line piece after ended =
    ((piece ≡ line ++ 10 ∷ []) × (ended ≡ false)) ⊎ ((piece ≡ line) × (0 < length line) × IsAtEnd after × (ended ≡ true))

-- the first line of the bytes is this piece, and the others are the lines of what is left
abbrev pub IsFirstLine : Option (List ℕ) → Option (List ℕ) → List ℕ → Type 0
IsFirstLine before after piece = IfSome before (λ bytes. IfSome after (λ rest. pieces bytes ≡ piece ∷ pieces rest))

-- the line at the front is taken, and its bytes are counted
pub record TakesLine (before after : Option (List ℕ)) (looked looked_after : ℕ) (ended : Bool) (line : List ℕ) : Type 0 where
  pub piece : List ℕ
  pub taken : Consumes before after piece
  pub first : IsFirstLine before after piece
  pub ends : IsPiece line piece after ended
  pub plain : HasNoFeed line
  pub short : length line ≤ MAX_LINE
  pub counted : looked_after ≡ looked + length piece
  pub within : looked_after ≤ MAX_INPUT

-- nothing is left before the step, and nothing after it
pub record IsOver (before after : Option (List ℕ)) : Type 0 where
  pub before_end : IsAtEnd before
  pub after_end : IsAtEnd after

-- the known bytes begin with these
abbrev pub Begins : Option (List ℕ) → List ℕ → Type 0
Begins known front = IfSome known (λ bytes. (rest : List ℕ) × (bytes ≡ front ++ rest))

-- one byte more than a line may have stand at the front with no line feed, of which the limit of the input allows all but the last
pub record PassesLineLimit (before : Option (List ℕ)) (looked : ℕ) : Type 0 where
  pub front : List ℕ
  pub stands : Begins before front
  pub plain : HasNoFeed front
  pub long : length front ≡ MAX_LINE + 1
  pub within : looked + MAX_LINE ≤ MAX_INPUT

-- the first byte behind the most of an input has to be looked at: it is `last`, no byte of the line before it is a line feed, and
-- where it is the first behind the most of a line, it is a line feed
pub record PassesInputLimit (before : Option (List ℕ)) (looked : ℕ) : Type 0 where
  pub front : List ℕ
  pub last : ℕ
  pub stands : Begins before (front ++ last ∷ [])
  pub plain : HasNoFeed front
  pub all : looked + length front ≡ MAX_INPUT
  pub short : length front ≤ MAX_LINE
  pub at_both : length front ≡ MAX_LINE → last ≡ 10
