-- A text, read up to a line.
use Rattle.std.specs.Prelude.{true, false, ◌≡◌, ℕ, List, [], ◌∷◌, ◌++◌, Option, None, Some, ⊤}
use Rattle.std.specs.Io.KnownBytes.{IsAtEnd}
use Rattle.lk_text.specs.Feeds.{HasNoFeed, pieces}
use Rattle.lk_text.specs.Reader.{unread, kept, lines_given, looked_at, is_ended}
use Rattle.lk_text.specs.declared.reader.LineReader.{LineReader}
use Rattle.lk_forms.specs.Trace.{bytes_of}
use Rattle.lk_stream.specs.Grammar.{Grammar, Place, first_place, place_after, says_from}

-- a text is these pieces, and then the rest
abbrev pub IsCutTo : Option (List ℕ) → Option (List ℕ) → List (List ℕ) → Type 0
IsCutTo None rest before = ⊤
IsCutTo (Some bytes) None before = ⊥
IsCutTo (Some bytes) (Some rest) before =
    (bytes ≡ bytes_of before ++ rest) × (pieces bytes ≡ before ++ pieces rest)

-- each of these pieces ends at its only line feed
abbrev pub AllWhole : List (List ℕ) → Type 0
AllWhole [] = ⊤
AllWhole (piece ∷ before) =
    ((line : List ℕ) × (piece ≡ line ++ 10 ∷ []) × HasNoFeed line) × AllWhole before

-- none of these pieces is refused, and the place is behind them
pub record Leads {S : Type 0} (g : Grammar S) (before : List (List ℕ))
    (place : Place S) : Type 0 where
  pub accepted : (rest : List (List ℕ))
      → says_from g (first_place g) (before ++ rest) ≡ says_from g place rest
  pub behind : place_after g before ≡ place

-- the reader has given these lines of the text, and the place is behind them
pub record ReadsTo {S : Type 0} (g : Grammar S) (input : Option (List ℕ)) (reader : LineReader)
    (left : Option (List ℕ)) (place : Place S) : Type 0 where
  pub before : List (List ℕ)
  pub cut : IsCutTo input (unread reader left) before
  pub leads : Leads g before place
  pub whole : is_ended reader ≡ false → AllWhole before
  pub over : is_ended reader ≡ true → IsAtEnd (unread reader left)
  pub kept : kept reader ≡ None
  pub lines : lines_given reader ≡ place.lines
  pub looked : looked_at reader ≡ place.bytes
