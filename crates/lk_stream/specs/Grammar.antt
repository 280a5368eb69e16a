-- A grammar of lines, and what a text says by it. A piece is a line with its line feed.
use Rattle.std.specs.Prelude.{◌≡◌, ◌+◌, ◌&&◌, nat_lt, nat_le, ℕ, List, [], ◌∷◌, ◌++◌, Option, None, Some, Result, Ok, Err, length, fold, IfSome, if◌then◌else◌}
use Rattle.std.specs.Result.{result_unwrap_or}
use Rattle.lk_text.specs.Feeds.{pieces, line_of}
use Rattle.lk_text.specs.declared.reader.TheConstants.{MAX_INPUT, MAX_LINE}
use Rattle.lk_forms.specs.declared.answers.Fault.{Fault}
use Rattle.lk_forms.specs.declared.answers.Which.TheVariants.{Line, Input}
use Rattle.lk_forms.specs.declared.answers.LineRefusal.{LineRefusal}
use Rattle.lk_forms.specs.declared.answers.LineRefusal.TheVariants.{Bad, Limit}

-- What lines say, as a value of S: at first; with one line more, without its line feed, or why that
-- is refused; and what is wrong where the text ends behind them, if it may not end there. And what
-- is written for what they say, and behind that where the text ends.
pub record Grammar (S : Type 0) : Type 0 where
  pub start : S
  pub read : S → List ℕ → Result S LineRefusal
  pub ending : S → Option Fault
  pub text : S → List ℕ
  pub closing : S → List ℕ

-- where a text was read to: what its lines so far say, how many there are, and how many bytes
pub record Place (S : Type 0) : Type 0 where
  pub said : S
  pub lines : ℕ
  pub bytes : ℕ

-- A text is good, and says this; or it is refused at a line, and the lines before it say this.
pub data Saying (S : Type 0) : Type 0 where
  Good : S → Saying S
  Refused : ℕ → LineRefusal → S → Saying S

abbrev pub first_place : {S : Type 0} → Grammar S → Place S
first_place g = record { said = g.start; lines = 0; bytes = 0 }

-- with one piece more
abbrev pub placed : {S : Type 0} → Place S → List ℕ → Result S LineRefusal
    → Result (Place S) LineRefusal
placed p piece (Err why) = Err why
placed p piece (Ok s) =
    Ok (record { said = s; lines = p.lines + 1; bytes = p.bytes + length piece })

-- The place behind one piece more, or why it is refused: it passes a limit of bytes, or the grammar
-- refuses its line.
abbrev pub next_place : {S : Type 0} → Grammar S → Place S → List ℕ → Result (Place S) LineRefusal
next_place g p piece =
    if nat_lt MAX_LINE (length (line_of piece)) && nat_le (p.bytes + MAX_LINE) MAX_INPUT
    then Err (Limit Line)
    else if nat_lt MAX_INPUT (p.bytes + length piece) then Err (Limit Input)
    else placed p piece (g.read p.said (line_of piece))

-- what the whole text says that ends at this place
abbrev pub says_at_end : {S : Type 0} → Place S → Option Fault → Saying S
says_at_end p None = Good p.said
says_at_end p (Some fault) = Refused (p.lines + 1) (Bad fault) p.said

-- what follows a line that is accepted, or the refusal
abbrev pub unless_refused : {S : Type 0} → Place S → Result (Place S) LineRefusal
    → (Place S → Saying S) → Saying S
unless_refused p (Ok q) rest = rest q
unless_refused p (Err why) rest = Refused (p.lines + 1) why p.said

-- what the whole text says of which these pieces stand behind the place
abbrev pub says_from : {S : Type 0} → Grammar S → Place S → List (List ℕ) → Saying S
says_from g p [] = says_at_end p (g.ending p.said)
says_from g p (piece ∷ rest) = unless_refused p (next_place g p piece) (λ q. says_from g q rest)

-- what a text says
abbrev pub saying : {S : Type 0} → Grammar S → List ℕ → Saying S
saying g bytes = says_from g (first_place g) (pieces bytes)

-- a known text says this
abbrev pub Says : {S : Type 0} → Grammar S → Option (List ℕ) → Saying S → Type 0
Says g known said = IfSome known (λ bytes. saying g bytes ≡ said)

-- all that is written for a text: what closes stands only behind a good one
abbrev pub text_of : {S : Type 0} → Grammar S → Saying S → List ℕ
text_of g (Good s) = g.text s ++ g.closing s
text_of g (Refused line why s) = g.text s

-- the place behind these pieces: a refused one is passed over
abbrev pub place_after : {S : Type 0} → Grammar S → List (List ℕ) → Place S
place_after g ps = fold (λ p piece. result_unwrap_or (next_place g p piece) p) (first_place g) ps
