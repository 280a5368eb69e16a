-- What a reader of lines holds, and what a call that asks it for the next line does.
-- `old` and `new` are the reader before and after the call; `before` and `after` are what the source has left then, where it
-- tells that; `faults` and `faults_after` are the source's counts of faults.
use Rattle.std.specs.Prelude.{Bool, true, false, ◌≡◌, ℕ, ◌+◌, ◌≤◌, List, [], ◌∷◌, length, take, drop, ◌⊎◌, Option, None, Some, Result, Ok, Err, slice_range, nat_lt}
use Rattle.std.specs.Io.KnownBytes.{IsAtEnd, Keeps, prepend_known}
use Rattle.std.specs.Borrow.{Bor}
use Rattle.lk_text.specs.Causes.{Rose}
use Rattle.lk_text.specs.Feeds.{HasNoFeed}
use Rattle.lk_text.specs.Lines.{TakesLine, IsOver, PassesLineLimit, PassesInputLimit}
use Rattle.lk_text.specs.declared.reader.LineFault.{LineFault}
use Rattle.lk_text.specs.declared.reader.LineFault.TheVariants.{ReadFault, TooLong, TooMuch}
use Rattle.lk_text.specs.declared.reader.LineReader.{LineReader}
use Rattle.lk_text.specs.declared.reader.TheConstants.{MAX_INPUT, MAX_LINE}

-- the bytes that the reader took from the source and did not look at
abbrev pub pending : LineReader → List ℕ
pending reader = slice_range reader.block.items reader.at reader.end

-- the bytes that no line was made of so far: those that are pending, and then what the source has left
abbrev pub unread : LineReader → Option (List ℕ) → Option (List ℕ)
unread reader left = prepend_known (pending reader) left

-- the fault that the reader keeps, and answers from now on
abbrev pub kept : LineReader → Option LineFault
kept reader = reader.kept

-- how many lines the reader gave
abbrev pub lines_given : LineReader → ℕ
lines_given reader = reader.lines

-- how many bytes the reader looked at: those of the lines that it gave, with their line feeds
abbrev pub looked_at : LineReader → ℕ
looked_at reader = reader.looked

-- whether the reader met the end of input
abbrev pub is_ended : LineReader → Bool
is_ended reader = reader.ended

-- whether a whole line is among the pending bytes
abbrev pub is_at_hand : LineReader → Bool
is_at_hand reader = nat_lt reader.at reader.whole

-- a reader as it is made: it took nothing, gave nothing and keeps nothing
pub record IsFresh (reader : LineReader) : Type 0 where
  pub pending : pending reader ≡ []
  pub kept : kept reader ≡ None
  pub ended : is_ended reader ≡ false
  pub lines : lines_given reader ≡ 0
  pub looked : looked_at reader ≡ 0

-- no line was given, no byte was looked at, and the reader keeps the fault and knows of the end as before
pub record KeepsPlace (old new : LineReader) : Type 0 where
  pub looked : looked_at new ≡ looked_at old
  pub lines : lines_given new ≡ lines_given old
  pub kept : kept new ≡ kept old
  pub ended : is_ended new ≡ is_ended old

-- the next line has `line` bytes and, with its line feed, `all`: it ends at a line feed of the pending bytes, or at the end of input
pub record EndsAt (pending : List ℕ) (left : Option (List ℕ)) (looked line all : ℕ) : Type 0 where
  pub plain : HasNoFeed (take line pending)
  pub fits : all ≤ length pending
  pub ends : ((all ≡ line + 1) × (drop line pending ≡ 10 ∷ drop (line + 1) pending)) ⊎ ((all ≡ line) × (line ≡ length pending) × IsAtEnd left)
  pub short : line ≤ MAX_LINE
  pub within : looked + all ≤ MAX_INPUT

-- the call gave the line at the front of the unread bytes
pub record GaveLine (old new : LineReader) (before after : Option (List ℕ)) (line : List ℕ) : Type 0 where
  pub takes : TakesLine (unread old before) (unread new after) (looked_at old) (looked_at new) (is_ended new) line
  pub lines : lines_given new ≡ lines_given old + 1
  pub kept : kept new ≡ None
  pub was_not : is_ended old ≡ false

-- the end of input was met, in this call or in an earlier one, since which nothing changed
pub record MetEnd (old new : LineReader) (before after : Option (List ℕ)) : Type 0 where
  pub over : is_ended old ≡ false → IsOver (unread old before) (unread new after)
  pub same : is_ended old ≡ true → new ≡ old
  pub ended : is_ended new ≡ true
  pub lines : lines_given new ≡ lines_given old
  pub kept : kept new ≡ None

-- why a reader that kept no fault answers one
abbrev pub Reason : LineReader → LineReader → Option (List ℕ) → Option (List ℕ) → ℕ → ℕ → LineFault → Type 0
Reason old new before after faults faults_after ReadFault =
    (is_ended old ≡ false) × (is_at_hand old ≡ false) × Rose faults faults_after × Keeps (unread old before) (unread new after) × HasNoFeed (pending new)
Reason old new before after faults faults_after TooLong = PassesLineLimit (unread old before) (looked_at old)
Reason old new before after faults faults_after TooMuch = PassesInputLimit (unread old before) (looked_at old)

-- the call answered a fault, which is kept from now on
pub record GaveFault (old new : LineReader) (before after : Option (List ℕ)) (faults faults_after : ℕ) (fault : LineFault) : Type 0 where
  pub reason : kept old ≡ None → Reason old new before after faults faults_after fault
  pub lines : lines_given new ≡ lines_given old
  pub kept : kept new ≡ Some fault

-- what a call that asks for the next line answers, and what it leaves
abbrev pub NextLine : LineReader → LineReader → Option (List ℕ) → Option (List ℕ) → ℕ → ℕ → Result (Option (Bor (List ℕ))) LineFault → Type 0
NextLine old new before after faults faults_after (Ok (Some line)) = GaveLine old new before after line.now
NextLine old new before after faults faults_after (Ok None) = MetEnd old new before after
NextLine old new before after faults faults_after (Err fault) = GaveFault old new before after faults faults_after fault
