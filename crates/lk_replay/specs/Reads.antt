-- A text, read up to a line.
use Rattle.std.specs.Prelude.{true, false, ◌≡◌, ℕ, List, [], ◌++◌, Option, None, length}
use Rattle.std.specs.Io.KnownBytes.{IsAtEnd}
use Rattle.lk_text.specs.Reader.{unread, kept, lines_given, looked_at, is_ended}
use Rattle.lk_text.specs.declared.reader.LineReader.{LineReader}
use Rattle.lk_forms.specs.Trace.{trace_from, bytes_of}
use Rattle.lk_stream.specs.Reads.{IsCutTo, AllWhole}

-- none of these lines is refused
abbrev pub IsAccepted : List (List ℕ) → Type 0
IsAccepted before = (rest : List (List ℕ)) → trace_from [] (before ++ rest) ≡ trace_from before rest

-- the reader has given these lines of the text, and all of them were accepted
pub record ReadsTo (input : Option (List ℕ)) (reader : LineReader) (left : Option (List ℕ)) (before : List (List ℕ)) : Type 0 where
  pub cut : IsCutTo input (unread reader left) before
  pub accepted : IsAccepted before
  pub whole : is_ended reader ≡ false → AllWhole before
  pub over : is_ended reader ≡ true → IsAtEnd (unread reader left)
  pub kept : kept reader ≡ None
  pub lines_given : lines_given reader ≡ length before
  pub looked : looked_at reader ≡ length (bytes_of before)
