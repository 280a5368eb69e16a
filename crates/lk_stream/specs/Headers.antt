-- What a reader of headers makes of a line.
use Rattle.std.specs.Prelude.{ℕ, List, Option, Result}
use Rattle.lk_text.specs.Reader.{GaveLine}
use Rattle.lk_text.specs.declared.reader.LineReader.{LineReader}
use Rattle.lk_forms.specs.Grammar.{read}
use Rattle.lk_forms.specs.Reader.{ReadsOn, reading}
use Rattle.lk_forms.specs.declared.answers.HeaderStep.{HeaderStep}
use Rattle.lk_forms.specs.declared.answers.LineRefusal.{LineRefusal}
use Rattle.lk_forms.specs.declared.header.HeaderReader.{HeaderReader}

-- The header has read the line that the reader gave, and answers so. `left` and `left_now` are what
-- the source has left before it and after it.
pub record HasReadLine (header header_now : HeaderReader) (reader reader_now : LineReader)
    (left left_now : Option (List ℕ)) (said : Result HeaderStep LineRefusal) : Type 0 where
  pub line : List ℕ
  pub gave : GaveLine reader reader_now left left_now line
  pub reads : ReadsOn (read (reading header) line) (reading header) (reading header_now) said
