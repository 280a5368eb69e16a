-- A line that is put together.
use Rattle.std.specs.Prelude.{ℕ, List, take}
use Rattle.lk_text.specs.declared.line.LineBuf.{LineBuf}

-- the bytes of the line so far
abbrev pub line_text : LineBuf → List ℕ
line_text line = take line.len line.bytes
