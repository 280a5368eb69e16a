-- What is seen of a source of bytes in memory that never fails.
use Rattle.std.specs.Prelude.{ℕ, List, drop}
use Rattle.lk_text.specs.declared.source.SureSource.{SureSource}

-- the bytes that were not given so far
abbrev pub bytes_left : SureSource → List ℕ
bytes_left source = drop source.at source.bytes.items

-- the most bytes that one call gives
abbrev pub chunk_of : SureSource → ℕ
chunk_of source = source.chunk
