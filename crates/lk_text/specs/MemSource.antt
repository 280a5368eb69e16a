-- What is seen of a source of bytes in memory that fails where it is told to.
use Rattle.std.specs.Prelude.{ℕ, List, drop}
use Rattle.lk_text.specs.declared.source.MemSource.{MemSource}

-- the bytes that were not given so far
abbrev pub bytes_left : MemSource → List ℕ
bytes_left source = drop source.sure.at source.sure.bytes.items

-- the count of faults
abbrev pub faults_met : MemSource → ℕ
faults_met source = source.faults

-- the most bytes that one call gives
abbrev pub chunk_of : MemSource → ℕ
chunk_of source = source.sure.chunk

-- the numbers of the calls that fail
abbrev pub failing_reads : MemSource → List ℕ
failing_reads source = source.fails.items

-- how many calls were made, which stops at the last value of a `u64`
abbrev pub reads_made : MemSource → ℕ
reads_made source = source.calls
