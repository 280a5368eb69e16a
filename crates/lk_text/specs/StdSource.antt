-- What is seen of a source that stands over a reader of std.
use Rattle.std.specs.Prelude.{ℕ}
use Rattle.lk_text.specs.declared.source.StdSource.{StdSource}

-- the reader that it asks
abbrev pub reader_of : {R : Type 0} → StdSource R → R
reader_of source = source.reader

-- the count of faults
abbrev pub faults_met : {R : Type 0} → StdSource R → ℕ
faults_met source = source.faults
