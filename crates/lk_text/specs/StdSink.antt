-- What is seen of a sink that stands over a writer of std.
use Rattle.std.specs.Prelude.{ℕ}
use Rattle.lk_text.specs.declared.sink.StdSink.{StdSink}

-- the writer that it gives its pieces to
abbrev pub writer_of : {W : Type 0} → StdSink W → W
writer_of sink = sink.writer

-- the count of faults
abbrev pub faults_met : {W : Type 0} → StdSink W → ℕ
faults_met sink = sink.faults
