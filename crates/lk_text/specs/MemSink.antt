-- What is seen of a sink in memory that fails where it is told to.
use Rattle.std.specs.Prelude.{ℕ, ◌-◌, ◌==◌, List, length, if◌then◌else◌}
use Rattle.lk_text.specs.declared.sink.MemSink.{MemSink}

-- the bytes that it took
abbrev pub bytes_held : MemSink → List ℕ
bytes_held sink = sink.bytes.items

-- the count of faults
abbrev pub faults_met : MemSink → ℕ
faults_met sink = sink.faults

-- the most bytes that it takes in all
abbrev pub room_of : MemSink → ℕ
room_of sink = sink.room

-- the numbers of the calls that fail
abbrev pub failing_writes : MemSink → List ℕ
failing_writes sink = sink.fails.items

-- how many calls were made, which stops at the last value of a `u64`
abbrev pub writes_made : MemSink → ℕ
writes_made sink = sink.calls

-- how many bytes more it takes for certain: what is left of its room, where no call is to fail
abbrev pub sure_room : MemSink → ℕ
sure_room sink = if length (failing_writes sink) == 0 then room_of sink - length (bytes_held sink) else 0
