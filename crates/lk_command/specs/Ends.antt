-- What is seen of a source and of a sink, by what their traits tell.
use Rattle.lk_text.specs.declared.source.Source as source
use Rattle.lk_text.specs.declared.sink.Sink as sink
use Rattle.lk_stream.specs.Outside.{Outside, outside}

-- what is seen of these two at one moment
abbrev pub outside_of : {X Y : Type 0} → source.Ghosts X → sink.Ghosts Y → X → Y → Outside
outside_of reads writes from into = outside (reads.left from) (reads.faults from) (writes.held into) (writes.faults into)
