use Rattle.std.proofs.Common.{◌≤◌, ◌-◌, ◌^◌, List, ℕ, Option}
use Rattle.lk_text.specs.Reader.{looked_at}
use Rattle.lk_replay.specs.Stands.{Stands, IsOpen}
use Rattle.lk_replay.proofs.replaying.Replaying.read_on.Given as goal

abbrev pub invariant-lines : goal.invariant-lines
invariant-lines g l = record {
  opened : IsOpen l.self;
  stands : (input held : Option (List ℕ)) → Stands input held l.fn.self (g.S.Source.left l.fn.source) (g.K.Sink.held l.fn.sink)
      → Stands input held l.self (g.S.Source.left l.source) (g.K.Sink.held l.sink);
  reads : g.S.Source.faults l.fn.source ≤ g.S.Source.faults l.source;
  writes : g.K.Sink.faults l.fn.sink ≤ g.K.Sink.faults l.sink;
}

abbrev pub decreases-lines : goal.decreases-lines
decreases-lines g l = 2 ^ 30 - looked_at l.self.reader
