use Rattle.std.proofs.Common.{◌≡◌, ◌≤◌, ◌-◌, ◌^◌, [], None, List, ℕ, Option}
use Rattle.lk_text.specs.Block.{waiting}
use Rattle.lk_text.specs.Reader.{kept, looked_at}
use Rattle.lk_stream.specs.Stands.{Stands}
use Rattle.lk_stream.proofs.stream.Stream.read_on.Given as goal

abbrev pub invariant-lines : goal.invariant-lines
invariant-lines g l = record {
  kept : kept l.self.reader ≡ None;
  stands : (input held : Option (List ℕ))
      → Stands g.G.Script.grammar (g.G.Script.shows l.fn.self.script) input held l.fn.self.reader
      (waiting l.fn.self.block) (g.S.Source.left l.fn.source) (g.K.Sink.held l.fn.sink)
      → Stands g.G.Script.grammar (g.G.Script.shows l.self.script) input held l.self.reader
      (waiting l.self.block) (g.S.Source.left l.source) (g.K.Sink.held l.sink);
  untouched : g.G.Script.takes l.self.script → waiting l.fn.self.block ≡ []
      → (waiting l.self.block ≡ []) × (l.sink ≡ l.fn.sink);
  reads : g.S.Source.faults l.fn.source ≤ g.S.Source.faults l.source;
  writes : g.K.Sink.faults l.fn.sink ≤ g.K.Sink.faults l.sink;
}

abbrev pub decreases-lines : goal.decreases-lines
decreases-lines g l = 2 ^ 30 - looked_at l.self.reader
