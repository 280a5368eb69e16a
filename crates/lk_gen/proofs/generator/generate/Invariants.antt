use Rattle.lk_gen.specs.Generated.{generated}
use Rattle.lk_gen.specs.Writes.{Puts, text_left, pages_left}
use Rattle.lk_gen.proofs.generator.generate.Given as goal

abbrev pub invariant-pages : goal.invariant-pages
invariant-pages g l = record {
  puts : Puts (g.K.Sink.held l.fn.sink) (g.K.Sink.held l.sink) (g.K.Sink.faults l.fn.sink) (g.K.Sink.faults l.sink)
      (g.K.Sink.sure l.fn.sink) (g.K.Sink.sure l.sink) (generated l.start) (text_left l.left);
}

abbrev pub decreases-pages : goal.decreases-pages
decreases-pages g l = pages_left l.left
