use Rattle.std.proofs.Common.{◌<◌, ◌≤◌, length, replicate}
use Rattle.lk_text.specs.Bytes.{Conveys}
use Rattle.lk_text.specs.Block.{waiting}
use Rattle.lk_osq_forms.specs.Grammar.{act_of}
use Rattle.lk_osq_forms.specs.Texts.{lines}
use Rattle.lk_osq_replay.specs.Run.{Makes, occurrences_in}
use Rattle.lk_osq_replay.proofs.run.Run.repeat.Given as goal

abbrev pub invariant-loop-made : goal.invariant-loop-made
invariant-loop-made g l = record {
  processor : l.cpu < length l.self.machine.cpus;
  made : Makes l.fn.self l.self (replicate l._made (act_of l.give l.cpu));
  conveyed : Conveys (g.K.Sink.held l.fn.sink) (g.K.Sink.held l.sink) (waiting l.fn.block)
      (lines (occurrences_in l.fn.self (replicate l._made (act_of l.give l.cpu))))
      (waiting l.block);
  later : g.K.Sink.faults l.fn.sink ≤ g.K.Sink.faults l.sink;
}
