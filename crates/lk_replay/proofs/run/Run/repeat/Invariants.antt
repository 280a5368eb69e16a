use Rattle.std.proofs.Common.{◌<◌, ◌≤◌, ◌-◌, length, replicate}
use Rattle.lk_text.specs.Bytes.{Conveys}
use Rattle.lk_text.specs.Block.{waiting}
use Rattle.lk_rows.specs.Acts.{processor_of}
use Rattle.lk_forms.specs.Texts.{lines}
use Rattle.lk_replay.specs.Run.{CanGoOn, Makes, occurrences_in}
use Rattle.lk_replay.proofs.run.Run.repeat.Given as goal

abbrev pub invariant-loop-made : goal.invariant-loop-made
invariant-loop-made g l = record {
  most : l.made ≤ l.times;
  ready : CanGoOn l.self;
  processor : processor_of l.act < length l.self.machine.cpus;
  made_so : Makes l.fn.self l.self (replicate l.made l.act);
  conveyed : Conveys (g.K.Sink.held l.fn.sink) (g.K.Sink.held l.sink) (waiting l.fn.block) (lines (occurrences_in l.fn.self (replicate l.made l.act))) (waiting l.block);
  later : g.K.Sink.faults l.fn.sink ≤ g.K.Sink.faults l.sink;
}

abbrev pub decreases-loop-made : goal.decreases-loop-made
decreases-loop-made g l = l.times - l.made
