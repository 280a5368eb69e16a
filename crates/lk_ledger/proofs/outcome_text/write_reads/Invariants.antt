use Rattle.std.proofs.Common.{◌≤◌, take}
use Rattle.lk_text.specs.Bytes.{Conveys}
use Rattle.lk_text.specs.Block.{waiting}
use Rattle.lk_job_forms.specs.Texts.{seen_lines}
use Rattle.lk_ledger.proofs.outcome_text.write_reads.Given as goal

abbrev pub invariant-loop-seen : goal.invariant-loop-seen
invariant-loop-seen g l = record {
  conveyed : Conveys (g.K.Sink.held l.fn.sink) (g.K.Sink.held l.sink) (waiting l.fn.block)
      (seen_lines (take l.seen-index l.reads)) (waiting l.block);
  later : g.K.Sink.faults l.fn.sink ≤ g.K.Sink.faults l.sink;
}
