use Rattle.std.proofs.Common.{◌≤◌, take}
use Rattle.lk_text.specs.Bytes.{Conveys}
use Rattle.lk_text.specs.Block.{waiting}
use Rattle.lk_job_forms.specs.Texts.{entry_lines_from}
use Rattle.lk_ledger.proofs.outcome_text.write_entries.Given as goal

abbrev pub invariant-loop-at : goal.invariant-loop-at
invariant-loop-at g l = record {
  conveyed : Conveys (g.K.Sink.held l.fn.sink) (g.K.Sink.held l.sink) (waiting l.fn.block)
      (entry_lines_from 1 (take l.at l.journal)) (waiting l.block);
  later : g.K.Sink.faults l.fn.sink ≤ g.K.Sink.faults l.sink;
}
