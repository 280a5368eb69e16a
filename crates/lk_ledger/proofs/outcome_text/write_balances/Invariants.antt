use Rattle.std.proofs.Common.{◌≤◌, take}
use Rattle.lk_text.specs.Bytes.{Conveys}
use Rattle.lk_text.specs.Block.{waiting}
use Rattle.lk_job_forms.specs.Texts.{balance_lines_from}
use Rattle.lk_ledger.proofs.outcome_text.write_balances.Given as goal

abbrev pub invariant-loop-account : goal.invariant-loop-account
invariant-loop-account g l = record {
  conveyed : Conveys (g.K.Sink.held l.fn.sink) (g.K.Sink.held l.sink) (waiting l.fn.block)
      (balance_lines_from 0 (take l.account l.balances)) (waiting l.block);
  later : g.K.Sink.faults l.fn.sink ≤ g.K.Sink.faults l.sink;
}
