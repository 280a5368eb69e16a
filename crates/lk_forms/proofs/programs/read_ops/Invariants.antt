use Rattle.std.proofs.Common.{◌≡◌, ◌≤◌, length}
use Rattle.lk_forms.specs.declared.limits.TheConstants.{MAX_OPS}
use Rattle.lk_forms.specs.Words.{words}
use Rattle.lk_forms.specs.Operations.{ops_from, ops_of}
use Rattle.lk_forms.proofs.programs.read_ops.Given as goal

abbrev pub invariant-loop-verb : goal.invariant-loop-verb
invariant-loop-verb l = record {
  same : ops_from l.kinds l.ops.items (words l.rest) ≡ ops_of l.kinds (words l.args);
  room : l.ops.room ≡ MAX_OPS;
  few : length l.ops.items ≤ MAX_OPS;
}

abbrev pub decreases-loop-verb : goal.decreases-loop-verb
decreases-loop-verb l = length l.rest
