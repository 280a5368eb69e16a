use Rattle.std.proofs.Common.{◌≡◌, take}
use Rattle.lk_forms.specs.Operations.{way_after_all, try_at}
use Rattle.lk_forms.proofs.operations.last_on.Given as goal

abbrev pub invariant-loop-at : goal.invariant-loop-at
invariant-loop-at l = record {
  way : way_after_all (take l.«at» l.ops) l.lock ≡ way_after_all l.ops l.lock;
  place : try_at (take l.«at» l.ops) l.lock ≡ try_at l.ops l.lock;
}
