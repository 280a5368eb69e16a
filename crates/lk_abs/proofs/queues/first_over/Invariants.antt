use Rattle.std.proofs.Common.{◌≡◌, ◌≤◌, length, map, suc, drop}
use Rattle.lk_abs.specs.Breaches.{first_over}
use Rattle.lk_abs.proofs.queues.first_over.Given as goal

abbrev pub invariant-loop-at : goal.invariant-loop-at
invariant-loop-at l = record {
  rest : first_over l.lock l.threshold l.waiters (map (λ n. suc n) l.passes) ≡ first_over l.lock l.threshold (drop l.at l.waiters) (map (λ n. suc n) (drop l.at l.passes));
  within : l.at ≤ length l.passes;
}
