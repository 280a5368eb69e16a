use Rattle.std.proofs.Common.{◌≡◌}
use Rattle.lk_reach.specs.Space.{SameStates}
use Rattle.lk_reach.proofs.space.Space.classify_all.Given as goal

-- the machine and the states are as before
abbrev pub invariant-loop-cpu : goal.invariant-loop-cpu
invariant-loop-cpu l = record {
  machine : l.machine ≡ l.fn.machine;
  states : SameStates l.fn.self l.self;
}
