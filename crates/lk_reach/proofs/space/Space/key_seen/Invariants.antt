use Rattle.std.proofs.Common.{◌≡◌, length}
use Rattle.lk_reach.proofs.Kept.{Numbered}
use Rattle.lk_reach.proofs.space.Space.key_seen.Given as goal

-- the parts so far have numbers
abbrev pub invariant-loop-cpu : goal.invariant-loop-cpu
invariant-loop-cpu l = record {
  each : Numbered l.cpus l.self.parts l.machine l.cpu;
  room : length l.cpus ≡ 8;
}
