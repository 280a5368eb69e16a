use Rattle.std.proofs.Common.{◌≡◌, length}
use Rattle.lk_reach.proofs.Names.{HasShared}
use Rattle.lk_reach.proofs.Kept.{Numbered}
use Rattle.lk_reach.proofs.space.Space.load.Given as goal

-- the processors so far are those of the key
abbrev pub invariant-loop-cpu : goal.invariant-loop-cpu
invariant-loop-cpu l = record {
  shared : HasShared l.self.shareds l.key.shared l.machine;
  each : Numbered l.key.cpus l.self.parts l.machine l.cpu;
  setup : l.machine.setup ≡ l.fn.machine.setup;
  counts : l.machine.counts ≡ l.fn.machine.counts;
  cpus : length l.machine.cpus ≡ length l.fn.machine.cpus;
  locks : length l.machine.locks ≡ length l.fn.machine.locks;
}
