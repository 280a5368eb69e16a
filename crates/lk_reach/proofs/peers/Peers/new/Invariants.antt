use Rattle.std.proofs.Common.{◌≡◌, ◌<◌, ℕ, get_or, length}
use Rattle.lk_reach.proofs.Names.{IsPeer}
use Rattle.lk_reach.proofs.peers.Peers.new.Given as goal

-- each number so far is that of one that is like the processor
abbrev pub invariant-loop-cpu : goal.invariant-loop-cpu
invariant-loop-cpu l = record {
  size : length l.firsts ≡ 8;
  each : (p : ℕ) → p < l.cpu → IsPeer l.setup (get_or l.firsts p p) p;
}
