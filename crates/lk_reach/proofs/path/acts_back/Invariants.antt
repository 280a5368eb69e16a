use Rattle.std.proofs.Common.{◌≤◌, ◌+◌, reverse}
use Rattle.lk_reach.proofs.Names.{IsPath}
use Rattle.lk_reach.proofs.path.acts_back.Given as goal

-- the acts so far, the last one first, lead on to the state, from one that is lower by at least as many
abbrev pub invariant-loop-made : goal.invariant-loop-made
invariant-loop-made l = record {
  down : l.here + l._made ≤ l.state;
  path : IsPath l.plan l.book l.here l.state (reverse l.acts.items);
}
