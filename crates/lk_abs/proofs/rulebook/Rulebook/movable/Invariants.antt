use Rattle.std.proofs.Common.{◌≡◌, ◌+◌, drop}
use Rattle.lk_names.specs.Lawful.{movable, is_far}
use Rattle.lk_abs.proofs.rulebook.Rulebook.movable.Given as goal

abbrev pub invariant-loop-at : goal.invariant-loop-at
invariant-loop-at l = record {
  counted : movable (is_far l.self l.front) l.behind ≡ l.at + movable (is_far l.self l.front) (drop l.at l.behind);
}
