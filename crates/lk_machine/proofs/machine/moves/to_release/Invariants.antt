use Rattle.std.proofs.Common.{◌≡◌, ◌+◌, drop}
use Rattle.lk_rows.specs.Programs.{to_release}
use Rattle.lk_machine.proofs.machine.moves.to_release.Given as goal

-- the operations passed so far do not release the lock
abbrev pub invariant-loop-at : goal.invariant-loop-at
invariant-loop-at l = l.from + to_release (drop l.from l.program.items) l.lock ≡ l.at + to_release (drop l.at l.program.items) l.lock
