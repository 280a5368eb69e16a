use Rattle.std.proofs.Common.{◌≡◌, All, map, replicate}
use Rattle.lk_rows.specs.Machine.{rest_lock}
use Rattle.lk_machine.specs.Packed.{ArePacked, lock_in}
use Rattle.lk_machine.proofs.machine.words.Words.new.Given as goal

-- the locks made so far
abbrev pub invariant-loop : goal.invariant-loop
invariant-loop l =
    All (ArePacked l.layout) l.locks.items
    × (map (lock_in l.layout) l.locks.items ≡ replicate l.counter rest_lock)
