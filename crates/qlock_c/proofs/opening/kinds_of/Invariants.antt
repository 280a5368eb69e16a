use Rattle.std.proofs.Common.{◌≡◌, length, map, take}
use Rattle.qlock_c.specs.Opened.{kind_numbered}
use Rattle.qlock_c.proofs.opening.kinds_of.Given as goal

-- the first ones are there
abbrev pub invariant-loop-i : goal.invariant-loop-i
invariant-loop-i l = record {
  made : l.all.items ≡ map kind_numbered (take l.i l.kinds);
  many : length l.all.items ≡ l.i;
  room : l.all.room ≡ length l.kinds;
}
