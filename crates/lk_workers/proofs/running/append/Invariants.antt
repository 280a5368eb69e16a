use Rattle.std.proofs.Common.{◌≡◌, ◌++◌, take}
use Rattle.lk_workers.proofs.running.append.Given as goal

abbrev pub invariant-loop-read : goal.invariant-loop-read
invariant-loop-read l = l.all
    ≡ record l.fn.all { items = l.fn.all.items ++ take l.read-index l.reads }
