use Rattle.std.proofs.Common.{◌≡◌, ◌++◌, List, length}
use Rattle.lk_lock.proofs.Names.{ListOf, Key, all_behind, firsts}
use Rattle.lk_lock.proofs.laying.take_firsts.Given as goal

-- the locks whose first key was taken, and those that are left
abbrev pub invariant-loop-lock : goal.invariant-loop-lock
invariant-loop-lock l = record {
  done : List (ListOf Key);
  left : List (ListOf Key);
  whole : l.fn.keys.items ≡ done ++ left;
  many : length done ≡ l.lock;
  keys : l.keys ≡ record l.fn.keys { items = all_behind done ++ left };
  all : l.all ≡ record l.fn.all { items = l.fn.all.items ++ firsts done };
}
