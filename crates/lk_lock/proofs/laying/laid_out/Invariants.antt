use Rattle.std.proofs.Common.{◌≡◌, ◌+◌, ◌*◌, ◌≤◌, ◌++◌, ℕ, length}
use Rattle.lk_lock.proofs.Names.{laid}
use Rattle.lk_lock.proofs.laying.laid_out.Given as goal

-- the keys that are laid out, and those that are left
abbrev pub invariant-loop : goal.invariant-loop
invariant-loop l = record {
  keys : (n : ℕ) → l.counter + n ≡ l.values → l.all.items ++ laid n l.keys.items ≡ laid l.values l.fn.keys.items;
  many : length l.keys.items ≡ length l.fn.keys.items;
  room : l.all.room ≡ l.values * length l.fn.keys.items;
  long : length l.all.items ≤ l.counter * length l.fn.keys.items;
}
