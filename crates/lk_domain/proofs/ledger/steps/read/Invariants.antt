use Rattle.std.proofs.Common.{◌≡◌, take, drop, length}
use Rattle.lk_domain.proofs.Names.{slots_items}
use Rattle.lk_domain.proofs.ledger.steps.read.Given as goal

abbrev pub invariant-loop-account : goal.invariant-loop-account
invariant-loop-account l = record {
  items : l.balances.items ≡ take l.account (drop l.first (slots_items l.closed.words));
  long : length l.balances.items ≡ l.account;
  room : l.balances.room ≡ l.fn.balances.room;
}
