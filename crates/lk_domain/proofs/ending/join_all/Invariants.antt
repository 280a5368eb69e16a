use Rattle.std.proofs.Common.{◌≡◌, ◌<◌, take, length, [], None}
use Rattle.lk_domain.proofs.Names.{all_past}
use Rattle.lk_domain.specs.{Ends.HasFrom, Seated.IsSeatOf}
use Rattle.lk_domain.proofs.ending.join_all.Given as goal

abbrev pub decreases-loop-cpus : goal.decreases-loop-cpus
decreases-loop-cpus l = length l.cpus.items

abbrev pub invariant-loop-cpus : goal.invariant-loop-cpus
invariant-loop-cpus l = record {
  rest : l.cpus.items ≡ take (length l.cpus.items) l.fn.cpus.items;
  few : length l.cpus.items < length l.fn.cpus.items;
  seat : IsSeatOf l.domain.plan l.domain.table.shared.table_id l.last;
  home : l.last.me.0.ledger.out ≡ None;
  holds : l.last.me.0.calls.holds ≡ [];
  has : HasFrom (length l.cpus.items) l.fn.cpus.items (all_past l.last.me.0);
}
