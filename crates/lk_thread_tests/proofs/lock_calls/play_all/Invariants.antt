use Rattle.std.proofs.Common.{◌≡◌, None}
use Rattle.lk_domain.specs.Seats.{IsOf, ledger_of}
use Rattle.lk_thread_tests.specs.Stages.{NoneOut}
use Rattle.lk_thread_tests.proofs.lock_calls.play_all.Given as goal

-- both are processors of the domain, with the journal at home
abbrev pub invariant-loop-row : goal.invariant-loop-row
invariant-loop-row g l = record {
  domain : IsOf l.first l.domain × IsOf l.second l.domain;
  home : ((ledger_of l.first).out ≡ None) × ((ledger_of l.second).out ≡ None);
  values : NoneOut l.first × NoneOut l.second;
}
