use Rattle.std.proofs.Common.{◌≡◌}
use Rattle.lk_run.proofs.Names.{KeepsRest, view_of}
use Rattle.lk_run.proofs.call.Queued.queue.Given as goal

-- the exchanges that failed changed nothing
abbrev pub invariant-loop : goal.invariant-loop
invariant-loop l = KeepsRest l.fn.cpu l.cpu × (view_of l.cpu ≡ view_of l.fn.cpu)
