use Rattle.std.proofs.Common.{◌≡◌}
use Rattle.lk_rows.specs.Run.{rest_cpus}
use Rattle.lk_machine.proofs.machine.rest.rest_cpus.Given as goal

-- the processors made so far
abbrev pub invariant-loop-cpu : goal.invariant-loop-cpu
invariant-loop-cpu l = l.cpus.items ≡ rest_cpus l.setup 0 l.cpu
