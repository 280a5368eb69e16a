use Rattle.std.proofs.Common.{◌≡◌, map, take}
use Rattle.lk_osq.specs.Run.{rest_cpu}
use Rattle.lk_osq.proofs.machine.cpus_at_rest.Given as goal

-- the processors made so far
abbrev pub invariant-loop-cpu : goal.invariant-loop-cpu
invariant-loop-cpu l = l.cpus.items ≡ map rest_cpu (take l.cpu l.rounds.items)
