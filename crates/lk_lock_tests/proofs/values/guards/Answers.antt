use Rattle.lk_lock_tests.proofs.values.guards.Goals as goal

pub unlock-requires-clause-inside : goal.unlock-requires-clause-inside
unlock-requires-clause-inside g c =
    (c.last-cpu.result, c.with-other.ensures.inside c.last-cpu.result c.lock-held.ensures.inside)
