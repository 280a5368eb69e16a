use Rattle.std.proofs.Common.{◌≡◌, take}
use Rattle.lk_reach.proofs.Names.{renamed, renaming_of, bare, run, start_of}
use Rattle.lk_reach.proofs.folding.run_renamed.Given as goal

-- the machine is the state behind the acts so far, under new numbers
abbrev pub invariant-loop-at : goal.invariant-loop-at
invariant-loop-at l = l.machine ≡ renamed (renaming_of l.order)
    (run (bare (start_of l.plan l.fn.machine.setup)) (take l.at l.way.items))
