use Rattle.std.proofs.Common.{◌<◌, ◌≤◌, ◌⊎◌, inl, inr, length, arith, below_more}
use Rattle.std.proofs.lemmas.Bool.{cases_lt}
use Rattle.lk_rows.specs.Programs.{handlers_of}
use Rattle.lk_order.proofs.Inside.{has_programs, no_handlers}
use Rattle.lk_order.proofs.check.first_crowded.Goals as goal

pub programs_of-programs-requires : goal.programs_of-programs-requires
programs_of-programs-requires c = has_programs c.args.setup.now c.loop-cpu.cpu c.requires (omega (arith, c.len-cpus.ensures, c.loop-cpu-test.true))

pub loop-cpu-preserved : goal.loop-cpu-preserved
loop-cpu-preserved c =
    below_more (λ p. handlers_of c.args.setup.now p ≤ 3) c.loop-cpu.cpu c.loop-cpu.invariant (omega (arith, c.programs_of-programs.ensures))

pub returns : goal.returns
returns c made p = by_place (cases_lt p (length c.args.setup.now.topology.sockets.items))
  where
    by_place : (p < length c.args.setup.now.topology.sockets.items) ⊎ (length c.args.setup.now.topology.sockets.items ≤ p) → handlers_of c.args.setup.now p ≤ 3
    by_place (inl less) = c.loop-cpu.invariant p (omega (arith, less, c.len-cpus.ensures, c.loop-cpu-test.false))
    by_place (inr past) = omega (arith, no_handlers c.args.setup.now p (omega (arith, past, c.requires.irqs)))
