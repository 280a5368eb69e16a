use Rattle.std.proofs.Common.{arith}
use Rattle.lk_order.proofs.Inside.{has_programs}
use Rattle.lk_order.proofs.orders.Orders.of.Goals as goal

pub programs_of-programs-requires : goal.programs_of-programs-requires
programs_of-programs-requires c = has_programs c.args.setup.now c.loop-cpu.cpu c.requires (omega (arith, c.len-cpus.ensures, c.loop-cpu-test.true))

pub note_nested-requires : goal.note_nested-requires
note_nested-requires c = record {
  lawful = c.requires;
  programs = has_programs c.args.setup.now c.loop-cpu.cpu c.requires (omega (arith, c.len-cpus.ensures, c.loop-cpu-test.true));
  number = omega (arith, c.programs_of-programs.ensures, c.loop-number-test.true);
}

pub note_interrupted-requires : goal.note_interrupted-requires
note_interrupted-requires c = record {
  lawful = c.requires;
  programs = has_programs c.args.setup.now c.loop-cpu.cpu c.requires (omega (arith, c.len-cpus.ensures, c.loop-cpu-test.true));
  number = omega (arith, c.programs_of-programs.ensures, c.loop-number-test.true);
}
