use Rattle.std.proofs.Common.{ℕ, ◌≤◌, arith, below_more}
use Rattle.lk_rows.specs.Programs.{handlers_of}
use Rattle.lk_order.specs.Checked.{rank_in, IsInOrder}
use Rattle.lk_order.proofs.Inside.{has_programs, ordered}
use Rattle.lk_order.proofs.check.check_ranks.Goals as goal

pub processor_is_ordered-requires : goal.processor_is_ordered-requires
processor_is_ordered-requires c = record {
  lawful = c.requires;
  programs = has_programs c.args.setup.now c.loop-cpu.cpu c.requires (omega (arith, c.len-cpus.ensures, c.loop-cpu-test.true));
}

pub loop-cpu-preserved : goal.loop-cpu-preserved
loop-cpu-preserved c =
    below_more (λ p. (h : ℕ) → h ≤ handlers_of c.args.setup.now p → IsInOrder (rank_in c.args.ranks.now) c.args.setup.now p h) c.loop-cpu.cpu
    c.loop-cpu.invariant (c.processor_is_ordered.ensures c.if-not-processor_is_ordered.false)

pub returns : goal.returns
returns c made =
    ordered (rank_in c.args.ranks.now) 32 c.args.setup.now c.requires (c.are_bounded.ensures c.if-not-are_bounded.false)
    (λ p less. c.loop-cpu.invariant p (omega (arith, less, c.len-cpus.ensures, c.loop-cpu-test.false)))
