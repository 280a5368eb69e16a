use Rattle.std.proofs.Common.{subst}
use Rattle.lk_lock.proofs.Names.{Manner, IsHolding}
use Rattle.lk_lock.proofs.turning.free_held.Goals as goal

pub free_now-requires-clause-holding : goal.free_now-requires-clause-holding
free_now-requires-clause-holding c = (
  c.requires.holding.0,
  subst (λ (m : Manner). IsHolding c.args.aim.lock.index m c.requires.holding.0 c.args.cpu.now) c.in-Spins.is c.requires.holding.1,
)

pub go_out-requires-clause-holding : goal.go_out-requires-clause-holding
go_out-requires-clause-holding c = (
  c.requires.holding.0,
  subst (λ (m : Manner). IsHolding c.args.aim.lock.index m c.requires.holding.0 c.args.cpu.now) c.in-Reads.is c.requires.holding.1,
)

pub leave-requires-clause-holding : goal.leave-requires-clause-holding
leave-requires-clause-holding c = (
  c.requires.holding.0,
  subst (λ (m : Manner). IsHolding c.args.aim.lock.index m c.requires.holding.0 c.args.cpu.now) c.in-Writes.is c.requires.holding.1,
)
