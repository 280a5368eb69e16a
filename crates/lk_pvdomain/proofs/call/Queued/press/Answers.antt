use Rattle.std.proofs.Common.{arith}
use Rattle.lk_pvdomain.proofs.call.Queued.press.Goals as goal

pub hand-requires : goal.hand-requires
hand-requires c = (c.requires.0, c.take_pending.ensures.takes c.in-Takes.is c.requires.0 c.requires.1)

pub returns-in-Takes : goal.returns-in-Takes
returns-in-Takes c s w = c.hand.ensures s (c.take_pending.ensures.takes c.in-Takes.is s w)

pub returns-in-Misses : goal.returns-in-Misses
returns-in-Misses c s w = c.take_pending.ensures.stays c.in-Misses.field-0 c.in-Misses.is s w

pub give_up-requires : goal.give_up-requires
give_up-requires c = (c.requires.0, c.take_pending.ensures.last c.in-Fails.field-0 c.in-Fails.is c.if-leading-le1.true c.requires.0 c.requires.1)

pub returns-then-leading-le1 : goal.returns-then-leading-le1
returns-then-leading-le1 c s w = c.give_up.ensures s (c.take_pending.ensures.last c.in-Fails.field-0 c.in-Fails.is c.if-leading-le1.true s w)

pub returns-else-leading-le1 : goal.returns-else-leading-le1
returns-else-leading-le1 c s w = c.take_pending.ensures.again c.in-Fails.field-0 c.in-Fails.is (omega (arith, c.if-leading-le1.false)) s w
