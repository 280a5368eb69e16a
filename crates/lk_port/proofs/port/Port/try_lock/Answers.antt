use Rattle.lk_port.proofs.Names.{Spin, Busy, Done}
use Rattle.lk_port.proofs.Ports as port
use Rattle.lk_port.proofs.port.Port.try_lock.Goals as goal

pub returns-in-Some-clause-taken : goal.returns-in-Some-clause-taken
returns-in-Some-clause-taken c is =
    absurd (port.refused c.args.self.now Spin c.args.lock.index c.in-Some.answer Done is (c.refuses.ensures.why c.in-Some.answer c.in-Some.is))

pub returns-in-Some-clause-missed : goal.returns-in-Some-clause-missed
returns-in-Some-clause-missed c is =
    absurd (port.refused c.args.self.now Spin c.args.lock.index c.in-Some.answer Busy is (c.refuses.ensures.why c.in-Some.answer c.in-Some.is))
