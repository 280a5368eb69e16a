use Rattle.lk_port.proofs.Names.{Spin, Done}
use Rattle.lk_port.specs.declared.answer.Answer.TheVariants.{Halts, Waits}
use Rattle.lk_port.proofs.Ports as port
use Rattle.lk_port.proofs.port.Port.begin.Goals as goal

pub returns-in-Some-clause-taken : goal.returns-in-Some-clause-taken
returns-in-Some-clause-taken c is =
    absurd (port.refused c.args.self.now Spin c.args.lock.index c.in-Some.answer Done is (c.refuses.ensures.why c.in-Some.answer c.in-Some.is))

pub returns-in-Some-clause-halts : goal.returns-in-Some-clause-halts
returns-in-Some-clause-halts c is =
    absurd (port.refused c.args.self.now Spin c.args.lock.index c.in-Some.answer Halts is (c.refuses.ensures.why c.in-Some.answer c.in-Some.is))

pub returns-in-Some-clause-waits : goal.returns-in-Some-clause-waits
returns-in-Some-clause-waits c is =
    absurd (port.refused c.args.self.now Spin c.args.lock.index c.in-Some.answer Waits is (c.refuses.ensures.why c.in-Some.answer c.in-Some.is))
