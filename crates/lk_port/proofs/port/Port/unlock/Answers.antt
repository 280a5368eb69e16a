use Rattle.lk_port.proofs.Names.{Spin, Done}
use Rattle.lk_port.specs.declared.answer.Answer.TheVariants.{Again}
use Rattle.lk_port.proofs.Ports as port
use Rattle.lk_port.proofs.port.Port.unlock.Goals as goal

pub returns-in-Some-clause-freed : goal.returns-in-Some-clause-freed
returns-in-Some-clause-freed c is =
    absurd (port.refused c.args.self.now Spin c.args.lock.index c.in-Some.answer Done is (c.refuses.ensures.why c.in-Some.answer c.in-Some.is))

pub returns-in-Some-clause-again : goal.returns-in-Some-clause-again
returns-in-Some-clause-again c is =
    absurd (port.refused c.args.self.now Spin c.args.lock.index c.in-Some.answer Again is (c.refuses.ensures.why c.in-Some.answer c.in-Some.is))
