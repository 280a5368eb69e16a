use Rattle.lk_port.proofs.Names.{Rw, Done}
use Rattle.lk_port.specs.declared.answer.Answer.TheVariants.{WrongManner}
use Rattle.lk_port.proofs.Ports as port
use Rattle.lk_port.proofs.port.Port.write_unlock.Goals as goal

pub returns-in-Some-clause-left : goal.returns-in-Some-clause-left
returns-in-Some-clause-left c is =
    absurd (port.refused c.args.self.now Rw c.args.lock.index c.in-Some.answer Done is (c.refuses.ensures.why c.in-Some.answer c.in-Some.is))

pub returns-in-Some-clause-manner : goal.returns-in-Some-clause-manner
returns-in-Some-clause-manner c is =
    absurd (port.refused c.args.self.now Rw c.args.lock.index c.in-Some.answer WrongManner is (c.refuses.ensures.why c.in-Some.answer c.in-Some.is))
