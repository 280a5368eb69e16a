use Rattle.lk_port.proofs.Names.{Rw, Done}
use Rattle.lk_port.proofs.Ports as port
use Rattle.lk_port.proofs.port.Port.begin_write.Goals as goal

pub returns-in-Some-clause-entered : goal.returns-in-Some-clause-entered
returns-in-Some-clause-entered c is =
    absurd (port.refused c.args.self.now Rw c.args.lock.index c.in-Some.answer Done is (c.refuses.ensures.why c.in-Some.answer c.in-Some.is))
