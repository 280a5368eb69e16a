use Rattle.lk_abs.proofs.Kicking.{told-wake, told-kick}
use Rattle.lk_abs.proofs.kick_record.KickRecord.step.Goals as goal

pub returns-in-Wake-clause-told : goal.returns-in-Wake-clause-told
returns-in-Wake-clause-told c =
    told-wake c.args.self.now c.args.event.now c.in-Wake.lock c.rouse.new.asleep c.get_mut-in-Wake.result.now c.in-Wake.is c.rouse.ensures.roused c.get_mut-in-Wake.ensures.value

pub returns-in-Kick-clause-told : goal.returns-in-Kick-clause-told
returns-in-Kick-clause-told c =
    told-kick c.args.self.now c.args.event.now c.in-Kick.cpu c.get_mut-in-Kick.result.now c.get_mut-in-Kick-2.result.now c.in-Kick.is c.get_mut-in-Kick.ensures.value c.get_mut-in-Kick-2.ensures.value
