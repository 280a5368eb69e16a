use Rattle.std.proofs.Common.{◌*◌, ap}
use Rattle.lk_abs.specs.declared.kick_record.KickRecord.{KickRecord}
use Rattle.lk_abs.proofs.Recording.{state_silent}
use Rattle.lk_abs.proofs.kick_record.KickRecord.new.Goals as goal

pub returns-clause-state : goal.returns-clause-state
returns-clause-state c =
    let made : KickRecord = record { asleep = c.in_ok-asleep.asleep; owing = c.in_ok-owing.owing; kicks = c.in_ok-kicks.kicks; kicked = c.in_ok-kicked.kicked; told = 0 } in
    state_silent made (c.args.processors * 6) c.args.processors (ap (λ l. l.items) c.in_ok-asleep.ensures) (ap (λ l. l.items) c.in_ok-owing.ensures) (ap (λ l. l.items) c.in_ok-kicks.ensures) (ap (λ l. l.items) c.in_ok-kicked.ensures)
