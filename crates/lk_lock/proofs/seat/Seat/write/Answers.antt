use Rattle.lk_lock.proofs.AwakeSteps.{awake_rw}
use Rattle.lk_lock.proofs.seat.Seat.write.Goals as goal

pub turn_at-requires-clause-awake : goal.turn_at-requires-clause-awake
turn_at-requires-clause-awake g c =
    awake_rw c.args.self.now.domain.now c.args.rw.now.id.index
    (record { low = c.requires.lock.low; kind_is = c.requires.lock.kind_is })
