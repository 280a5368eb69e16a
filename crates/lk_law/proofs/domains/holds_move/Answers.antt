use Rattle.lk_law.proofs.running.Holds.{holder_is_one, hold_moves}
use Rattle.lk_law.proofs.running.SharedHolds.{share_moves}
use Rattle.lk_law.proofs.domains.holds_move.Goals as goal

pub returns-clause-one : goal.returns-clause-one
returns-clause-one c = holder_is_one

pub returns-clause-moves : goal.returns-clause-moves
returns-clause-moves c = hold_moves

pub returns-clause-shares : goal.returns-clause-shares
returns-clause-shares c = share_moves
