use Rattle.lk_waits.proofs.{AsideFollowed.row_keeps_aside, Attended.row_keeps_attended}
use Rattle.lk_waits.proofs.{Followed.row_keeps_followed, HaltEnds.ends_keep_served}
use Rattle.lk_waits.proofs.HeadServed.{row_keeps_served}
use Rattle.lk_waits.proofs.laws.successors_come.Goals as goal

pub returns : goal.returns
returns c = record { rows = row_keeps_followed; aside = row_keeps_aside; halting = row_keeps_served; halt_ends = ends_keep_served; attended = row_keeps_attended }
