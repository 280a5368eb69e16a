use Rattle.lk_law.proofs.pv.SharedRowsKeep.{fast_keeps, try_look_keeps, try_swap_keeps}
use Rattle.lk_law.proofs.spin.PendingRowsKeep.{set_pending_keeps, clear_pending_keeps, watch_keeps}
use Rattle.lk_law.proofs.spin.PendingRowsKeep.{take_pending_keeps}
use Rattle.lk_law.proofs.spin.RowsKeep.{release_keeps, loop_look_keeps, loop_swap_keeps}
use Rattle.lk_law.proofs.spin.RowsKeep.{pending_look_again_keeps}
use Rattle.lk_law.proofs.laws.spin_rows_keep.Goals as goal

pub returns-clause-fast : goal.returns-clause-fast
returns-clause-fast c = fast_keeps

pub returns-clause-try_look : goal.returns-clause-try_look
returns-clause-try_look c = try_look_keeps

pub returns-clause-try_swap : goal.returns-clause-try_swap
returns-clause-try_swap c = try_swap_keeps

pub returns-clause-release : goal.returns-clause-release
returns-clause-release c = release_keeps

pub returns-clause-loop_look : goal.returns-clause-loop_look
returns-clause-loop_look c = loop_look_keeps

pub returns-clause-loop_swap : goal.returns-clause-loop_swap
returns-clause-loop_swap c = loop_swap_keeps

pub returns-clause-look_again : goal.returns-clause-look_again
returns-clause-look_again c = pending_look_again_keeps

pub returns-clause-set_pending : goal.returns-clause-set_pending
returns-clause-set_pending c = set_pending_keeps

pub returns-clause-clear_pending : goal.returns-clause-clear_pending
returns-clause-clear_pending c = clear_pending_keeps

pub returns-clause-watch : goal.returns-clause-watch
returns-clause-watch c = watch_keeps

pub returns-clause-take_pending : goal.returns-clause-take_pending
returns-clause-take_pending c = take_pending_keeps
