use Rattle.lk_law.proofs.pv.SharedRowsKeep.{enter_keeps, exchange_tail_keeps, link_keeps}
use Rattle.lk_law.proofs.queue.ArriveRowsKeep.{wait_keeps}
use Rattle.lk_law.proofs.queue.EntryRowsKeep.{look_again_keeps, swap_again_keeps, look_bare_keeps}
use Rattle.lk_law.proofs.queue.EntryRowsKeep.{swap_bare_keeps}
use Rattle.lk_law.proofs.queue.FrontRowsKeep.{wait_as_front_keeps, take_sole_keeps, take_head_keeps}
use Rattle.lk_law.proofs.queue.FrontRowsKeep.{wait_for_next_keeps, hand_on_keeps}
use Rattle.lk_law.proofs.laws.queue_rows_keep.Goals as goal

pub returns-clause-enter : goal.returns-clause-enter
returns-clause-enter c = enter_keeps

pub returns-clause-look_again : goal.returns-clause-look_again
returns-clause-look_again c = look_again_keeps

pub returns-clause-swap_again : goal.returns-clause-swap_again
returns-clause-swap_again c = swap_again_keeps

pub returns-clause-exchange_tail : goal.returns-clause-exchange_tail
returns-clause-exchange_tail c = exchange_tail_keeps

pub returns-clause-link : goal.returns-clause-link
returns-clause-link c = link_keeps

pub returns-clause-wait : goal.returns-clause-wait
returns-clause-wait c = wait_keeps

pub returns-clause-wait_as_front : goal.returns-clause-wait_as_front
returns-clause-wait_as_front c = wait_as_front_keeps

pub returns-clause-take_sole : goal.returns-clause-take_sole
returns-clause-take_sole c = take_sole_keeps

pub returns-clause-take_head : goal.returns-clause-take_head
returns-clause-take_head c = take_head_keeps

pub returns-clause-wait_for_next : goal.returns-clause-wait_for_next
returns-clause-wait_for_next c = wait_for_next_keeps

pub returns-clause-hand_on : goal.returns-clause-hand_on
returns-clause-hand_on c = hand_on_keeps

pub returns-clause-look_bare : goal.returns-clause-look_bare
returns-clause-look_bare c = look_bare_keeps

pub returns-clause-swap_bare : goal.returns-clause-swap_bare
returns-clause-swap_bare c = swap_bare_keeps
