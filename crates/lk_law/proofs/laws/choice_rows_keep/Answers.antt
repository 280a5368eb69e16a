use Rattle.lk_law.proofs.cna.EndRowsKeep.{choice_hand_on_keeps, choice_flush_keeps}
use Rattle.lk_law.proofs.cna.EndRowsKeep.{choice_promote_keeps}
use Rattle.lk_law.proofs.cna.RowsKeep.{choice_look_keeps, choice_pass_over_keeps}
use Rattle.lk_law.proofs.cna.RowsKeep.{choice_find_tail_keeps}
use Rattle.lk_law.proofs.cna.StoreRowsKeep.{choice_append_keeps, choice_cut_keeps}
use Rattle.lk_law.proofs.cna.StoreRowsKeep.{choice_set_tail_keeps, choice_count_keeps}
use Rattle.lk_law.proofs.laws.choice_rows_keep.Goals as goal

pub returns-clause-look : goal.returns-clause-look
returns-clause-look c = choice_look_keeps

pub returns-clause-pass_over : goal.returns-clause-pass_over
returns-clause-pass_over c = choice_pass_over_keeps

pub returns-clause-find_tail : goal.returns-clause-find_tail
returns-clause-find_tail c = choice_find_tail_keeps

pub returns-clause-append : goal.returns-clause-append
returns-clause-append c = choice_append_keeps

pub returns-clause-cut : goal.returns-clause-cut
returns-clause-cut c = choice_cut_keeps

pub returns-clause-set_tail : goal.returns-clause-set_tail
returns-clause-set_tail c = choice_set_tail_keeps

pub returns-clause-count : goal.returns-clause-count
returns-clause-count c = choice_count_keeps

pub returns-clause-hand_on : goal.returns-clause-hand_on
returns-clause-hand_on c = choice_hand_on_keeps

pub returns-clause-flush : goal.returns-clause-flush
returns-clause-flush c = choice_flush_keeps

pub returns-clause-promote : goal.returns-clause-promote
returns-clause-promote c = choice_promote_keeps
