use Rattle.lk_law.proofs.cna.Knows.{choice_is_used, skipped_is_queued, queue_is_distinct}
use Rattle.lk_law.proofs.common.Knows.{halting_next_is_used, named_front_is_used, entry_is_used}
use Rattle.lk_law.proofs.{common.Knows.{tail_is_used, next_is_used}, common.Users.node_is_ones}
use Rattle.lk_law.proofs.laws.nodes_are_used.Goals as goal

pub returns-clause-tail : goal.returns-clause-tail
returns-clause-tail c = tail_is_used

pub returns-clause-next : goal.returns-clause-next
returns-clause-next c = next_is_used

pub returns-clause-once : goal.returns-clause-once
returns-clause-once c = node_is_ones

pub returns-clause-choice : goal.returns-clause-choice
returns-clause-choice c = choice_is_used

pub returns-clause-skipped : goal.returns-clause-skipped
returns-clause-skipped c = skipped_is_queued

pub returns-clause-distinct : goal.returns-clause-distinct
returns-clause-distinct c = queue_is_distinct

pub returns-clause-halting_next : goal.returns-clause-halting_next
returns-clause-halting_next c = halting_next_is_used

pub returns-clause-named_front : goal.returns-clause-named_front
returns-clause-named_front c = named_front_is_used

pub returns-clause-entry : goal.returns-clause-entry
returns-clause-entry c = entry_is_used
