use Rattle.lk_law.proofs.cna.Named.{second_tail_is_used, behind_is_used, first_is_used}
use Rattle.lk_law.proofs.cna.Named.{chosen_waits_for_it}
use Rattle.lk_law.proofs.running.Links.{linked_is_used, passed_is_used}
use Rattle.lk_law.proofs.running.Nodes.{free_node_keeps, fresh_is_free, prev_is_used, link_is_used}
use Rattle.lk_law.proofs.running.Tells.{lead_goes_on}
use Rattle.lk_law.proofs.domains.nodes_are_free.Goals as goal

pub returns-clause-store : goal.returns-clause-store
returns-clause-store c = free_node_keeps

pub returns-clause-fresh : goal.returns-clause-fresh
returns-clause-fresh c = fresh_is_free

pub returns-clause-prev : goal.returns-clause-prev
returns-clause-prev c = prev_is_used

pub returns-clause-link : goal.returns-clause-link
returns-clause-link c = link_is_used

pub returns-clause-lead : goal.returns-clause-lead
returns-clause-lead c = lead_goes_on

pub returns-clause-second_tail : goal.returns-clause-second_tail
returns-clause-second_tail c = second_tail_is_used

pub returns-clause-behind : goal.returns-clause-behind
returns-clause-behind c = behind_is_used

pub returns-clause-first : goal.returns-clause-first
returns-clause-first c = first_is_used

pub returns-clause-chosen : goal.returns-clause-chosen
returns-clause-chosen c = chosen_waits_for_it

pub returns-clause-linked : goal.returns-clause-linked
returns-clause-linked c = linked_is_used

pub returns-clause-passed : goal.returns-clause-passed
returns-clause-passed c = passed_is_used
