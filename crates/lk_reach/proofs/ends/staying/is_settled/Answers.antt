use Rattle.lk_reach.proofs.ends.staying.is_settled.Goals as goal

pub returns-else-is_marked : goal.returns-else-is_marked
returns-else-is_marked c = λ yes off. c.stays.ensures yes
