use Rattle.lk_reach.proofs.ends.staying.is_edge.Goals as goal

pub returns-in-None : goal.returns-in-None
returns-in-None c = λ no j leads. absurd (c.in-None.ensures.none j leads)
