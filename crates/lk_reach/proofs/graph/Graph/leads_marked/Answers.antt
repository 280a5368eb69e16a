use Rattle.lk_reach.proofs.graph.Graph.leads_marked.Goals as goal

pub returns-in-None-clause-no : goal.returns-in-None-clause-no
returns-in-None-clause-no c = λ no j leads. absurd (c.in-None.ensures.none j leads)
