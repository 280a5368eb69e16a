use Rattle.lk_reach.proofs.graph.Graph.make_others.Goals as goal

pub returns-else-makes_new : goal.returns-else-makes_new
returns-else-makes_new c = λ yes s t here there cpus many one other.
    c.makes_new-else-makes_new.ensures yes s t here there cpus many one
