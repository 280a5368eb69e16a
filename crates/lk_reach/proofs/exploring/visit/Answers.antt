use Rattle.lk_reach.proofs.apart.Remembered.{made_grown}
use Rattle.lk_reach.proofs.exploring.visit.Goals as goal

pub returns-in_ok-found-clause-made : goal.returns-in_ok-found-clause-made
returns-in_ok-found-clause-made g c =
    let h = c.requires.here in
    let z = c.args.crew.now.machine.setup in
    made_grown z c.args.space.now c.visit_folded.new.space
    (c.in_ok-found.ensures.noted h.state h.keeps h.reached).grows c.args.crew.now.steps.made.items c.requires.made
