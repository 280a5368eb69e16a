use Rattle.lk_reach.proofs.apart.Going.{going_ends}
use Rattle.lk_reach.proofs.graph.Graph.shown.Goals as goal

pub mark_shown-requires-clause-going : goal.mark_shown-requires-clause-going
mark_shown-requires-clause-going c = going_ends c.args.self.now c.in_ok-marks.marks.items c.in_ok-marks.ensures
