use Rattle.lk_reach.proofs.{Closed.Laws, Ending.{doomed_all, finishing}}
use Rattle.lk_reach.proofs.graph.Graph.doomed.Goals as goal

pub loop-made-init : goal.loop-made-init
loop-made-init c = finishing c.args.self.now c.in_ok-marks.marks.items c.in_ok-marks.ensures

pub returns-then-not-spread : goal.returns-then-not-spread
returns-then-not-spread c =
    let laws : Laws = record { runs = c.runs_keep.ensures.run; setup = c.acts_change_little.ensures.setup } in
    let marks = c.spread.new.marks.items in
    doomed_all laws c.args.self.now c.requires.graph c.requires.whole marks c.spread.ensures.good
    (c.spread.ensures.closed c.if-not-spread.true) c.turn.new.marks.items c.turn.ensures
