use Rattle.lk_domain.proofs.turns.Noted.{upto_here, upto_below}
use Rattle.lk_domain.proofs.notes.Notes.+upto.Goals as goal

pub returns-then-self-depth-clause-upto : goal.returns-then-self-depth-clause-upto
returns-then-self-depth-clause-upto t c k rs ordered many =
    let a = c.args in
    upto_here a.self.now.order a.self.now.slow k rs a.lock a.depth ordered many c.if-depth-eq0.false c.if-self-depth.true

pub returns-clause-upto : goal.returns-clause-upto
returns-clause-upto t c k rs ordered many =
    let a = c.args in
    upto_below a.self.now.order a.self.now.slow k rs a.lock a.depth c.upto.result ordered many c.if-depth-eq0.false
    c.if-self-depth.false c.upto.ensures.upto
