use Rattle.std.proofs.Common.{sym}
use Rattle.lk_domain.proofs.turns.Noted.{slow_none, slow_there}
use Rattle.lk_domain.proofs.notes.Notes.is_slow.Goals as goal

pub returns-then-upto-ne0 : goal.returns-then-upto-ne0
returns-then-upto-ne0 c many x was =
    let n = c.args.self.now in
    slow_there n.order n.slow many x.frames c.args.lock c.upto-upto.result
    (c.upto-upto.ensures.upto many x.frames was.ordered (sym was.deep)) c.if-upto-ne0.true was.ordered

pub returns-else-upto-ne0 : goal.returns-else-upto-ne0
returns-else-upto-ne0 c many x was =
    let n = c.args.self.now in
    slow_none n.order n.slow many x.frames c.args.lock c.upto-upto.result
    (c.upto-upto.ensures.upto many x.frames was.ordered (sym was.deep)) c.if-upto-ne0.false was.ordered
