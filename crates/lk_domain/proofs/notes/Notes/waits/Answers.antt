use Rattle.std.proofs.Common.{ℕ, eqb, sym, ap, ◌∙◌, not}
use Rattle.lk_domain.proofs.turns.Noted.{upto_waits}
use Rattle.lk_domain.proofs.notes.Notes.waits.Goals as goal

pub returns : goal.returns
returns c many x was =
    ap (λ (n : ℕ). not (eqb n 0)) (c.upto.ensures.upto many x.frames was.ordered (sym was.deep)) ∙ upto_waits x.frames c.args.lock
