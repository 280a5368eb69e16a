-- The clauses one after another, as the code asks them, are the table.
use Rattle.lk_abs.specs.Breaches.{beside, not_holder, twice, wrong_head, wrong_move, wrong_next, over_threshold}
use Rattle.lk_abs.proofs.Clauses.{or_chain}
use Rattle.lk_abs.proofs.lock_record.LockRecord.first_breach.Goals as goal

pub returns : goal.returns
returns c =
    let rules = c.args.rules.now in
    let h = c.args.self.now.history in
    let w = c.args.by in
    let what = c.args.what in
    rw (c.or-6.ensures, c.or-5.ensures, c.or-4.ensures, c.or-3.ensures, c.or-2.ensures, c.or.ensures, c.beside.ensures, c.not_holder.ensures, c.twice.ensures, c.wrong_head.ensures, c.wrong_move.ensures, c.wrong_next.ensures, c.over_threshold.ensures) (or_chain (beside h w what) (not_holder h w what) (twice h w what) (wrong_head h w what) (wrong_move rules h what) (wrong_next h what) (over_threshold rules h w what))
