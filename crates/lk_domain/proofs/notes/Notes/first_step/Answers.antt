use Rattle.std.proofs.Common.{rules, sym, subst, not, false}
use Rattle.lk_domain.proofs.Names.{IsNoted, Notes}
use Rattle.lk_domain.proofs.turns.Noted.{first_ends, first_waits, taken_noted}
use Rattle.lk_domain.proofs.notes.Notes.first_step.Goals as goal

pub returns-then-taken : goal.returns-then-taken
returns-then-taken c many x y was lt fresh s =
    let a = c.args in
    subst (λ (n : Notes). IsNoted n many y) (sym c.mark.ensures)
    (taken_noted a.self.now many x y a.lock (not a.taken) false a.taken was s lt (first_ends a.taken (search rules)) fresh (search rules))

pub returns-else-taken : goal.returns-else-taken
returns-else-taken c many x y was lt fresh s =
    c.step_waiting.ensures many x y was lt (first_waits x y c.args.lock c.args.taken (search rules) s)
