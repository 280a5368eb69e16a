use Rattle.std.proofs.Common.{rules, ◌≡◌, ◌||◌, true, false, sym, ◌∙◌, subst}
use Rattle.lk_domain.proofs.Names.{IsNoted, Notes}
use Rattle.lk_domain.proofs.turns.Noted.{goes_on, left, right, taken_noted, untaken_noted}
use Rattle.lk_domain.proofs.notes.Notes.step.Goals as goal

pub returns-then-not-taken : goal.returns-then-not-taken
returns-then-not-taken c many x y was lt s =
    let a = c.args in
    let on : c.waits-waited.result ≡ true = search rules in
    let same : c.is_slow.result ≡ a.after.slow = search rules in
    goes_on a.self.now many x y a.lock a.after.waits a.after.slow a.after.taken was s (search rules)
    (sym (c.waits-waited.ensures many x was) ∙ on) (sym (c.is_slow.ensures many x was) ∙ same) (search rules)

pub returns-then-taken : goal.returns-then-taken
returns-then-taken c many x y was lt s =
    let a = c.args in
    let none : (a.after.waits || c.waits-waited.result) ≡ false = search rules in
    subst (λ (n : Notes). IsNoted n many y) (sym c.mark.ensures)
    (taken_noted a.self.now many x y a.lock a.after.waits a.after.slow a.after.taken was s lt (left a.after.waits c.waits-waited.result none)
    (sym (c.waits-waited.ensures many x was) ∙ right a.after.waits c.waits-waited.result none) (search rules))

pub returns-else-taken : goal.returns-else-taken
returns-else-taken c many x y was lt s =
    let a = c.args in
    let none : (a.after.waits || c.waits-waited.result) ≡ false = search rules in
    untaken_noted a.self.now many x y a.lock a.after.waits a.after.slow a.after.taken was s lt (left a.after.waits c.waits-waited.result none)
    (sym (c.waits-waited.ensures many x was) ∙ right a.after.waits c.waits-waited.result none) (search rules)
