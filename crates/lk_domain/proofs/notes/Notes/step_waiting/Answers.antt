use Rattle.std.proofs.Common.{true, refl, sym, subst, arith, ◌-◌}
use Rattle.lk_domain.proofs.Names.{IsNoted, far_with, near_with, Notes}
use Rattle.lk_domain.proofs.turns.Noted as noted
use Rattle.lk_domain.proofs.notes.Notes.step_waiting.Goals as goal

pub overflow_sub-self : goal.overflow_sub-self
overflow_sub-self c =
    let a = c.args in
    let t = c.requires.steps in
    noted.queued_ok a.self.now t.0 t.1 t.2 a.lock a.after.waits a.after.slow a.after.taken t.3 t.5 t.4 c.from-2.result
    c.is_slow-slowly.result (c.is_slow-slowly.ensures t.0 t.1 t.3) c.from-2.ensures

pub overflow_add-self : goal.overflow_add-self
overflow_add-self c =
    let a = c.args in
    let t = c.requires.steps in
    noted.queued_fits a.self.now t.0 t.1 t.2 a.lock a.after.waits a.after.slow a.after.taken t.3 t.5 t.4 c.from-2.result c.from-3.result
    c.is_slow-slowly.result (c.is_slow-slowly.ensures t.0 t.1 t.3) c.from-2.ensures c.from-3.ensures

pub bounds-self-others : goal.bounds-self-others
bounds-self-others c =
    let a = c.args in
    let t = c.requires.steps in
    let few = noted.others_low a.self.now t.0 t.1 t.2 a.lock a.after.waits a.after.slow a.after.taken t.3 t.5 t.4 in
    let is = noted.others_are a.self.now t.0 t.1 t.2 a.lock a.after.waits a.after.slow a.after.taken t.3 t.5 t.4
    (a.self.now.depth - c.from.result) c.from.result c.waits-waited.result (c.waits-waited.ensures t.0 t.1 t.3) c.from.ensures refl in
    omega (arith, few, is)

pub bounds-self-others-2 : goal.bounds-self-others-2
bounds-self-others-2 c =
    let a = c.args in
    let t = c.requires.steps in
    let few = noted.others_low a.self.now t.0 t.1 t.2 a.lock a.after.waits a.after.slow a.after.taken t.3 t.5 t.4 in
    let is = noted.others_are a.self.now t.0 t.1 t.2 a.lock a.after.waits a.after.slow a.after.taken t.3 t.5 t.4
    (a.self.now.depth - c.from.result) c.from.result c.waits-waited.result (c.waits-waited.ensures t.0 t.1 t.3) c.from.ensures refl in
    omega (arith, few, is)

pub returns-then-taken : goal.returns-then-taken
returns-then-taken c many x y was lt s =
    let a = c.args in
    subst (λ (n : Notes). IsNoted n many y) (sym c.mark.ensures)
    (noted.noted a.self.now many x y a.lock a.after.waits a.after.slow a.after.taken was s lt
    (a.self.now.depth - c.from.result) c.from.result c.from-4.result c.from-2.result c.from-3.result
    c.waits-waited.result c.is_slow-slowly.result
    (near_with a.self.now.near a.lock true) (record a.self.now.far { items = far_with a.self.now.far.items a.lock true })
    (noted.marked_taken a.self.now many x y a.lock a.after.waits a.after.slow a.after.taken was s lt c.if-taken.true)
    (c.waits-waited.ensures many x was) (c.is_slow-slowly.ensures many x was) c.from.ensures refl c.from-4.ensures c.from-2.ensures c.from-3.ensures)

pub returns-else-taken : goal.returns-else-taken
returns-else-taken c many x y was lt s =
    let a = c.args in
    noted.noted a.self.now many x y a.lock a.after.waits a.after.slow a.after.taken was s lt
    (a.self.now.depth - c.from.result) c.from.result c.from-4.result c.from-2.result c.from-3.result
    c.waits-waited.result c.is_slow-slowly.result a.self.now.near a.self.now.far
    (noted.marked_kept a.self.now many x y a.lock a.after.waits a.after.slow a.after.taken was s lt c.if-taken.false)
    (c.waits-waited.ensures many x was) (c.is_slow-slowly.ensures many x was) c.from.ensures refl c.from-4.ensures c.from-2.ensures c.from-3.ensures
