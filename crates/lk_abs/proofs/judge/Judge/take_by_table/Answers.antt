-- The event is judged by what was said of its lock, and told on there alone.
use Rattle.std.proofs.Common.{◌≡◌, ℕ, Some, sym, subst}
use Rattle.std.specs.List.{slice_get}
use Rattle.lk_abs.specs.Judge.{JudgeState}
use Rattle.lk_abs.proofs.Judging.{AnswersAt, verdict-at, tells-at, stays-at}
use Rattle.lk_abs.proofs.judge.Judge.take_by_table.Goals as goal

pub returns-in-Some : goal.returns-in-Some
returns-in-Some c =
    let old : JudgeState = record { rules = c.self.inside.rules; locks = c.self.inside.locks.items; kicks = c.self.inside.kicks } in
    let given : AnswersAt old c.args.event.now c.in-Some.lock c.get_mut.result.now c.take.new.self c.take.result =
    record {
      on = sym c.in-Some.ensures;
      «at» = subst (λ (n : ℕ). slice_get c.self.inside.locks.items n ≡ Some c.get_mut.result.now) c.place.ensures c.get_mut.ensures.value;
      verdict = c.take.ensures.verdict;
      ok = c.take.ensures.ok;
      err = c.take.ensures.err;
    } in
    rw (← c.self.view_is, c.place.ensures)
    (record {
      verdict = verdict-at _ _ _ _ _ _ given;
      ok = tells-at _ _ _ _ _ _ given;
      err = stays-at _ _ _ _ _ _ given;
    })
