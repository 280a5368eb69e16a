-- The answer is what the event breaks, and so it is exact.
use Rattle.std.proofs.Common.{◌≡◌, Ok, Err, sym, ◌∙◌, subst, rules}
use Rattle.lk_abs.specs.Judge.{JudgeState, breach_of, TellsLocks, TakesOne}
use Rattle.lk_abs.proofs.Judging.{takes-both, verdict-after, answer-exact, has-taken}
use Rattle.lk_abs.proofs.judge.Judge.take.Goals as goal
use Rattle.lk_abs.proofs.judge.Judge.take.Goals.{After-unkicked}

takes : (c : After-unkicked) → TakesOne c.args.self.now (record { rules = c.self.inside.rules; locks = c.self.inside.locks.items; kicks = c.tell.new.self }) c.args.event.now
takes c =
    let mid : JudgeState = record { rules = c.self.inside.rules; locks = c.self.inside.locks.items; kicks = c.self.inside.kicks } in
    let told : TellsLocks c.args.self.now mid c.args.event.now = subst (λ (m : JudgeState). TellsLocks c.args.self.now m c.args.event.now) (sym c.self.view_is) c.in_ok-take_by_table.ensures.ok in
    takes-both c.args.self.now mid c.tell.new.self c.args.event.now told c.tell.ensures.state c.tell.ensures.told

verdict : (c : After-unkicked) → c.unkicked.result ≡ breach_of c.args.self.now c.args.event.now
verdict c = verdict-after c.args.self.now _ c.args.event.now c.unkicked.result c.in_ok-take_by_table.ensures.verdict (takes c) c.unkicked.ensures

pub returns-in_err-take_by_table-clause-exact : goal.returns-in_err-take_by_table-clause-exact
returns-in_err-take_by_table-clause-exact c =
    answer-exact c.args.self.now c.args.event.now c.from_residual.result c.requires (search rules)

pub returns-in-Some-clause-exact : goal.returns-in-Some-clause-exact
returns-in-Some-clause-exact c =
    answer-exact c.args.self.now c.args.event.now (Err c.in-Some.breach) c.requires (sym c.in-Some.is ∙ verdict (goal.at.returns-in-Some-clause-exact c).After-unkicked)

pub returns-in-None-clause-exact : goal.returns-in-None-clause-exact
returns-in-None-clause-exact c =
    answer-exact c.args.self.now c.args.event.now (Ok tt) c.requires (sym c.in-None.is ∙ verdict (goal.at.returns-in-None-clause-exact c).After-unkicked)

pub returns-in-None-clause-taken : goal.returns-in-None-clause-taken
returns-in-None-clause-taken c =
    let done = (goal.at.returns-in-None-clause-taken c).After-unkicked in
    has-taken c.args.self.now _ c.args.event.now c.requires (sym (verdict done) ∙ c.in-None.is) (takes done)
