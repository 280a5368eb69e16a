use Rattle.lk_run.proofs.Names.{C1, G10, Fronts}
use Rattle.lk_domain.specs.Rows.{stakes_by}
use Rattle.lk_run.proofs.Rows as row
use Rattle.lk_run.proofs.Calling as on
use Rattle.lk_run.proofs.call.Front.take_head.Goals as goal

pub set_locked-requires-clause-row : goal.set_locked-requires-clause-row
set_locked-requires-clause-row c = on.acts_in c.requires (stakes_by c.args.self.now.call.verb) (on.patient c.requires)

pub returns-clause-goes : goal.returns-clause-goes
returns-clause-goes c plainly =
    let q = c.args.self.now in
    let made = c.set_locked.ensures.step.by in
    on.word_steps c.requires c.set_locked.ensures.rest made G10 (Fronts q.own q.second) (λ e. cc e)
    (λ f has. row.head_takes _ _ f made.found q.own q.second has plainly)

pub returns-clause-chooses : goal.returns-clause-chooses
returns-clause-chooses c aside =
    let q = c.args.self.now in
    let made = c.set_locked.ensures.step.by in
    on.word_steps c.requires c.set_locked.ensures.rest made C1 (Fronts q.own q.second) (λ e. cc e)
    (λ f has. row.head_chooses _ _ f made.found q.own q.second has aside)
