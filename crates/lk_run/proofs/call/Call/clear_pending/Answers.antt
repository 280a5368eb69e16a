use Rattle.lk_run.proofs.Names.{G1, Any}
use Rattle.lk_domain.specs.Rows.{clears_by}
use Rattle.lk_run.proofs.Rows as row
use Rattle.lk_run.proofs.Calling as on
use Rattle.lk_run.proofs.call.Call.clear_pending.Goals as goal

pub clear_pending-requires-clause-row : goal.clear_pending-requires-clause-row
clear_pending-requires-clause-row c = on.acts_in c.requires (clears_by c.args.self.now.verb) (on.patient c.requires)

pub returns : goal.returns
returns c =
    let made = c.clear_pending.ensures.step.by in
    on.word_steps c.requires c.clear_pending.ensures.rest made G1 Any (λ e. cc e) (λ f has. row.clears _ _ f made.found)
