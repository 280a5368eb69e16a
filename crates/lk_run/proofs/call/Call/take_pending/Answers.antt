use Rattle.std.proofs.Common.{refl}
use Rattle.lk_domain.specs.Rows.{claims_by}
use Rattle.lk_run.proofs.Rows as row
use Rattle.lk_run.proofs.Calling as on
use Rattle.lk_run.proofs.call.Call.take_pending.Goals as goal

pub pending_to_locked-requires-clause-row : goal.pending_to_locked-requires-clause-row
pending_to_locked-requires-clause-row c = on.acts_in c.requires (claims_by c.args.self.now.verb) (on.patient c.requires)

pub returns : goal.returns
returns c =
    let made = c.pending_to_locked.ensures.step.by in
    on.word_takes c.requires c.pending_to_locked.ensures.rest made refl (λ f has. row.pending_takes _ _ f made.found)
