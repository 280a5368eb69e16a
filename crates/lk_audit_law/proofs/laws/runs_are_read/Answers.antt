use Rattle.lk_audit_law.proofs.Runs.{runs_are_read}
use Rattle.lk_audit_law.proofs.laws.runs_are_read.Goals as goal

pub returns : goal.returns
returns c = record { read = runs_are_read c.acts_keep.ensures.keep c.rest_shows.ensures.rest c.runs_keep.ensures.run c.acts_change_little.ensures.setup }
