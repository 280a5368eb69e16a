use Rattle.lk_audit_law.proofs.Accepted.{transcripts_are_accepted}
use Rattle.lk_audit_law.proofs.laws.transcripts_are_accepted.Goals as goal

pub returns : goal.returns
returns c =
    record {
      accepted = transcripts_are_accepted c.acts_keep.ensures.keep c.rest_shows.ensures.rest c.runs_keep.ensures.run
          c.acts_change_little.ensures.setup c.acts_change_little.ensures.counts c.lines_say_lawful_setups.ensures.lawful
          c.lines_say_lawful_setups.ensures.acts;
    }
