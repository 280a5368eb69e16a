-- What a run has written that has come to its end.
use Rattle.std.proofs.Common.{true, false, [], None, Some, sym, subst}
use Rattle.lk_stream.specs.Outside.{Outside}
use Rattle.lk_stream.specs.Outcome.{Done}
use Rattle.lk_osq.specs.Run.{at_rest}
use Rattle.lk_osq.specs.History.{nothing_told, IsLawfulAfter}
use Rattle.lk_osq.specs.Handed.{AreHanded}
use Rattle.lk_osq.proofs.Joined.{runs_in_parts}
use Rattle.lk_osq.proofs.Runs.{runs_keep}
use Rattle.lk_osq_forms.specs.Grammar.{Said, Header, Schedule}
use Rattle.lk_osq_forms.specs.Trace.{osq_grammar}
use Rattle.lk_osq_replay.specs.Script.{StageShows, acts_of}
use Rattle.lk_osq_replay.specs.Outcome.{OsqDone}
use Rattle.lk_osq_replay.specs.declared.script.Stage.{Stage}
use Rattle.lk_osq_replay.specs.declared.script.Stage.TheVariants.{Reads, Runs}

pub finished : (old new : Outside) (stage : Stage) (said : Said) → StageShows stage said
    → Done osq_grammar old new said → OsqDone old new (acts_of stage)
finished old new stage (Header None rounds) shown d = (let e = d.ends in absurd (cc))
finished old new stage (Header (Some last) rounds) shown d = (let e = d.ends in absurd (cc))
finished old new stage (Schedule rounds acts false) shown d = (let e = d.ends in absurd (cc))
finished old new (Reads header) (Schedule rounds acts true) shown d = absurd (cc)
finished old new (Runs run) (Schedule rounds acts true) shown d =
    let kept = runs_keep rounds acts shown.0.range in
    let same = sym (runs_in_parts.events 1 (at_rest rounds) acts) in record {
      rounds = rounds;
      acts = acts;
      good = d.good;
      all_read = d.all_read;
      written = d.written;
      acts_made = shown.0.acts_made;
      lawful = subst (λ es. IsLawfulAfter es nothing_told) same kept.0;
      handed = subst (λ es. AreHanded [] es nothing_told) same kept.1;
    }
