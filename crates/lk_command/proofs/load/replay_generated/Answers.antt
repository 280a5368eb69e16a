use Rattle.std.proofs.Common.{◌∙◌, refl}
use Rattle.lk_text.specs.SureSource.{bytes_left}
use Rattle.lk_gen.specs.Generated.{generated_setup, generated_acts}
use Rattle.lk_command.proofs.Loaded.{quiet, good, acts_made, counted}
use Rattle.lk_command.proofs.load.replay_generated.Goals as goal

pub returns-in-Ok-clause-acts : goal.returns-in-Ok-clause-acts
returns-in-Ok-clause-acts c =
    let text = c.in_ok-source.ensures.left ∙ c.bytes.ensures.held ∙ c.in_ok-text.ensures in
    let replayed = c.in-Ok.ensures.outcome in
    replayed.acts_made ∙ acts_made c.args.start (bytes_left c.in_ok-source.source) text replayed.setup replayed.acts replayed.good

pub returns-in-Ok-clause-counts : goal.returns-in-Ok-clause-counts
returns-in-Ok-clause-counts c =
    let text = c.in_ok-source.ensures.left ∙ c.bytes.ensures.held ∙ c.in_ok-text.ensures in
    let replayed = c.in-Ok.ensures.outcome in
    replayed.counts ∙ counted c.args.start (bytes_left c.in_ok-source.source) text replayed.setup replayed.acts replayed.good

pub want_of_memory-requires : goal.want_of_memory-requires
want_of_memory-requires c =
    let text = c.in_ok-source.ensures.left ∙ c.bytes.ensures.held ∙ c.in_ok-text.ensures in
    let start = c.args.start in
    c.in-Err.ensures.complete (bytes_left c.in_ok-source.source) (generated_setup start) (generated_acts start) refl
    (good start (bytes_left c.in_ok-source.source) text) quiet quiet
