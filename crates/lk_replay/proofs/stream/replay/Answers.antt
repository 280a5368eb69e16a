use Rattle.std.proofs.Common.{◌≡◌, ◌∙◌, Ok, Err, sym}
use Rattle.lk_stream.specs.declared.answers.ReplayFault.TheVariants.{Memory}
use Rattle.lk_replay.specs.Outcome.{as_replay}
use Rattle.lk_replay.proofs.Complete.{complete, exact, follows_open, needs_none}
use Rattle.lk_replay.proofs.stream.replay.Goals as goal

pub returns-in-Ok-clause-outcome : goal.returns-in-Ok-clause-outcome
returns-in-Ok-clause-outcome g c =
    let held = g.K.Sink.held c.args.sink.now in
    follows_open _ _ held _ _ _ _ _ _ (Ok c.in-Ok.summary) c.open.ensures.later (c.in-Ok.ensures.outcome _ held (c.in_ok-replayer.ensures.stands held))

pub returns-in-Ok-clause-exact : goal.returns-in-Ok-clause-exact
returns-in-Ok-clause-exact g c = λ bytes line why setup acts known is no_read no_write.
    let held = g.K.Sink.held c.args.sink.now in
    let outcome = follows_open _ _ held _ _ _ _ _ _ (Ok c.in-Ok.summary) c.open.ensures.later (c.in-Ok.ensures.outcome _ held (c.in_ok-replayer.ensures.stands held)) in
    exact _ _ bytes known no_read no_write line why setup acts (Ok c.in-Ok.summary) is outcome

pub returns-in-Err-clause-outcome : goal.returns-in-Err-clause-outcome
returns-in-Err-clause-outcome g c =
    let held = g.K.Sink.held c.args.sink.now in
    rw c.from.ensures (follows_open _ _ held _ _ _ _ _ _ (Err c.in-Err.fault) c.open.ensures.later (c.in-Err.ensures.outcome _ held (c.in_ok-replayer.ensures.stands held)))

pub returns-in-Err-clause-complete : goal.returns-in-Err-clause-complete
returns-in-Err-clause-complete g c = λ bytes setup acts known is no_read no_write.
    let held = g.K.Sink.held c.args.sink.now in
    let outcome = follows_open _ _ held _ _ _ _ _ _ (Err c.in-Err.fault) c.open.ensures.later (c.in-Err.ensures.outcome _ held (c.in_ok-replayer.ensures.stands held)) in
    rw c.from.ensures (complete _ _ bytes known no_read no_write setup acts (as_replay (Err c.in-Err.fault)) is outcome)

pub returns-in-Err-clause-exact : goal.returns-in-Err-clause-exact
returns-in-Err-clause-exact g c = λ bytes line why setup acts known is no_read no_write.
    let held = g.K.Sink.held c.args.sink.now in
    let outcome = follows_open _ _ held _ _ _ _ _ _ (Err c.in-Err.fault) c.open.ensures.later (c.in-Err.ensures.outcome _ held (c.in_ok-replayer.ensures.stands held)) in
    rw c.from.ensures (exact _ _ bytes known no_read no_write line why setup acts (as_replay (Err c.in-Err.fault)) is outcome)

pub returns-in-Err-clause-untouched : goal.returns-in-Err-clause-untouched
returns-in-Err-clause-untouched g c = λ memory.
    let same : c.from.result ≡ Memory = cc in
    absurd (needs_none c.in-Err.fault (sym c.from.ensures ∙ same))
