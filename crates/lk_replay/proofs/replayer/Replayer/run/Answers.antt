use Rattle.std.proofs.Common.{sym, subst}
use Rattle.lk_replay.specs.Outcome.{as_replay}
use Rattle.lk_replay.specs.Stands.{Stands}
use Rattle.lk_replay.proofs.Complete.{complete, exact, run_complete, run_exact}
use Rattle.lk_replay.proofs.replayer.Replayer.run.Goals as goal

pub returns-clause-outcome : goal.returns-clause-outcome
returns-clause-outcome g c = λ input held stands.
    let here = subst (λ r. Stands input held r (g.S.Source.left c.args.source.now) (g.K.Sink.held c.args.sink.now)) (sym c.self.view_is) stands in
    c.finish.ensures.outcome input held here

pub returns-clause-complete : goal.returns-clause-complete
returns-clause-complete g c = λ input held bytes setup acts stands known is no_read no_write.
    let here = subst (λ r. Stands input held r (g.S.Source.left c.args.source.now) (g.K.Sink.held c.args.sink.now)) (sym c.self.view_is) stands in
    run_complete c.finish.result
    (complete _ _ bytes known no_read no_write setup acts (as_replay c.finish.result) is (c.finish.ensures.outcome input held here))

pub returns-clause-exact : goal.returns-clause-exact
returns-clause-exact g c = λ input held bytes line why setup acts stands known is no_read no_write.
    let here = subst (λ r. Stands input held r (g.S.Source.left c.args.source.now) (g.K.Sink.held c.args.sink.now)) (sym c.self.view_is) stands in
    run_exact line why c.finish.result
    (exact _ _ bytes known no_read no_write line why setup acts (as_replay c.finish.result) is (c.finish.ensures.outcome input held here))
