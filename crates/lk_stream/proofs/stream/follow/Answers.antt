use Rattle.lk_stream.proofs.Turns.{starts}
use Rattle.lk_stream.proofs.Answered.{if_ok-map, if_err-map}
use Rattle.lk_stream.proofs.stream.follow.Goals as goal

pub returns-in-Ok-clause-done : goal.returns-in-Ok-clause-done
returns-in-Ok-clause-done g c =
    let left = g.S.Source.left c.args.source.now in
    let held = g.K.Sink.held c.args.sink.now in
    let first =
    starts _ (g.G.Script.shows c.args.script) _ left held _ c.in_ok-new.ensures c.requires.shows c.requires.silent c.in_ok-new-2.ensures in
    let read = c.in-Ok.ensures in
    if_ok-map c.close.result _ _
    (λ script means. means _ _ _ _ _ _ (read.stops left held first)) c.close.ensures.done

pub returns-in-Ok-clause-fault : goal.returns-in-Ok-clause-fault
returns-in-Ok-clause-fault g c =
    let left = g.S.Source.left c.args.source.now in
    let held = g.K.Sink.held c.args.sink.now in
    let first =
    starts _ (g.G.Script.shows c.args.script) _ left held _ c.in_ok-new.ensures c.requires.shows c.requires.silent c.in_ok-new-2.ensures in
    let read = c.in-Ok.ensures in
    if_err-map c.close.result _ _
    (λ why means. means _ _ _ _ _ _
    (read.stops left held first) read.causes.writes_later) c.close.ensures.cut

pub returns-in-Err-clause-fault : goal.returns-in-Err-clause-fault
returns-in-Err-clause-fault g c =
    let left = g.S.Source.left c.args.source.now in
    let held = g.K.Sink.held c.args.sink.now in
    let first =
    starts _ (g.G.Script.shows c.args.script) _ left held _ c.in_ok-new.ensures c.requires.shows c.requires.silent c.in_ok-new-2.ensures in
    let read = c.in-Err.ensures in
    c.cut.ensures.means _ _ _ _ _ _
    (read.stops left held first) read.causes.rose read.causes.writes_later
