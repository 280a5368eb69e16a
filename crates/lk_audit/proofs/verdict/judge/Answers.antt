use Rattle.std.proofs.lemmas.Result.{err_from_is_err_and}
use Rattle.lk_forms.specs.Reader.{reading}
use Rattle.lk_audit_forms.specs.Grammar.{in_header}
use Rattle.lk_audit.proofs.Turns.{stands_first, stops_sooner}
use Rattle.lk_audit.proofs.Headers.{said_nothing, said_lawful}
use Rattle.lk_audit.proofs.Auditing.{shows_lawful}
use Rattle.lk_audit.proofs.verdict.judge.Goals as goal

pub new-requires-3 : goal.new-requires-3
new-requires-3 g c =
    let said = said_nothing (reading c.in_ok-header.header) c.in_ok-header.ensures in
    rw c.finish.ensures
    (said_lawful (reading c.read_header.new.header) (c.in_ok-read_header.ensures.said said))

pub returns-in_err-read_header-clause-stops : goal.returns-in_err-read_header-clause-stops
returns-in_err-read_header-clause-stops g c =
    let left = g.S.Source.left c.args.source.now in
    let header = reading c.in_ok-header.header in
    let first =
    stands_first c.in_ok-reader.reader header left c.in_ok-reader.ensures c.in_ok-header.ensures in
    let answer = c.from_residual-in_err-read_header in
    let p = err_from_is_err_and answer.result answer.ensures.1 in
    rw (p.1, p.2) (c.in_err-read_header.ensures.refused left first)

pub returns-in_err-read_on-clause-stops : goal.returns-in_err-read_on-clause-stops
returns-in_err-read_on-clause-stops g c =
    let left = g.S.Source.left c.args.source.now in
    let header = reading c.in_ok-header.header in
    let first =
    stands_first c.in_ok-reader.reader header left c.in_ok-reader.ensures c.in_ok-header.ensures in
    let read = c.in_ok-read_header.ensures in
    let whole = reading c.read_header.new.header in
    let shows = c.in_ok-auditor.ensures.shows whole read.gone c.finish.ensures in
    let answer = c.from_residual-in_err-read_on in
    let p = err_from_is_err_and answer.result answer.ensures.1 in
    let stops = c.in_err-read_on.ensures.stops left (in_header whole, read.stands left first, shows) in
    rw (p.1, p.2) (stops_sooner left _ _ _ _ read.later stops)

pub returns-clause-stops : goal.returns-clause-stops
returns-clause-stops g c =
    let left = g.S.Source.left c.args.source.now in
    let header = reading c.in_ok-header.header in
    let first =
    stands_first c.in_ok-reader.reader header left c.in_ok-reader.ensures c.in_ok-header.ensures in
    let read = c.in_ok-read_header.ensures in
    let whole = reading c.read_header.new.header in
    let shows = c.in_ok-auditor.ensures.shows whole read.gone c.finish.ensures in
    let stops =
    c.in_ok-read_on.ensures.stops left (in_header whole, read.stands left first, shows) in
    record {
      said = stops.said;
      good = stops.good;
      over = stops.over;
      lawful = shows_lawful c.read_on.new.auditor stops.said c.in_ok-read_on.ensures.goes_on stops.shows;
      counted = stops.shows.events;
    }
