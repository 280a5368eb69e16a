use Rattle.std.proofs.Common.{refl}
use Rattle.std.proofs.lemmas.Result.{err_from_is_err_and}
use Rattle.lk_forms.specs.Reader.{reading}
use Rattle.lk_replay.proofs.HeaderSteps.{header_stands}
use Rattle.lk_replay.proofs.Opened.{header_lawful, opens, opens_at_go}
use Rattle.lk_replay.proofs.replayer.Replayer.open.Goals as goal

pub returns-in_err-read_header-clause-refused : goal.returns-in_err-read_header-clause-refused
returns-in_err-read_header-clause-refused g c =
    let left = g.S.Source.left c.args.source.now in
    let first = header_stands c.in_ok-reader.reader (reading c.in_ok-header.header) left c.in_ok-reader.ensures c.in_ok-header.ensures in
    let p = err_from_is_err_and c.from_residual-in_err-read_header.result c.from_residual-in_err-read_header.ensures.1 in
    rw (p.1, p.2) (c.in_err-read_header.ensures.refused left first)

pub at_rest-requires : goal.at_rest-requires
at_rest-requires g c =
    let left = g.S.Source.left c.args.source.now in
    let first = header_stands c.in_ok-reader.reader (reading c.in_ok-header.header) left c.in_ok-reader.ensures c.in_ok-header.ensures in
    rw c.finish.ensures (header_lawful left _ (reading c.read_header.new.header) c.read_header.new.reader (c.in_ok-read_header.ensures.stands left first))

pub returns-clause-stands : goal.returns-clause-stands
returns-clause-stands g c = λ held.
    let left = g.S.Source.left c.args.source.now in
    let first = header_stands c.in_ok-reader.reader (reading c.in_ok-header.header) left c.in_ok-reader.ensures c.in_ok-header.ensures in
    let read = c.in_ok-read_header.ensures in
    opens left _ (reading c.read_header.new.header) c.read_header.new.reader (read.stands left first) _ held refl read.gone (rw c.finish.ensures at c.in_ok-run.ensures.nothing) refl c.in_ok-block.ensures

pub invariant_of-result : goal.invariant_of-result
invariant_of-result g c =
    let left = g.S.Source.left c.args.source.now in
    let first = header_stands c.in_ok-reader.reader (reading c.in_ok-header.header) left c.in_ok-reader.ensures c.in_ok-header.ensures in
    record { kept = (c.in_ok-read_header.ensures.stands left first).reads.kept; ready = c.in_ok-run.ensures.ready }

pub returns-clause-at_go : goal.returns-clause-at_go
returns-clause-at_go g c =
    let left = g.S.Source.left c.args.source.now in
    let first = header_stands c.in_ok-reader.reader (reading c.in_ok-header.header) left c.in_ok-reader.ensures c.in_ok-header.ensures in
    let read = c.in_ok-read_header.ensures in
    opens_at_go left _ (reading c.read_header.new.header) c.read_header.new.reader (read.stands left first) _ refl read.gone
