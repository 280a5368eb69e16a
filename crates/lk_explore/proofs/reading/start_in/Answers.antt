use Rattle.lk_forms.specs.Reader.{reading}
use Rattle.lk_replay.proofs.HeaderSteps.{header_stands}
use Rattle.lk_replay.proofs.Opened.{header_lawful}
use Rattle.lk_explore.proofs.reading.start_in.Goals as goal

pub resting-requires : goal.resting-requires
resting-requires g c =
    let left = g.S.Source.left c.args.source.now in
    let first = header_stands c.in_ok-reader.reader (reading c.in_ok-header.header) left c.in_ok-reader.ensures c.in_ok-header.ensures in
    rw c.finish-setup.ensures (header_lawful left _ (reading c.read_header.new.header) c.read_header.new.reader (c.in_ok-read_header.ensures.stands left first))

pub returns-clause-lawful : goal.returns-clause-lawful
returns-clause-lawful g c =
    let left = g.S.Source.left c.args.source.now in
    let first = header_stands c.in_ok-reader.reader (reading c.in_ok-header.header) left c.in_ok-reader.ensures c.in_ok-header.ensures in
    rw c.finish-setup.ensures (header_lawful left _ (reading c.read_header.new.header) c.read_header.new.reader (c.in_ok-read_header.ensures.stands left first))
