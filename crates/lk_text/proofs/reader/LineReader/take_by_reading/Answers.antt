use Rattle.std.proofs.Common.{◌+◌, ap, ◌∙◌, arith}
use Rattle.lk_text.proofs.Takes.{takes_line_at}
use Rattle.lk_text.proofs.AtHand.{has_feed}
use Rattle.lk_text.proofs.reader.LineReader.take_by_reading.Goals as goal

pub returns-else-span-eq0-clause-line : goal.returns-else-span-eq0-clause-line
returns-else-span-eq0-clause-line g c =
    let left = g.S.Source.left in
    let reader = c.read_line.new.self in
    let span = c.in-Ok.span in
    let found = c.in-Ok.ensures in
    let some = c.if-span-eq0.false in (
      omega arith,
      omega (arith, found.fits.0, found.fits.1, reader.in_block),
      record {
        takes = takes_line_at _ (left c.read_line.new.source) reader.block.items reader.at reader.end c.args.self.now.looked reader.looked span.line span.all found.span (omega arith) found.fits.1 found.fits.0 found.place.looked found.bytes;
        lines = ap (λ n. n + 1) found.place.lines;
        kept = found.place.kept ∙ c.in_default.is;
        was_not = c.if-self.false;
      },
    )

pub invariant_of-self-clause-going : goal.invariant_of-self-clause-going
invariant_of-self-clause-going g c = λ more.
    has_feed c.read_line.new.self _ _ c.in-Ok.span.line c.in-Ok.span.all c.in-Ok.ensures.span (omega arith)

pub invariant_of-self-in-Ok-clause-going : goal.invariant_of-self-in-Ok-clause-going
invariant_of-self-in-Ok-clause-going g c = λ more.
    has_feed c.read_line.new.self _ _ c.in-Ok.span.line c.in-Ok.span.all c.in-Ok.ensures.span more
