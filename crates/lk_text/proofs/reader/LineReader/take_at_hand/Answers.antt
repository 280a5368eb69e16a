use Rattle.std.proofs.Common.{◌≡◌, ◌<◌, ◌+◌, false, refl, sym, ◌∙◌, arith}
use Rattle.std.proofs.lemmas.Bool.{ltb-true, ne_eqb}
use Rattle.std.proofs.KnownBytes.{Keeps-refl}
use Rattle.lk_text.specs.Reader.{unread}
use Rattle.lk_text.proofs.Takes.{takes_line_at, takes_ending}
use Rattle.lk_text.proofs.reader.LineReader.take_at_hand.Goals as goal

pub returns-in-Ok-clause-line : goal.returns-in-Ok-clause-line
returns-in-Ok-clause-line c =
    let reader = c.args.self.now in
    let span = c.in-Ok.span in
    let found = c.in-Ok.ensures in
    let size : span.all ≡ span.line + 1 = found.span.0 in
    let below : reader.at < reader.whole = ltb-true _ _ c.requires in
    let going : reader.ended ≡ false = reader.going below in (
      omega arith,
      omega (arith, found.fits.0, found.fits.1, reader.in_block),
      λ left. record {
        takes = takes_ending _ _ _ _ _ _ _ (ne_eqb span.all span.line (λ e. omega arith) ∙ sym going)
            (takes_line_at (unread reader left) left reader.block.items reader.at reader.end reader.looked reader.looked span.line span.all (found.span.1 left) (omega arith) found.fits.1 found.fits.0 refl (Keeps-refl (unread reader left)));
        lines = refl;
        kept = reader.open below;
        was_not = going;
      },
    )
