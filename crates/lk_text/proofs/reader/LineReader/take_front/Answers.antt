use Rattle.std.proofs.Common.{◌≡◌, ◌<◌, ◌+◌, false, refl, sym, ◌∙◌, arith, inl}
use Rattle.std.proofs.lemmas.Bool.{ltb-true, ne_eqb}
use Rattle.std.proofs.KnownBytes.{Keeps-refl}
use Rattle.lk_text.specs.Reader.{pending, unread, EndsAt}
use Rattle.lk_text.proofs.AtHand.{length-pending}
use Rattle.lk_text.proofs.FeedLemmas.{part_is}
use Rattle.lk_text.proofs.Takes.{takes_line, takes_ending}
use Rattle.lk_text.proofs.reader.LineReader.take_front.Goals as goal

pub returns-clause-taken : goal.returns-clause-taken
returns-clause-taken c = λ _ left.
    let reader = c.args.self.now in
    let line = c.args.line in
    let feed = c.requires.feed in
    let size = length-pending reader in
    let below : reader.at < reader.whole = ltb-true _ _ c.requires.at_hand in
    let going : reader.ended ≡ false = reader.going below in
    let ends : EndsAt (pending reader) left reader.looked line (line + 1) =
    record {
      plain = feed.plain;
      fits = omega (arith, feed.within);
      ends = inl (refl, feed.here);
      short = c.requires.short;
      within = omega (arith, c.if-all-self.false, reader.within);
    } in
    record {
      takes = takes_ending _ _ _ _ _ _ _ (ne_eqb (line + 1) line (λ e. omega arith) ∙ sym going)
          (rw (part_is reader.block.items reader.at (line + 1) reader.end)
          (takes_line (unread reader left) left (pending reader) reader.looked line (line + 1) ends (omega arith) (omega arith) (Keeps-refl (unread reader left))));
      lines = refl;
      kept = reader.open below;
      was_not = going;
    }
