use Rattle.std.proofs.Common.{◌∙◌}
use Rattle.std.proofs.lemmas.List.{with_items_is}
use Rattle.lk_text.proofs.Unread.{Keeps-refilled}
use Rattle.lk_text.proofs.reader.LineReader.fill.Goals as goal

pub returns-clause-bytes : goal.returns-clause-bytes
returns-clause-bytes g c =
    let e = with_items_is c.args.self.now.block c.refill.new.block (c.refill.auto.block ∙ c.deref_mut.ensures.len) in
    rw e (Keeps-refilled _ _ _ _ _ _ _ _ c.deref_mut.ensures.value c.refill.ensures.front c.in_ok-count.ensures.bytes.0)
