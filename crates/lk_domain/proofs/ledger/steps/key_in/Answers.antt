use Rattle.std.proofs.Common.{◌≡◌, Option, Some, None, sym, ap, ◌∙◌}
use Rattle.lk_domain.proofs.Names.{Key, lodged, Journal, Entries}
use Rattle.lk_domain.proofs.ledger.steps.key_in.Goals as goal

-- the slot of a lock has no journal
not_entries : (x : Option Key) (j : Journal) → Some (Entries j) ≡ lodged x → ⊥
not_entries None j e = cc e
not_entries (Some key) j e = cc e

pub unreachable-requires : goal.unreachable-requires
unreachable-requires c = not_entries c.requires.0 _ (sym (c.in-Some-Entries.is ∙ ap Some c.in-Some-Entries.field-0-is) ∙ c.requires.1)
