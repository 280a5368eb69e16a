use Rattle.std.proofs.Common.{sym, ap, ◌∙◌, ◌∷◌, List, ℕ, Some, arith}
use Rattle.lk_domain.proofs.Names.{Me, rest, step, none, Slot, Entries, View}
use Rattle.lk_domain.proofs.journals.Loads.{takes_journal}
use Rattle.lk_domain.proofs.ledger.steps.journal_out.Goals as goal

pub load-requires : goal.load-requires
load-requires c =
    let table = c.args.table.now.shared in
    let z = table.table_id in
    let at = c.requires.seat in
    let seat = c.args.seat.now in (
      at.table_is,
      (let w = c.requires.table.words in omega arith),
      takes_journal table.key z.slots seat.id seat.me (step z.slots 1 0 0 none) at.number c.requires.held c.requires.home,
    )

pub exchange-requires : goal.exchange-requires
exchange-requires c =
    let t = c.load.ensures.2 in
    let at = ap (λ (x : Me Slot View). x.1) t.seat in (
      c.load.ensures.0 ∙ c.requires.seat.table_is,
      (Some (Entries t.journal), at ∙ ap (λ (l : List (ℕ × Slot)). (0, Some (Entries t.journal)) ∷ rest l) (sym at)),
    )
