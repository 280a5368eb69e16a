use Rattle.std.proofs.Common.{sym, ap, ◌∙◌, ◌≡◌, ◌<◌, ◌+◌, Some, None, subst, arith, get_or, List}
use Rattle.std.proofs.Common.{ℕ}
use Rattle.lk_domain.proofs.Names.{slots_items, Entry, IsEnd, accounts_of, cpus_of, FitsUnder}
use Rattle.lk_domain.proofs.Names.{homes_of, balance_at, Journal, Plan, CellKey, Entries}
use Rattle.lk_names.specs.Journal.{balances_after}
use Rattle.lk_values.specs.Guarded.{AreFit}
use Rattle.lk_domain.proofs.journals.Last.{ended_with, are_read, values_end}
use Rattle.lk_domain.proofs.journals.Loads.{entries_long}
use Rattle.lk_domain.proofs.ledger.steps.end.Goals as goal

pub unreachable-requires : goal.unreachable-requires
unreachable-requires c =
    let seat = c.args.seat in
    let table = c.args.table.shared in
    let key_is = c.requires.table.key_is in
    let t = ended_with table.key seat.id seat.me.0 (slots_items c.close_with-closed.result.words) (slots_items c.close_with-closed.result.slots) c.take-slot.result
    c.close_with-closed.ensures.values.2 (λ q lt. c.requires.all q (subst (λ (k : Plan). q < cpus_of k) key_is lt)) c.requires.home c.take-slot.ensures.value in
    let no : Some (CellKey c.in-Some-CellKey.field-0-0) ≡ Some (Entries t.journal) =
    sym (c.in-Some-CellKey.is ∙ ap Some c.in-Some-CellKey.field-0-is) ∙ t.is in
    cc

pub unreachable-requires-in-None : goal.unreachable-requires-in-None
unreachable-requires-in-None c =
    let seat = c.args.seat in
    let table = c.args.table.shared in
    let key_is = c.requires.table.key_is in
    let t = ended_with table.key seat.id seat.me.0 (slots_items c.close_with-closed.result.words) (slots_items c.close_with-closed.result.slots) c.take-slot.result
    c.close_with-closed.ensures.values.2 (λ q lt. c.requires.all q (subst (λ (k : Plan). q < cpus_of k) key_is lt)) c.requires.home c.take-slot.ensures.value in
    let no : None ≡ Some (Entries t.journal) = sym c.in-None.is ∙ t.is in
    cc

pub take_keys-requires-clause-fit : goal.take_keys-requires-clause-fit
take_keys-requires-clause-fit c =
    let seat = c.args.seat in
    let key_is = c.requires.table.key_is in
    subst (λ (k : Plan). AreFit 1 (homes_of k) (FitsUnder k) (slots_items c.take-slot.new.self.slots)) key_is
    (subst (AreFit 1 (homes_of c.args.table.shared.key) (FitsUnder c.args.table.shared.key)) (sym c.take-slot.ensures.others.0)
    (values_end c.args.table.shared.key seat.id seat.me.0 (slots_items c.close_with-closed.result.words) (slots_items c.close_with-closed.result.slots)
    c.close_with-closed.ensures.values.2 (λ q lt. c.requires.all q (subst (λ (k : Plan). q < cpus_of k) key_is lt)) c.requires.holds))

pub returns-clause-end : goal.returns-clause-end
returns-clause-end c =
    let seat = c.args.seat in
    let table = c.args.table.shared in
    let key_is = c.requires.table.key_is in
    let t = ended_with table.key seat.id seat.me.0 (slots_items c.close_with-closed.result.words) (slots_items c.close_with-closed.result.slots) c.take-slot.result
    c.close_with-closed.ensures.values.2 (λ q lt. c.requires.all q (subst (λ (k : Plan). q < cpus_of k) key_is lt)) c.requires.home c.take-slot.ensures.value in
    let same : Some (Entries t.journal) ≡ Some (Entries c.in-Some-Entries.journal) = sym t.is ∙ (c.in-Some-Entries.is ∙ ap Some c.in-Some-Entries.field-0-is) in
    let e : t.journal ≡ c.in-Some-Entries.journal = cc in
    subst (λ (k : Plan). IsEnd k seat.me.0 c.into_list.result.items) key_is
    (subst (λ (es : List Entry). IsEnd table.key seat.me.0 es)
    (ap (λ (j : Journal). j.entries.items) e ∙ ap (λ l. l.items) (sym c.into_list.ensures)) t.end)

pub returns-clause-balances : goal.returns-clause-balances
returns-clause-balances c =
    let seat = c.args.seat in
    let table = c.args.table.shared in
    let key_is = c.requires.table.key_is in
    let ws = slots_items c.close_with-closed.result.words in
    let t = ended_with table.key seat.id seat.me.0 ws (slots_items c.close_with-closed.result.slots) c.take-slot.result
    c.close_with-closed.ensures.values.2 (λ q lt. c.requires.all q (subst (λ (k : Plan). q < cpus_of k) key_is lt)) c.requires.home c.take-slot.ensures.value in
    let same : Some (Entries t.journal) ≡ Some (Entries c.in-Some-Entries.journal) = sym t.is ∙ (c.in-Some-Entries.is ∙ ap Some c.in-Some-Entries.field-0-is) in
    let e : t.journal ≡ c.in-Some-Entries.journal = cc in
    let es : t.journal.entries.items ≡ c.into_list.result.items =
    ap (λ (j : Journal). j.entries.items) e ∙ ap (λ l. l.items) (sym c.into_list.ensures) in
    let bs = balances_after c.args.plan.now.balances.items c.into_list.result.items in
    c.read.ensures
    ∙ are_read ws bs c.first_balance-first.result c.len-count.result
    (let a = c.len-count.ensures in let b = entries_long c.args.plan.now.balances.items c.into_list.result.items in omega arith) (let a = c.close_with-closed.ensures.counts.0 in let b = c.close_with-closed.result.words.ok in let w = c.requires.table.words in let x = c.first_balance-first.ensures in let y = c.len-count.ensures in let z = c.requires.table.lawful.accounts in omega (arith, a, b.0, w, x, y, z))
    (λ a lt.
    let at : c.first_balance-first.result + a ≡ balance_at c.args.plan.now a = (let x = c.first_balance-first.ensures in omega arith) in
    let less : a < accounts_of table.key = subst (λ (k : Plan). a < accounts_of k) (sym key_is) (let y = c.len-count.ensures in omega arith) in
    ap (λ (j : ℕ). get_or ws j 0) at
    ∙ (ap (λ (k : Plan). get_or ws (balance_at k a) 0) (sym key_is)
    ∙ (t.words a less ∙ (λ j. get_or (balances_after (key_is j).balances.items (es j)) a 0))))
