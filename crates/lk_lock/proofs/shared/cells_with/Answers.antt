use Rattle.std.proofs.Common.{ℕ, ◌+◌, ◌∷◌, ◌++◌, [], List, length, sym, ap, ◌∙◌, subst}
use Rattle.std.proofs.Common.{length-append}
use Rattle.lk_lock.proofs.Names.{TableId, AreKeysOf, names_of}
use Rattle.lk_lock.proofs.Laid.{one_more, one_named}
use Rattle.lk_lock.proofs.shared.cells_with.Goals as goal

pub loop-preserved : goal.loop-preserved
loop-preserved g c =
    let inv = c.loop.invariant in
    let cells = c.loop.cells.items in
    let keys = c.loop.keys.items in
    let cell = c.in_ok-cell.cell in
    let key = c.in_ok-cell.key in
    record {
      cells_room = ap (λ z. z.room) c.push.ensures ∙ inv.cells_room;
      keys_room = ap (λ z. z.room) c.push-in-loop.ensures ∙ inv.keys_room;
      cells = ap (λ z. length z.items) c.push.ensures
          ∙ (length-append cells (cell ∷ []) ∙ ap (λ (n : ℕ). n + 1) inv.cells);
      keys = ap (λ z. length z.items) c.push-in-loop.ensures
          ∙ (length-append keys (key ∷ []) ∙ ap (λ (n : ℕ). n + 1) inv.keys);
      fit = subst (λ z. AreKeysOf (names_of z.items) c.push-in-loop.new.self.items) (sym c.push.ensures)
          (subst (λ z. AreKeysOf (names_of (cells ++ cell ∷ [])) z.items) (sym c.push-in-loop.ensures)
          (subst (λ (ns : List TableId). AreKeysOf ns (keys ++ key ∷ [])) (sym (one_named cells cell))
          (one_more (names_of cells) keys cell.table.shared.table_id key inv.fit c.in_ok-cell.ensures)));
    }
