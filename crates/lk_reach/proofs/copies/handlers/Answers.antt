use Rattle.std.proofs.Common.{◌∙◌, ◌++◌, [], ◌∷◌, map, ap, sym, take}
use Rattle.lk_reach.proofs.Names.{tight_lists}
use Rattle.lk_reach.proofs.apart.Copied.{copied_next}
use Rattle.lk_reach.proofs.copies.handlers.Goals as goal

pub loop-at-preserved : goal.loop-at-preserved
loop-at-preserved c =
    let inv = c.loop-at.invariant in
    let xs = c.args.list.now.items in
    let n = c.loop-at.at in
    let item = c.in_ok-item.item in
    let done = map tight_lists (take n xs) in
    record {
      items =
          ap (λ list. list.items) c.push.ensures ∙ ap (λ ys. ys ++ item ∷ []) inv.items
          ∙ ap (λ y. done ++ y ∷ []) c.in_ok-item.ensures
          ∙ sym (copied_next tight_lists xs n c.get-from.result.now c.get-from.ensures);
      room = ap (λ list. list.room) c.push.ensures ∙ inv.room;
    }
