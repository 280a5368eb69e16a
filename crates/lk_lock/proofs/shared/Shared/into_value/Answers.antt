use Rattle.std.proofs.Common.{◌≡◌, Some, sym, ap, ◌∙◌, subst, slice_get}
use Rattle.lk_lock.proofs.Names.{TableId, IsKey, names_of}
use Rattle.lk_lock.proofs.shared.Shared.into_value.Goals as goal

pub into_value-requires : goal.into_value-requires
into_value-requires g c =
    let cell = c.requires.key.0 in
    let name : TableId = c.pop_front-cell.result.table.shared.table_id in
    let at : Some name ≡ Some cell =
    sym (ap (λ xs. slice_get (names_of xs) 0) c.pop_front-cell.ensures.items) ∙ c.requires.key.1 in
    let same : name ≡ cell = cc at in
    subst (λ (x : TableId). IsKey x c.take.result) (sym same) (c.take.ensures.key cell c.requires.key.2)
