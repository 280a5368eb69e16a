use Rattle.std.proofs.Common.{◌≡◌, ◌++◌, ◌∷◌, [], false, refl, ap, ◌∙◌, map}
use mathlib.Core.Option.{some}
use lib.ListN.{get_elem?}
use Rattle.lk_cell.proofs.cell.KeyCell.new.Goals as goal

pub new-requires : goal.new-requires
new-requires g c =
    let v = c.args.value in
    let xs = c.push_reserved.ensures.items ∙ ap (λ ys. ys ++ v ∷ []) c.in_ok-slots.ensures.items in
    let at : get_elem? (map some c.push_reserved.new.self.items) 0 ≡ some (some v) =
    ap (λ ys. get_elem? (map some ys) 0) xs in
    record {
      open_is = false;
      views = refl;
      home = λ _. (v, at, c.requires);
      slot = (some v, at);
    }
