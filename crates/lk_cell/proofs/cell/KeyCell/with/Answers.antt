use Rattle.std.proofs.Common.{◌≡◌, ◌∷◌, ℕ, List, ap, sym, refl, ◌∙◌, get_or, Bool}
use Rattle.std.specs.Fn.{FnOnceReturnsAtMut}
use Rattle.atomic_table.specs.Table.{Me, rest}
use Rattle.lk_cell.proofs.cell.KeyCell.with.Goals as goal

pub work-done-requires : goal.work-done-requires
work-done-requires g c =
    let t = c.open-seat.ensures.1 in
    let same : t.0 ≡ c.slot_mut-value.result.now = ap (λ (l : List (ℕ × g.row.T.Denot)). (get_or l 0 (0, t.0)).1) (sym (ap (λ m. m.1) t.2) ∙ c.slot_mut-value.ensures.value) in
    c.requires.work.callable t.0 t.1 c.slot_mut-value.result (sym same)

pub shut-requires : goal.shut-requires
shut-requires g c =
    let t = c.open-seat.ensures.1 in
    let y = c.work-done.new.arg2 in
    let same : t.0 ≡ c.slot_mut-value.result.now = ap (λ (l : List (ℕ × g.row.T.Denot)). (get_or l 0 (0, t.0)).1) (sym (ap (λ m. m.1) t.2) ∙ c.slot_mut-value.ensures.value) in
    let gave : FnOnceReturnsAtMut g.W.FnOnce c.args.work t.0 c.work-done.result y = record { shown = _; shows = sym same; left = _; met = c.work-done.ensures; leaves = refl } in (
      c.open-seat.ensures.0,
      (y, c.requires.work.keeps t.0 c.work-done.result y t.1 gave, ap (λ (z : Me g.row.T.Denot Bool). let r : Me g.row.T.Denot Bool = (z.0, (0, y) ∷ rest z.1) in r) t.2),
    )

pub returns-clause-done : goal.returns-clause-done
returns-clause-done g c =
    let t = c.open-seat.ensures.1 in
    let y = c.work-done.new.arg2 in
    let same : t.0 ≡ c.slot_mut-value.result.now = ap (λ (l : List (ℕ × g.row.T.Denot)). (get_or l 0 (0, t.0)).1) (sym (ap (λ m. m.1) t.2) ∙ c.slot_mut-value.ensures.value) in
    let gave : FnOnceReturnsAtMut g.W.FnOnce c.args.work t.0 c.work-done.result y = record { shown = _; shows = sym same; left = _; met = c.work-done.ensures; leaves = refl } in
    record { met = t.0; left = y; fit = t.1; gave = gave }
