use Rattle.std.proofs.Common.{◌≡◌, List, Bool, true, false, ap, sym, ◌∙◌, arith, get_or}
use Rattle.lk_cell.proofs.Turns.{opens}
use Rattle.lk_cell.proofs.cell.KeyCell.open.Goals as goal

pub load-requires : goal.load-requires
load-requires g c =
    let t = c.args.self.now.table.shared in
    let seat = c.into_seat-seat.result in
    let key = c.requires in
    let is = c.into_seat-seat.ensures in
    let shut : seat.me.0 ≡ false = ap (λ (vs : List Bool). get_or vs 0 true) (sym is.2 ∙ key.1) in (
      is.0 ∙ key.0,
      (let z = c.args.self.now.words in omega (arith, z)),
      opens g.F.Fits.fits t.table_id.slots seat.id seat.me (λ i. (shut i, is.3 i)),
    )
