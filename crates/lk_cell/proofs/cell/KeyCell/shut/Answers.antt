use Rattle.std.proofs.Common.{arith}
use Rattle.lk_cell.proofs.Turns.{shuts}
use Rattle.lk_cell.proofs.cell.KeyCell.shut.Goals as goal

pub load-requires : goal.load-requires
load-requires g c =
    let t = c.args.self.now.table.shared in
    let is = c.requires.1 in (
      c.requires.0,
      (let z = c.args.self.now.words in omega (arith, z)),
      shuts g.F.Fits.fits t.table_id.slots c.args.seat.id c.args.seat.me is.0 is.2 is.1,
    )
