use Rattle.std.proofs.Common.{◌∙◌, sym}
use Rattle.lk_domain.specs.Seats.{calls_of}
use Rattle.lk_ranks.proofs.Ranking.{above_same, not_held}
use Rattle.lk_ranks.proofs.spin.RankedSpin.with.Goals as goal

pub with-requires-clause-free : goal.with-requires-clause-free
with-requires-clause-free g c = not_held c.args.self.now.spin.id.index (calls_of c.args.seat.now.cpu.now) c.requires.above

pub returns-clause-order : goal.returns-clause-order
returns-clause-order g c rank above =
    above_same rank (calls_of c.args.seat.now.cpu.now) (calls_of c.with.new.self.cpu.now)
    (c.with.new.self.ready.frames ∙ sym c.args.seat.now.ready.frames) c.with.ensures.before.holds above
