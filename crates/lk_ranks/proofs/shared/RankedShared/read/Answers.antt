use Rattle.std.proofs.Common.{◌∙◌, sym}
use Rattle.lk_domain.specs.Seats.{calls_of}
use Rattle.lk_ranks.proofs.Ranking.{above_same, not_held}
use Rattle.lk_ranks.proofs.shared.RankedShared.read.Goals as goal

pub read-requires-clause-free : goal.read-requires-clause-free
read-requires-clause-free g c = not_held c.args.self.now.shared.id.index (calls_of c.args.seat.now.cpu.now) c.requires.above

pub returns-clause-order : goal.returns-clause-order
returns-clause-order g c rank above =
    above_same rank (calls_of c.args.seat.now.cpu.now) (calls_of c.read.new.self.cpu.now)
    (c.read.new.self.ready.frames ∙ sym c.args.seat.now.ready.frames) c.read.ensures.before.holds above
