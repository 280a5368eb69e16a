use Rattle.std.proofs.Common.{◌∙◌, sym}
use Rattle.lk_domain.specs.Seats.{calls_of}
use Rattle.lk_ranks.proofs.Ranking.{above_same, not_held}
use Rattle.lk_ranks.proofs.shared.RankedShared.update.Goals as goal

pub update-requires-clause-free : goal.update-requires-clause-free
update-requires-clause-free g c = not_held c.args.self.now.shared.id.index (calls_of c.args.seat.now.cpu.now) c.requires.above

pub returns-clause-order : goal.returns-clause-order
returns-clause-order g c rank above =
    above_same rank (calls_of c.args.seat.now.cpu.now) (calls_of c.update.new.self.cpu.now)
    (c.update.new.self.ready.frames ∙ sym c.args.seat.now.ready.frames) c.update.ensures.before.holds above
