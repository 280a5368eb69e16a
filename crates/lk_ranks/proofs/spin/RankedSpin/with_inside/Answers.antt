use Rattle.lk_domain.specs.Seats.{calls_of}
use Rattle.lk_ranks.proofs.Ranking.{not_held}
use Rattle.lk_ranks.proofs.spin.RankedSpin.with_inside.Goals as goal

pub with-requires-clause-free : goal.with-requires-clause-free
with-requires-clause-free g c = not_held c.args.self.now.spin.id.index (calls_of c.args.held.now.cpu.now) c.requires.above
