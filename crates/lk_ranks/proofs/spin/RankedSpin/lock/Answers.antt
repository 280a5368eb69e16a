use Rattle.std.proofs.Common.{ℕ, ◌<◌, ap, subst, sym}
use Rattle.lk_names.specs.declared.holder.Manner.TheVariants.{Spins}
use Rattle.lk_domain.specs.Seats.{calls_of}
use Rattle.lk_ranks.proofs.Ranking.{above_inside, above_more, not_held}
use Rattle.lk_ranks.proofs.spin.RankedSpin.lock.Goals as goal

pub lock-requires-clause-free : goal.lock-requires-clause-free
lock-requires-clause-free g c = not_held c.args.self.now.spin.id.index (calls_of c.args.cpu.now) c.requires.above

pub returns-clause-order : goal.returns-clause-order
returns-clause-order g c higher up =
    let l = c.args.self.now.spin.id.index in
    let old = c.args.cpu.now in
    above_inside c.args.domain.now c.lock.result.spin.now.id.index higher Spins old c.lock.result.cpu.now c.lock.ensures.ready
    c.lock.ensures.inside (above_more l higher (calls_of old) up c.requires.above)
    (subst (λ (n : ℕ). n < higher) (ap (λ z. z.id.index) (sym c.lock.ensures.same.1)) up)
