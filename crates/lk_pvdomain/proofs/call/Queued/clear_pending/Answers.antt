use Rattle.std.proofs.Common.{refl, subst}
use Rattle.lk_pvdomain.proofs.Names.{At}
use Rattle.lk_rows.specs.declared.parts.Pc.TheVariants.{E5}
use Rattle.lk_domain.specs.declared.locks.moves.WordUse.TheVariants.{Clears}
use Rattle.lk_pvdomain.proofs.ways.Leads.{word_asks, e5_hashed, e5_else}
use Rattle.lk_pvdomain.specs.PvWords.{Leads}
use Rattle.lk_pvdomain.proofs.call.Queued.clear_pending.Goals as goal

pub go_on-requires : goal.go_on-requires
go_on-requires c =
    let w = c.requires.1 in
    record { on = (_, w.of); lock = w.low; row = word_asks w Clears refl; home = λ e. absurd (cc e) }

pub returns-clause-hashed : goal.returns-clause-hashed
returns-clause-hashed c e s w =
    e5_hashed c.go_on.ensures.same (subst (λ h. At c.args.self.now s E5 (Leads h) c.args.seat.now) e w) c.go_on.ensures.step

pub returns-clause-other : goal.returns-clause-other
returns-clause-other c e s w =
    e5_else c.go_on.ensures.same (subst (λ h. At c.args.self.now s E5 (Leads h) c.args.seat.now) e w) c.go_on.ensures.step
