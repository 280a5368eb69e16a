use Rattle.std.proofs.Common.{refl, sym, ◌∙◌}
use Rattle.lk_pvdomain.proofs.Names.{eqb-false, eqb-true}
use Rattle.lk_domain.specs.declared.locks.moves.WordUse.TheVariants.{Slows}
use Rattle.lk_pvdomain.proofs.ways.Leads.{word_asks, e7_takes, e7_else}
use Rattle.lk_pvdomain.proofs.call.Queued.exchange_slow.Goals as goal

pub go_on-requires : goal.go_on-requires
go_on-requires c =
    let w = c.requires.1 in
    record { on = (_, w.of); lock = w.low; row = word_asks w Slows refl; home = λ e. absurd (cc e) }

pub returns-clause-takes : goal.returns-clause-takes
returns-clause-takes c e s w = e7_takes c.go_on.ensures.same w c.go_on.ensures.step (sym c.low_byte.ensures ∙ eqb-true _ _ e)

pub returns-clause-waits : goal.returns-clause-waits
returns-clause-waits c e s w = e7_else c.go_on.ensures.same w c.go_on.ensures.step (λ h. eqb-false _ _ e (c.low_byte.ensures ∙ h))
