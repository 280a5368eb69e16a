use Rattle.std.proofs.Common.{refl, sym, ◌∙◌}
use Rattle.lk_pvdomain.proofs.Names.{eqb-false, eqb-true}
use Rattle.lk_domain.specs.declared.locks.moves.WordUse.TheVariants.{Looks}
use Rattle.lk_pvdomain.proofs.ways.Leads.{word_asks, e11_slow, e11_else}
use Rattle.lk_pvdomain.proofs.call.Queued.test_slow.Goals as goal

pub go_on-requires : goal.go_on-requires
go_on-requires c =
    let w = c.requires.1 in
    record { on = (_, w.of); lock = w.low; row = word_asks w Looks refl; home = λ e. absurd (cc e) }

pub returns-clause-slow : goal.returns-clause-slow
returns-clause-slow c e s w = e11_slow c.go_on.ensures.same w c.go_on.ensures.step (sym c.low_byte.ensures ∙ eqb-true _ _ e)

pub returns-clause-other : goal.returns-clause-other
returns-clause-other c e s w = e11_else c.go_on.ensures.same w c.go_on.ensures.step (λ h. eqb-false _ _ e (c.low_byte.ensures ∙ h))
