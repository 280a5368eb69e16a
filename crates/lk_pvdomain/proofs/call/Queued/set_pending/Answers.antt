use Rattle.std.proofs.Common.{refl}
use Rattle.lk_domain.specs.declared.locks.moves.WordUse.TheVariants.{Pends}
use Rattle.lk_pvdomain.proofs.ways.Leads.{word_asks, e3_presses}
use Rattle.lk_pvdomain.proofs.call.Queued.set_pending.Goals as goal

pub go_on-requires : goal.go_on-requires
go_on-requires c =
    let w = c.requires.1 in
    record { on = (_, w.of); lock = w.low; row = word_asks w Pends refl; home = λ e. absurd (cc e) }

pub returns : goal.returns
returns c s w = e3_presses c.go_on.ensures.same w c.go_on.ensures.step
