use Rattle.std.proofs.Common.{refl}
use Rattle.lk_domain.specs.declared.locks.moves.WordUse.TheVariants.{Wins}
use Rattle.lk_pvdomain.proofs.ways.Leads.{word_asks, e8_wins}
use Rattle.lk_pvdomain.proofs.call.Queued.store_held.Goals as goal

pub go_on-requires : goal.go_on-requires
go_on-requires c =
    let w = c.requires.1 in
    record { on = (_, w.of); lock = w.low; row = word_asks w Wins refl; home = λ e. absurd (cc e) }

pub returns : goal.returns
returns c s w = e8_wins c.go_on.ensures.same w c.go_on.ensures.step
