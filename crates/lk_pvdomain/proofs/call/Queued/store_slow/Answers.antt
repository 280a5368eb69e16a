use Rattle.std.proofs.Common.{refl}
use Rattle.lk_domain.specs.declared.locks.moves.WordUse.TheVariants.{Signs}
use Rattle.lk_pvdomain.proofs.{ways.Hands.k2_signs, ways.Leads.word_asks}
use Rattle.lk_pvdomain.proofs.call.Queued.store_slow.Goals as goal

pub go_on-requires : goal.go_on-requires
go_on-requires c =
    let w = c.requires.1 in
    record { on = (_, w.of); lock = w.low; row = word_asks w Signs refl; home = λ e. absurd (cc e) }

pub returns : goal.returns
returns c s w = k2_signs c.go_on.ensures.same w c.go_on.ensures.step
