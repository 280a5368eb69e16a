use Rattle.std.proofs.Common.{refl}
use Rattle.lk_run.proofs.Names.{N1, Any}
use Rattle.lk_run.proofs.Rows as row
use Rattle.lk_run.proofs.Calling as on
use Rattle.lk_domain.proofs.Ways as seat
use Rattle.lk_run.proofs.call.Call.swap_bare.Goals as goal

pub take_free-requires-clause-row : goal.take_free-requires-clause-row
take_free-requires-clause-row c = on.takes_in c.requires refl

pub returns-clause-taken : goal.returns-clause-taken
returns-clause-taken c is =
    let made = c.take_free.ensures.step.by in
    on.word_takes c.requires c.take_free.ensures.rest made refl
    (λ f has. row.bare_takes _ _ f made.found (seat.is_zero _ c.take_free.result made.found made.word is))

pub returns-clause-held : goal.returns-clause-held
returns-clause-held c is =
    let made = c.take_free.ensures.step.by in
    on.word_steps c.requires c.take_free.ensures.rest made N1 Any (λ e. cc e)
    (λ f has. row.bare_misses _ _ f made.found (seat.not_zero _ c.take_free.result made.found made.word is))
