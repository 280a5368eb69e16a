use Rattle.std.proofs.Common.{inl, refl}
use Rattle.lk_run.proofs.Names.{Any}
use Rattle.lk_rows.specs.declared.parts.Pc.TheVariants.{V2}
use Rattle.lk_run.proofs.Rows as row
use Rattle.lk_run.proofs.Calling as on
use Rattle.lk_domain.proofs.Ways as seat
use Rattle.lk_run.proofs.call.Call.loop_look.Goals as goal

pub look-requires-clause-row : goal.look-requires-clause-row
look-requires-clause-row c = inl (on.looks_in c.requires refl)

pub returns-clause-free : goal.returns-clause-free
returns-clause-free c is =
    let made = (c.look.ensures.word (on.looks_in c.requires refl)).by in
    on.word_steps c.requires c.look.ensures.rest made V2 Any (λ e. cc e)
    (λ f has. row.loop_sees _ _ f made.found (seat.is_zero _ c.look.result made.found made.word is))

pub returns-clause-held : goal.returns-clause-held
returns-clause-held c is =
    let made = (c.look.ensures.word (on.looks_in c.requires refl)).by in
    on.word_looks c.requires c.look.ensures.rest made
    (λ f has. row.loop_waits _ _ f made.found (seat.not_zero _ c.look.result made.found made.word is))
