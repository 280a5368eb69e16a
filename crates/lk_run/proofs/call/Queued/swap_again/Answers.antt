use Rattle.std.proofs.Common.{refl}
use Rattle.lk_run.proofs.Names.{G4, Owns}
use Rattle.lk_run.proofs.Places.{free_by, held_by}
use Rattle.lk_run.proofs.Rows as row
use Rattle.lk_run.proofs.Calling as on
use Rattle.lk_run.proofs.call.Queued.swap_again.Goals as goal

pub take_free-requires-clause-row : goal.take_free-requires-clause-row
take_free-requires-clause-row c = on.takes_in c.requires refl

pub returns-clause-taken : goal.returns-clause-taken
returns-clause-taken c is =
    let made = c.take_free.ensures.step.by in
    on.word_takes c.requires c.take_free.ensures.rest made refl
    (λ f has. row.retry_takes _ _ f made.found c.args.self.now.own has (free_by _ c.take_free.result made.found made.word is))

pub returns-clause-held : goal.returns-clause-held
returns-clause-held c is =
    let made = c.take_free.ensures.step.by in
    on.word_steps c.requires c.take_free.ensures.rest made G4 (Owns c.args.self.now.own) (λ e. cc e)
    (λ f has. row.retry_misses _ _ f made.found c.args.self.now.own has (held_by _ c.take_free.result made.found made.word is))
