use Rattle.std.proofs.Common.{inl, refl}
use Rattle.lk_run.proofs.Names.{G4, Owns}
use Rattle.lk_rows.specs.declared.parts.Pc.TheVariants.{G3}
use Rattle.lk_run.proofs.Places.{free_by, held_by}
use Rattle.lk_run.proofs.Rows as row
use Rattle.lk_run.proofs.Calling as on
use Rattle.lk_run.proofs.call.Queued.look_again.Goals as goal

pub look-requires-clause-row : goal.look-requires-clause-row
look-requires-clause-row c = inl (on.looks_in c.requires refl)

pub returns-clause-free : goal.returns-clause-free
returns-clause-free c is =
    let made = (c.look.ensures.word (on.looks_in c.requires refl)).by in
    on.word_steps c.requires c.look.ensures.rest made G3 (Owns c.args.self.now.own) (λ e. cc e)
    (λ f has. row.glance_sees _ _ f made.found c.args.self.now.own has (free_by _ c.look.result made.found made.word is))

pub returns-clause-held : goal.returns-clause-held
returns-clause-held c is =
    let made = (c.look.ensures.word (on.looks_in c.requires refl)).by in
    on.word_steps c.requires c.look.ensures.rest made G4 (Owns c.args.self.now.own) (λ e. cc e)
    (λ f has. row.glance_misses _ _ f made.found c.args.self.now.own has (held_by _ c.look.result made.found made.word is))
