use Rattle.std.proofs.Common.{refl}
use Rattle.lk_run.proofs.Names.{after_fast, Any}
use Rattle.lk_run.proofs.Places.{free_by, held_by, met_by, not_fast}
use Rattle.lk_run.proofs.Rows as row
use Rattle.lk_run.proofs.Calling as on
use Rattle.lk_run.proofs.call.Call.fast.Goals as goal

pub take_free-requires-clause-row : goal.take_free-requires-clause-row
take_free-requires-clause-row c = on.takes_in c.requires refl

pub returns-clause-taken : goal.returns-clause-taken
returns-clause-taken c is =
    let made = c.take_free.ensures.step.by in
    on.word_takes c.requires c.take_free.ensures.rest made refl
    (λ f has. row.fast_takes _ _ f made.found (free_by _ c.take_free.result made.found made.word is))

pub returns-clause-waits : goal.returns-clause-waits
returns-clause-waits c is =
    let d = c.args.self.now.domain.now in
    let made = c.take_free.ensures.step.by in
    let met = met_by d c.args.cpu.now c.take_free.new.cpu c.requires.domain c.take_free.ensures.step in
    let leads = on.word_steps c.requires c.take_free.ensures.rest made (after_fast d.plan.mode made.found) Any (not_fast d.plan.mode made.found)
    (λ f has. row.fast_goes _ _ f made.found (held_by _ c.take_free.result made.found made.word is)) in
    record {
      rest = c.take_free.ensures.rest;
      arrives = λ s told h. record { found = made.found; packs = met.packs; word = met.word; waits = leads.goes s told h };
    }
