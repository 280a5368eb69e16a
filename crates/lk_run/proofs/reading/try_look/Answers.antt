use Rattle.std.proofs.Common.{refl, eqb, inr, length, sym, ◌∙◌}
use Rattle.lk_run.proofs.Names.{Y2, TryRead, watches_at, calls_of}
use Rattle.lk_run.proofs.RwPlaces.{is_open_by, is_shut_by}
use Rattle.lk_run.proofs.RwRows as row
use Rattle.lk_run.proofs.RwSteps as rw
use Rattle.lk_run.proofs.RwTries as try
use Rattle.lk_run.proofs.reading.try_look.Goals as goal

pub look-requires-clause-row : goal.look-requires-clause-row
look-requires-clause-row c =
    inr (record {
      plain = c.requires.plain;
      acts = rw.acts_begin (watches_at (eqb (length (calls_of c.args.cpu.now).frames) 1) TryRead) c.args.domain.now TryRead c.args.lock.index c.args.cpu.now
          c.requires.domain c.requires.may refl c.requires.kind (rw.watches_Y1 (eqb (length (calls_of c.args.cpu.now).frames) 1));
    })

pub returns-clause-open : goal.returns-clause-open
returns-clause-open c is =
    let d = c.args.domain.now in
    let a = c.args.cpu.now in
    let b = c.look.new.cpu in
    let l = c.args.lock.index in
    let made = (c.look.ensures.shared (record {
      plain = c.requires.plain;
      acts = rw.acts_begin (watches_at (eqb (length (calls_of c.args.cpu.now).frames) 1) TryRead) c.args.domain.now TryRead c.args.lock.index c.args.cpu.now
          c.requires.domain c.requires.may refl c.requires.kind (rw.watches_Y1 (eqb (length (calls_of c.args.cpu.now).frames) 1));
    })).by in
    try.first_moves d TryRead l a b c.look.ensures.rest c.requires.domain refl refl made c.requires.may.fresh Y2
    (λ f. row.try_sees d.plan.mode b.number f made.found (is_open_by c.look.result made.found made.word (sym c.lets_readers_in.ensures ∙ is)))

pub returns-clause-missed : goal.returns-clause-missed
returns-clause-missed c is =
    let d = c.args.domain.now in
    let a = c.args.cpu.now in
    let b = c.look.new.cpu in
    let l = c.args.lock.index in
    let made = (c.look.ensures.shared (record {
      plain = c.requires.plain;
      acts = rw.acts_begin (watches_at (eqb (length (calls_of c.args.cpu.now).frames) 1) TryRead) c.args.domain.now TryRead c.args.lock.index c.args.cpu.now
          c.requires.domain c.requires.may refl c.requires.kind (rw.watches_Y1 (eqb (length (calls_of c.args.cpu.now).frames) 1));
    })).by in
    try.first_misses d TryRead l a b c.look.ensures.rest c.requires.domain refl refl made c.requires.may.fresh
    (λ f. row.try_fails d.plan.mode b.number f made.found (is_shut_by c.look.result made.found made.word (sym c.lets_readers_in.ensures ∙ is)))
