use Rattle.std.proofs.Common.{refl, eqb, inr, length}
use Rattle.lk_run.proofs.Names.{Y5, TryWrite, watches_at, calls_of}
use Rattle.lk_run.proofs.RwPlaces.{empty_by, full_by}
use Rattle.lk_run.proofs.RwRows as row
use Rattle.lk_run.proofs.RwSteps as rw
use Rattle.lk_run.proofs.RwTries as try
use Rattle.lk_run.proofs.writing.try_look.Goals as goal

pub look-requires-clause-row : goal.look-requires-clause-row
look-requires-clause-row c =
    inr (record {
      plain = c.requires.plain;
      acts = rw.acts_begin (watches_at (eqb (length (calls_of c.args.cpu.now).frames) 1) TryWrite) c.args.domain.now TryWrite c.args.lock.index c.args.cpu.now
          c.requires.domain c.requires.may refl c.requires.kind (rw.watches_Y4 (eqb (length (calls_of c.args.cpu.now).frames) 1));
    })

pub returns-clause-empty : goal.returns-clause-empty
returns-clause-empty c is =
    let d = c.args.domain.now in
    let a = c.args.cpu.now in
    let b = c.look.new.cpu in
    let l = c.args.lock.index in
    let made = (c.look.ensures.shared (record {
      plain = c.requires.plain;
      acts = rw.acts_begin (watches_at (eqb (length (calls_of c.args.cpu.now).frames) 1) TryWrite) c.args.domain.now TryWrite c.args.lock.index c.args.cpu.now
          c.requires.domain c.requires.may refl c.requires.kind (rw.watches_Y4 (eqb (length (calls_of c.args.cpu.now).frames) 1));
    })).by in
    try.first_moves d TryWrite l a b c.look.ensures.rest c.requires.domain refl refl made c.requires.may.fresh Y5
    (λ f. row.write_sees d.plan.mode b.number f made.found (empty_by c.look.result made.found made.word is))

pub returns-clause-missed : goal.returns-clause-missed
returns-clause-missed c is =
    let d = c.args.domain.now in
    let a = c.args.cpu.now in
    let b = c.look.new.cpu in
    let l = c.args.lock.index in
    let made = (c.look.ensures.shared (record {
      plain = c.requires.plain;
      acts = rw.acts_begin (watches_at (eqb (length (calls_of c.args.cpu.now).frames) 1) TryWrite) c.args.domain.now TryWrite c.args.lock.index c.args.cpu.now
          c.requires.domain c.requires.may refl c.requires.kind (rw.watches_Y4 (eqb (length (calls_of c.args.cpu.now).frames) 1));
    })).by in
    try.first_misses d TryWrite l a b c.look.ensures.rest c.requires.domain refl refl made c.requires.may.fresh
    (λ f. row.write_fails d.plan.mode b.number f made.found (full_by c.look.result made.found made.word is))
