use Rattle.std.proofs.Common.{refl, eqb, inr, length}
use Rattle.lk_run.proofs.Names.{Wr3, Wr4, Write, watches_at, calls_of}
use Rattle.lk_run.proofs.RwPlaces.{empty_by, full_by}
use Rattle.lk_run.proofs.RwSteps as rw
use Rattle.lk_run.proofs.RwRows as row
use Rattle.lk_run.proofs.RwCalling as on
use Rattle.lk_run.proofs.call.Writer.look.Goals as goal

pub look-requires-clause-row : goal.look-requires-clause-row
look-requires-clause-row c =
    inr (record {
      plain = c.args.self.now.plain;
      acts = on.acts c.requires (watches_at (eqb (length (calls_of c.args.cpu.now).frames) 1) Write)
          (rw.watches_Wr2 (eqb (length (calls_of c.args.cpu.now).frames) 1));
    })

pub returns-clause-empty : goal.returns-clause-empty
returns-clause-empty c is =
    let made = (c.look.ensures.shared (record {
      plain = c.args.self.now.plain;
      acts = on.acts c.requires (watches_at (eqb (length (calls_of c.args.cpu.now).frames) 1) Write)
          (rw.watches_Wr2 (eqb (length (calls_of c.args.cpu.now).frames) 1));
    })).by in
    on.steps c.requires c.look.ensures.rest refl made Wr3 (λ e. cc e)
    (λ f. row.look_sees _ _ f made.found (empty_by c.look.result made.found made.word is))

pub returns-clause-others : goal.returns-clause-others
returns-clause-others c is =
    let made = (c.look.ensures.shared (record {
      plain = c.args.self.now.plain;
      acts = on.acts c.requires (watches_at (eqb (length (calls_of c.args.cpu.now).frames) 1) Write)
          (rw.watches_Wr2 (eqb (length (calls_of c.args.cpu.now).frames) 1));
    })).by in
    on.steps c.requires c.look.ensures.rest refl made Wr4 (λ e. cc e)
    (λ f. row.look_misses _ _ f made.found (full_by c.look.result made.found made.word is))
