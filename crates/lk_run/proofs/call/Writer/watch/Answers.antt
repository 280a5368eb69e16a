use Rattle.std.proofs.Common.{refl, eqb, inr, length, sym, ◌∙◌}
use Rattle.lk_run.proofs.Names.{Write, watches_at, calls_of}
use Rattle.lk_rows.specs.declared.parts.Pc.TheVariants.{Wr6}
use Rattle.lk_run.proofs.RwPlaces.{cleared_by, uncleared_by}
use Rattle.lk_run.proofs.RwSteps as rw
use Rattle.lk_run.proofs.RwRows as row
use Rattle.lk_run.proofs.RwCalling as on
use Rattle.lk_run.proofs.call.Writer.watch.Goals as goal

pub look-requires-clause-row : goal.look-requires-clause-row
look-requires-clause-row c =
    inr (record {
      plain = c.args.self.now.plain;
      acts = on.acts c.requires (watches_at (eqb (length (calls_of c.args.cpu.now).frames) 1) Write)
          (rw.watches_Wr5 (eqb (length (calls_of c.args.cpu.now).frames) 1));
    })

pub returns-clause-cleared : goal.returns-clause-cleared
returns-clause-cleared c is =
    let made = (c.look.ensures.shared (record {
      plain = c.args.self.now.plain;
      acts = on.acts c.requires (watches_at (eqb (length (calls_of c.args.cpu.now).frames) 1) Write)
          (rw.watches_Wr5 (eqb (length (calls_of c.args.cpu.now).frames) 1));
    })).by in
    on.steps c.requires c.look.ensures.rest refl made Wr6 (λ e. cc e)
    (λ f. row.writer_sees _ _ f made.found (cleared_by c.look.result made.found made.word (sym c.has_only_waiting.ensures ∙ is)))

pub returns-clause-held : goal.returns-clause-held
returns-clause-held c is =
    let made = (c.look.ensures.shared (record {
      plain = c.args.self.now.plain;
      acts = on.acts c.requires (watches_at (eqb (length (calls_of c.args.cpu.now).frames) 1) Write)
          (rw.watches_Wr5 (eqb (length (calls_of c.args.cpu.now).frames) 1));
    })).by in
    on.looks c.requires c.look.ensures.rest refl made
    (λ f. row.writer_stays _ _ f made.found (uncleared_by c.look.result made.found made.word (sym c.has_only_waiting.ensures ∙ is)))
