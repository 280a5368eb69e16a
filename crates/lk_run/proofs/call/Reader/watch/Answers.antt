use Rattle.std.proofs.Common.{ap, refl, eqb, eq-eqb, inr, length, sym, ◌∙◌}
use Rattle.lk_run.proofs.Names.{Reads, R5, Read, watches_at, calls_of}
use Rattle.lk_run.proofs.RwPlaces.{no_writer_by, writer_by}
use Rattle.lk_run.proofs.RwRows as row
use Rattle.lk_run.proofs.RwCalling as on
use Rattle.lk_run.proofs.call.Reader.watch.Goals as goal

pub look-requires-clause-row : goal.look-requires-clause-row
look-requires-clause-row c =
    inr (record {
      plain = c.args.self.now.plain;
      acts = on.acts c.requires.waits (watches_at (eqb (length (calls_of c.args.cpu.now).frames) 1) Read)
          (ap (λ b. watches_at b Read R5) (eq-eqb (length (calls_of c.args.cpu.now).frames) 1 c.requires.alone));
    })

pub returns-clause-passed : goal.returns-clause-passed
returns-clause-passed c is =
    let made = (c.look.ensures.shared (record {
      plain = c.args.self.now.plain;
      acts = on.acts c.requires.waits (watches_at (eqb (length (calls_of c.args.cpu.now).frames) 1) Read)
          (ap (λ b. watches_at b Read R5) (eq-eqb (length (calls_of c.args.cpu.now).frames) 1 c.requires.alone));
    })).by in
    on.passes c.requires.waits c.look.ensures.rest refl made Reads
    (λ f. row.wait_enters _ _ f made.found c.requires.waits.domain.awake (no_writer_by c.look.result made.found made.word (sym c.has_no_writer.ensures ∙ is))) (λ e. cc e)

pub returns-clause-held : goal.returns-clause-held
returns-clause-held c is =
    let made = (c.look.ensures.shared (record {
      plain = c.args.self.now.plain;
      acts = on.acts c.requires.waits (watches_at (eqb (length (calls_of c.args.cpu.now).frames) 1) Read)
          (ap (λ b. watches_at b Read R5) (eq-eqb (length (calls_of c.args.cpu.now).frames) 1 c.requires.alone));
    })).by in
    on.looks c.requires.waits c.look.ensures.rest refl made
    (λ f. row.wait_stays _ _ f made.found (writer_by c.look.result made.found made.word (sym c.has_no_writer.ensures ∙ is)))
