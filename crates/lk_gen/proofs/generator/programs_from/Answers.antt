use Rattle.std.proofs.Common.{◌∙◌, ◌++◌, ◌+◌, ap, sym, arith}
use Rattle.lk_gen.specs.Writes.{text_left}
use Rattle.lk_gen.specs.declared.generator.Left.TheVariants.{Programs, Steps}
use Rattle.lk_gen.proofs.Written.{behind_program, behind_programs}
use Rattle.lk_gen.proofs.generator.programs_from.Goals as goal

pub returns-then-processor-ge-CPUS-clause-text : goal.returns-then-processor-ge-CPUS-clause-text
returns-then-processor-ge-CPUS-clause-text c =
    behind_programs c.args.processor c.args.draw (omega (arith, c.if-processor-ge-CPUS.true))
    ∙ ap (λ t. t ++ text_left (Steps 250 c.args.draw)) (sym c.page_of.ensures)

pub returns-clause-text : goal.returns-clause-text
returns-clause-text c =
    let next = c.program_page-draw.result.1 in
    behind_program c.args.processor c.args.draw next c.if-processor-ge-CPUS.false c.program_page-draw.ensures.draw
    ∙ ap (λ t. t ++ text_left (Programs (c.args.processor + 1) next)) (sym c.program_page-draw.ensures.text)
