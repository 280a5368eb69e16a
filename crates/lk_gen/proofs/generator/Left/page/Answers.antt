use Rattle.std.proofs.Common.{◌∙◌, ◌++◌, ap, sym}
use Rattle.lk_gen.specs.Writes.{text_left}
use Rattle.lk_gen.specs.declared.generator.Left.TheVariants.{Programs}
use Rattle.lk_gen.proofs.Written.{behind_head}
use Rattle.lk_gen.proofs.generator.Left.page.Goals as goal

pub returns-in-Whole-clause-text : goal.returns-in-Whole-clause-text
returns-in-Whole-clause-text c =
    ap text_left c.in-Whole.is ∙ behind_head c.in-Whole.start ∙ ap (λ t. t ++ text_left (Programs 0 c.in-Whole.start)) (sym c.page_of.ensures)
