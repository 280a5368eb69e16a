use Rattle.std.proofs.Common.{◌∙◌, ◌++◌, ◌-◌, [], ap, sym, arith}
use Rattle.lk_gen.specs.Writes.{schedule_text, text_left}
use Rattle.lk_gen.specs.declared.generator.Left.TheVariants.{Steps}
use Rattle.lk_gen.proofs.Written.{behind_steps, behind_all}
use Rattle.lk_gen.proofs.generator.steps_from.Goals as goal

pub returns-then-pages-eq0-clause-text : goal.returns-then-pages-eq0-clause-text
returns-then-pages-eq0-clause-text c =
    ap (λ n. schedule_text n c.args.draw) c.if-pages-eq0.true ∙ behind_all c.args.draw ∙ ap (λ t. t ++ []) (sym c.page_of.ensures)

pub returns-clause-text : goal.returns-clause-text
returns-clause-text c =
    let next = c.steps_page-draw.result.1 in
    let some = c.if-pages-eq0.false in
    behind_steps c.args.pages c.args.draw next (omega (arith, some)) c.steps_page-draw.ensures.draw
    ∙ ap (λ t. t ++ text_left (Steps (c.args.pages - 1) next)) (sym c.steps_page-draw.ensures.text)
