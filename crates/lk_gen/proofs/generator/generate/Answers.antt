use Rattle.std.proofs.Common.{◌∙◌, ◌++◌, ap, sym, refl}
use Rattle.std.proofs.lemmas.Result.{err_from_is_err_and}
use Rattle.lk_gen.specs.Writes.{text_left}
use Rattle.lk_gen.proofs.Puts.{puts_more, puts_all, puts_cut}
use Rattle.lk_gen.proofs.generator.generate.Goals as goal

pub returns-in_err-put-clause-err : goal.returns-in_err-put-clause-err
returns-in_err-put-clause-err g c =
    let p = err_from_is_err_and c.from_residual.result c.from_residual.ensures.1 in
    let is = c.in-Some.ensures.text ∙ ap (λ t. t ++ text_left c.in-Some.behind) (sym c.bytes.ensures.text) in
    rw p.1 (puts_cut _ _ _ _ _ _ _ _ _ c.bytes.result.now (text_left c.in-Some.behind) c.pages.invariant.puts is c.in_err-put.ensures.err)

pub pages-preserved : goal.pages-preserved
pages-preserved g c =
    let is = c.in-Some.ensures.text ∙ ap (λ t. t ++ text_left c.in-Some.behind) (sym c.bytes.ensures.text) in record {
      puts = puts_more _ _ _ _ _ _ _ _ _ _ _ c.bytes.result.now (text_left c.in-Some.behind) c.pages.invariant.puts is
          c.in_ok-put.ensures.ok c.put.ensures.cause.later c.in_ok-put.ensures.sure;
    }

pub returns-clause-ok : goal.returns-clause-ok
returns-clause-ok g c = puts_all _ _ _ _ _ _ _ _ c.pages.invariant.puts (c.in_default.ensures.none refl)
