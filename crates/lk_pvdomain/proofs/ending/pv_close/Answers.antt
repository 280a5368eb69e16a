use Rattle.std.proofs.Common.{◌≡◌, ◌∙◌, Err, sym, ap}
use Rattle.std.specs.declared.result.Result.{Result}
use Rattle.lk_domain.specs.declared.ending.Closed.{Closed}
use Rattle.lk_pvdomain.proofs.PvSeating.{one_domain}
use Rattle.lk_pvdomain.specs.declared.ending.PvBack.{PvBack}
use Rattle.lk_pvdomain.proofs.ending.pv_close.Goals as goal

same_back : {x y : PvBack} → ◌≡◌ {A = Result Closed PvBack} (Err x) (Err y) → x ≡ y
same_back e = cc e

pub returns-in-Err-clause-back : goal.returns-in-Err-clause-back
returns-in-Err-clause-back c b e =
    let back = c.close.ensures.back c.in-Err.field-0 c.in-Err.is in
    let is = sym (same_back e) in (
      ap (λ (x : PvBack). x.domain) is ∙ one_domain _ c.args.domain back.0,
      ap (λ (x : PvBack). x.cpus) is ∙ back.1,
    )
