use Rattle.std.proofs.Common.{◌≡◌, Some, refl, sym, ◌∙◌, subst}
use Rattle.lk_port.specs.Ports.{Frees}
use Rattle.lk_port.specs.declared.port.Port.{Port}
use Rattle.qlock_c.proofs.spin.qlock_unlock_kick.Goals as goal

pub returns-clause-freed : goal.returns-clause-freed
returns-clause-freed c ok p has =
    let is : Some c.port_mut.result.now ≡ Some p = sym c.port_mut.ensures.value ∙ has in
    let same : c.port_mut.result.now ≡ p = cc is in
    let new = c.tells.new.port in
    (new, refl, subst (λ (q : Port). Frees c.args.lock q new) same (c.tells.ensures.freed ok))
