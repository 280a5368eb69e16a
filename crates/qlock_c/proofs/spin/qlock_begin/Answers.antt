use Rattle.std.proofs.Common.{◌≡◌, Some, refl, sym, ◌∙◌, subst}
use Rattle.lk_port.specs.Ports.{Locks}
use Rattle.lk_port.specs.declared.port.Port.{Port}
use Rattle.qlock_c.proofs.spin.qlock_begin.Goals as goal

pub returns : goal.returns
returns c ok p has =
    let is : Some c.port_mut.result.now ≡ Some p = sym c.port_mut.ensures.value ∙ has in
    let same : c.port_mut.result.now ≡ p = cc is in
    let new = c.begins.new.port in
    (new, refl, subst (λ (q : Port). Locks c.args.lock q new) same (c.begins.ensures ok))
