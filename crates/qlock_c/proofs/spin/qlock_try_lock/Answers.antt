use Rattle.std.proofs.Common.{◌≡◌, Some, refl, sym, ◌∙◌, subst}
use Rattle.lk_port.specs.Ports.{Tries}
use Rattle.lk_port.specs.declared.port.Port.{Port}
use Rattle.qlock_c.proofs.spin.qlock_try_lock.Goals as goal

pub returns : goal.returns
returns c ok p has =
    let is : Some c.port_mut-port.result.now ≡ Some p = sym c.port_mut-port.ensures.value ∙ has in
    let same : c.port_mut-port.result.now ≡ p = cc is in
    let new = c.try_lock.new.self in
    (new, refl, subst (λ (q : Port). Tries c.args.lock q new) same (c.try_lock.ensures.taken (c.code.ensures ok)))
