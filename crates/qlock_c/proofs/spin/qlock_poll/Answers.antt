use Rattle.std.proofs.Common.{◌≡◌, Some, refl, sym, ◌∙◌, subst}
use Rattle.lk_port.specs.Ports.{Ends}
use Rattle.lk_port.specs.declared.port.Port.{Port}
use Rattle.qlock_c.proofs.spin.qlock_poll.Goals as goal

pub returns : goal.returns
returns c ok p has =
    let is : Some c.port_mut-port.result.now ≡ Some p = sym c.port_mut-port.ensures.value ∙ has in
    let same : c.port_mut-port.result.now ≡ p = cc is in
    let new = c.poll.new.self in
    (new, refl, subst (λ (q : Port). Ends q new) same (c.poll.ensures.has (c.code.ensures ok)))
