use Rattle.std.proofs.Common.{◌≡◌, Some, refl, sym, ◌∙◌, subst}
use Rattle.lk_rows.specs.declared.parts.Pc.TheVariants.{Z1}
use Rattle.lk_port.specs.Ports.{Leaves}
use Rattle.lk_port.specs.declared.port.Port.{Port}
use Rattle.qlock_c.proofs.read.qlock_read_unlock.Goals as goal

pub returns : goal.returns
returns c ok p has =
    let is : Some c.port_mut-port.result.now ≡ Some p = sym c.port_mut-port.ensures.value ∙ has in
    let same : c.port_mut-port.result.now ≡ p = cc is in
    let new = c.read_unlock.new.self in
    (new, refl, subst (λ (q : Port). Leaves Z1 c.args.lock q new) same (c.read_unlock.ensures.left (c.code.ensures ok)))
