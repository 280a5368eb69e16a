use Rattle.std.proofs.Common.{◌≡◌, Some, refl, sym, ◌∙◌, subst}
use Rattle.lk_names.specs.declared.holder.Manner.TheVariants.{Reads}
use Rattle.lk_rows.specs.declared.setup.Verb.TheVariants.{TryRead}
use Rattle.lk_port.specs.Ports.{EntersAtOnce}
use Rattle.lk_port.specs.declared.port.Port.{Port}
use Rattle.qlock_c.proofs.read.qlock_try_read.Goals as goal

pub returns : goal.returns
returns c ok p has =
    let is : Some c.port_mut-port.result.now ≡ Some p = sym c.port_mut-port.ensures.value ∙ has in
    let same : c.port_mut-port.result.now ≡ p = cc is in
    let new = c.try_read.new.self in
    (new, refl, subst (λ (q : Port). EntersAtOnce TryRead Reads c.args.lock q new) same (c.try_read.ensures.taken (c.code.ensures ok)))
