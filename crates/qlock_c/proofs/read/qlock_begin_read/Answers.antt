use Rattle.std.proofs.Common.{◌≡◌, Some, refl, sym, ◌∙◌, subst}
use Rattle.lk_names.specs.declared.holder.Manner.TheVariants.{Reads}
use Rattle.lk_rows.specs.declared.setup.Verb.TheVariants.{Read}
use Rattle.lk_port.specs.Ports.{Enters}
use Rattle.lk_port.specs.declared.port.Port.{Port}
use Rattle.qlock_c.proofs.read.qlock_begin_read.Goals as goal

pub returns : goal.returns
returns c ok p has =
    let is : Some c.port_mut.result.now ≡ Some p = sym c.port_mut.ensures.value ∙ has in
    let same : c.port_mut.result.now ≡ p = cc is in
    let new = c.begins_to_read.new.port in
    (new, refl, subst (λ (q : Port). Enters Read Reads c.args.lock q new) same (c.begins_to_read.ensures ok))
