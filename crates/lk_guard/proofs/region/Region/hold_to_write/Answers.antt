use Rattle.std.proofs.Common.{refl, sym, ◌∙◌, subst}
use Rattle.lk_names.specs.declared.holder.Manner.TheVariants.{Writes}
use Rattle.lk_names.specs.declared.names.Kind.{Kind}
use Rattle.lk_rows.specs.declared.setup.Verb.TheVariants.{Write}
use Rattle.lk_guard.specs.Guards.{guard_in, writes_as, writes_by}
use Rattle.lk_guard.specs.Holding.{HasBegun}
use Rattle.lk_guard.proofs.Begins.{lock_begins, entry_begins}
use Rattle.lk_guard.proofs.region.Region.hold_to_write.Goals as goal

pub returns-in-Spin-clause-begun : goal.returns-in-Spin-clause-begun
returns-in-Spin-clause-begun g c =
    let d = c.args.self.now.domain in
    let a = c.args.cpu.now in
    let b = c.lock.new.cpu in
    let before = g.I.Irq.polls c.args.irq.now in
    let after = g.I.Irq.polls c.lock.new.irq in
    subst (λ (q : Kind). HasBegun (guard_in d.plan) (writes_by q) (writes_as q) a b before after) (sym (c.args.self.now.kind ∙ c.in-Spin.is))
    (lock_begins d a b before after c.requires.idle c.lock.ensures.taken c.lock.ensures.look c.lock.ensures.polls)

pub returns-in-Rw-clause-begun : goal.returns-in-Rw-clause-begun
returns-in-Rw-clause-begun g c =
    let d = c.args.self.now.domain in
    let a = c.args.cpu.now in
    let b = c.write_lock.new.cpu in
    let before = g.I.Irq.polls c.args.irq.now in
    let after = g.I.Irq.polls c.write_lock.new.irq in
    subst (λ (q : Kind). HasBegun (guard_in d.plan) (writes_by q) (writes_as q) a b before after) (sym (c.args.self.now.kind ∙ c.in-Rw.is))
    (entry_begins d a b before after c.requires.idle Write Writes refl c.write_lock.ensures.entered)
