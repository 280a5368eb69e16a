use Rattle.std.proofs.Common.{◌≡◌, ℕ, List, length, refl, sym, ap, ◌∙◌, subst}
use Rattle.lk_names.specs.ListOf.{ListOf}
use Rattle.lk_names.specs.declared.names.Kind.{Kind}
use Rattle.lk_port.specs.Opened.{ArePortsOf, IsPlanFor, mode_of}
use Rattle.qlock_c.proofs.opening.open_empty.Goals as goal

pub returns-then-put_all-clause-opened : goal.returns-then-put_all-clause-opened
returns-then-put_all-clause-opened c e =
    let all = c.in-Ok-open.ensures in
    let domain = all.domain in
    let places = ap (λ (l : ListOf ℕ). l.items) c.in-Ok-from_slice.ensures in
    let m = mode_of c.args.family in
    let bound = c.args.threshold in
    let many : length c.in-Ok-from_slice.sockets.items ≡ length c.args.cpus.now = ap length places ∙ sym c.requires.many in
    record {
      domain = domain;
      plan = subst (λ (ks : List Kind). IsPlanFor m ks c.args.sockets.now bound domain.plan) c.in-Ok.ensures
          (subst (λ (ps : List ℕ). IsPlanFor m c.in-Ok.locks.items ps bound domain.plan) places all.plan);
      many = c.put_all.ensures.many ∙ c.requires.many;
      each = c.if-put_all.ensures.each refl domain (subst (λ (n : ℕ). ArePortsOf domain n c.in-Ok-open.ports.items) many all.each);
    }
