-- What new ports are of.
use Rattle.std.proofs.Common.{◌≡◌, ℕ, ◌+◌, List, [], ◌∷◌, ◌++◌, length, arith, sym, ◌∙◌, subst}
use Rattle.std.proofs.Common.{Result, Ok, Err, IfOk}
use Rattle.lk_port.proofs.Names.{Kind, Domain, Port}
use Rattle.lk_names.specs.declared.names.Mode.{Mode}
use Rattle.lk_domain.proofs.seats.Openings.{each_more}
use Rattle.lk_port.specs.Asking.{cpu_in, domain_in}
use Rattle.lk_port.specs.Opened.{AreOpened, ArePortsOf, IsPlanFor, IsPortOf}

-- The processor that was the last one dealt is the next port.
pub ports_more : (domain : Domain) (n m : ℕ) (ps qs : List Port) (p : Port) → qs ≡ ps ++ p ∷ [] → ArePortsOf domain n ps
    → domain_in p ≡ domain → (cpu_in p).number ≡ m → m + 1 + length ps ≡ n → ArePortsOf domain n qs
ports_more domain n m ps qs p is h of number many =
    subst (ArePortsOf domain n) (sym is)
    (each_more (IsPortOf domain n) ps p h (record { of = of; cpu = omega (arith, number, many) }))

-- They are ports of a domain that was asked for.
pub opens : {A B : Type 0} (m : Mode) (kinds : List Kind) (places : List ℕ) (bound : ℕ) (domain d : Domain) (n : ℕ) (ports : A → List Port) (r : Result A B)
    → IsPlanFor m kinds places bound domain.plan → d ≡ domain → n ≡ length places → IfOk r (λ x. length (ports x) ≡ n)
    → IfOk r (λ x. ArePortsOf d n (ports x)) → IfOk r (λ x. AreOpened m kinds places bound (ports x))
opens m kinds places bound domain d n ports (Ok x) plan same long many each =
    record {
      domain = domain;
      plan = plan;
      many = many ∙ long;
      each = subst (λ (k : ℕ). ArePortsOf domain k (ports x)) long (subst (λ (e : Domain). ArePortsOf e n (ports x)) same each);
    }
opens m kinds places bound domain d n ports (Err e) plan same long many each = tt
