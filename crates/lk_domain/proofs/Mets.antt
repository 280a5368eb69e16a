-- What the number of a link that a step met says.
use Rattle.std.proofs.Common.{◌≡◌, inl, inr, ℕ, ◌+◌, ◌-◌, ◌/◌, ◌%◌, ◌<◌, ◌≤◌, Option, IfSome, arith}
use Rattle.std.proofs.Common.{Some, None, Bool, true, false, eq-eqb, ne_eqb, refl, sym, ap, ◌∙◌}
use Rattle.std.proofs.Common.{eqb}
use Rattle.lk_domain.proofs.Names.{cases_eq, NodeName, if-false, if-true, cpus_of, IsNode}
use Rattle.lk_domain.proofs.Names.{link_number, marked, Plan}
use Rattle.lk_domain.specs.declared.plan.TheConstants.{MOST_CPUS}

-- a link but for its mark
marked_rest : (b : Bool) (i : ℕ) → i < 4294967296 → marked b i % 4294967296 ≡ i
marked_rest false i h = omega (arith, h)
marked_rest true i h =
    elim (cases_eq i 0) [
      | inl e ↦ ap (λ n. n % 4294967296) (if-true (eqb i 0) 0 (4294967296 + i) (eq-eqb i 0 e)) ∙ sym e
      | inr ne ↦ ap (λ n. n % 4294967296) (if-false (eqb i 0) 0 (4294967296 + i) (ne_eqb i 0 ne)) ∙ (let z : (4294967296 + i) % 4294967296 ≡ i = omega (arith, h) in z)
    ]

-- what a link names

pub no_link : (n : ℕ) (x : Option NodeName) → n ≡ link_number x → n < 2 → x ≡ None
no_link n None e h = refl
no_link n (Some m) e h = absurd (omega (arith, e, h))

pub some_link : (k : Plan) (n : ℕ) (x : Option NodeName) → IfSome x (IsNode k) → n ≡ link_number x → 2 ≤ n
    → Some (record { cpu = (n - 2) / 4; index = (n - 2) % 4 }) ≡ x
some_link k n None node e h = absurd (omega (arith, e, h))
some_link k n (Some m) node e h =
    let low = node.index in
    let c : (n - 2) / 4 ≡ m.cpu = omega (arith, e, h, low) in
    let i : (n - 2) % 4 ≡ m.index = omega (arith, e, h, low) in
    λ j. Some (record { cpu = c j; index = i j })

pub small_link : (k : Plan) (n : ℕ) (x : Option NodeName) → IfSome x (IsNode k) → n ≡ link_number x → cpus_of k ≤ MOST_CPUS → n < 4098
small_link k n None node e h = omega (arith, e)
small_link k n (Some m) node e h = let a = node.cpu in let b = node.index in omega (arith, e, h, a, b)

pub name_is : (k : Plan) (met : ℕ) (mark : Bool) (x : Option NodeName) → IfSome x (IsNode k) → met ≡ marked mark (link_number x)
    → cpus_of k ≤ MOST_CPUS → met % 4294967296 ≡ link_number x
name_is k met mark x node is few =
    ap (λ n. n % 4294967296) is
    ∙ marked_rest mark (link_number x) (let s = small_link k (link_number x) x node refl few in omega (arith, s))
