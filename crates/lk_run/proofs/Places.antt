-- Where a row may lead, and what the number of a word says.
use Rattle.std.proofs.Common.{◌≡◌, ◌≢◌, ◌⊎◌, inl, inr, ℕ, ◌-◌, ◌/◌, ◌%◌, ◌<◌, ◌≤◌, Option, IfSome}
use Rattle.std.proofs.Common.{arith, Some, None, Bool, true, false, eq-eqb, ne_eqb, refl, sym, ap}
use Rattle.std.proofs.Common.{subst, ◌∙◌, if◌then◌else◌, ◌&&◌, not, is_some}
use Rattle.lk_run.proofs.Names.{Fields, NodeName, Mode, Cna, Native, Pv, Virt, Flag, Go, Second}
use Rattle.lk_run.proofs.Names.{Unset, Pc, F1, G1, G7, G8, G9, P0, P1, P2, P3, P4, V1, Verb}
use Rattle.lk_run.proofs.Names.{after_fast, after_pending, is_unlocked, to_queue, IsFlagNode, IsOf}
use Rattle.lk_run.proofs.Names.{IsNode, Cpu, Domain, Plan}
use Rattle.lk_word.specs.{SpinWord.{packed, IsPackable}, declared.spin_word.Layout.Layout}
use Rattle.lk_rows.specs.rows.Spin.{is_free}
use Rattle.lk_domain.specs.{Plans.{cpus_of, layout_in}, Seats.Made}
use Rattle.lk_domain.specs.{Words.{flag_number, name_number}, declared.plan.TheConstants.MOST_CPUS}
use Rattle.lk_domain.proofs.Ways as seat

-- the word that a step met, by the plan of the domain
pub record IsMet (domain : Domain) (met : ℕ) (found : Fields) : Type 0 where
  pub packs : IsPackable (layout_in domain.plan) found
  pub word : met ≡ packed (layout_in domain.plan) found

pub met_by : (domain : Domain) (cpu new : Cpu) {v : Verb} {l met : ℕ} → IsOf cpu domain
    → (made : Made v l cpu met new) → IsMet domain met made.by.found
met_by domain cpu new near made =
    record {
      packs = subst (λ (k : Plan). IsPackable (layout_in k) made.by.found) near.plan made.by.packs;
      word = made.by.word ∙ ap (λ (k : Plan). packed (layout_in k) made.by.found) near.plan;
    }

pub free_by : (layout : Layout) (n : ℕ) (y : Fields) → n ≡ packed layout y → n ≡ 0 → is_free y ≡ true
free_by layout n y is h = seat.is_zero layout n y is (eq-eqb n 0 h)

pub held_by : (layout : Layout) (n : ℕ) (y : Fields) → n ≡ packed layout y → n ≢ 0 → is_free y ≡ false
held_by layout n y is h = seat.not_zero layout n y is (ne_eqb n 0 h)

pub queue_place : (y : Fields) → (to_queue y ≡ P1) ⊎ (to_queue y ≡ G1)
queue_place y = by y.pending (is_some y.tail)
  where
    by : (a b : Bool) → ((if a then G1 else (if b then G1 else P1)) ≡ P1) ⊎ ((if a then G1 else (if b then G1 else P1)) ≡ G1)
    by true b = inr refl
    by false true = inr refl
    by false false = inl refl

pub pend_place : (y : Fields) → (after_pending y ≡ P2) ⊎ (after_pending y ≡ P3) ⊎ (after_pending y ≡ P4) ⊎ (after_pending y ≡ G1)
pend_place y = by y.pending (is_some y.tail) (is_unlocked y.locked)
  where
    place : Bool → Bool → Bool → Pc
    place a b c = if a then G1 else (if b then P2 else (if c then P4 else P3))

    by : (a b c : Bool) → (place a b c ≡ P2) ⊎ (place a b c ≡ P3) ⊎ (place a b c ≡ P4) ⊎ (place a b c ≡ G1)
    by true b c = inr (inr (inr refl))
    by false true c = inl refl
    by false false true = inr (inr (inl refl))
    by false false false = inr (inl refl)

pub front_place : (b t : Bool) → ((if b then (if t then G8 else G9) else G7) ≡ G7)
    ⊎ ((if b then (if t then G8 else G9) else G7) ≡ G8) ⊎ ((if b then (if t then G8 else G9) else G7) ≡ G9)
front_place true true = inr (inl refl)
front_place true false = inr (inr refl)
front_place false t = inl refl

pub fast_place : (mode : Mode) (y : Fields) → (after_fast mode y ≡ V1) ⊎ (after_fast mode y ≡ P0) ⊎ (after_fast mode y ≡ P1) ⊎ (after_fast mode y ≡ G1)
fast_place mode y = by mode
  where
    queue : (to_queue y ≡ V1) ⊎ (to_queue y ≡ P0) ⊎ (to_queue y ≡ P1) ⊎ (to_queue y ≡ G1)
    queue = elim (queue_place y) [ inl e ↦ inr (inr (inl e)) | inr e ↦ inr (inr (inr e)) ]

    either : (b : Bool) → ((if b then P0 else to_queue y) ≡ V1) ⊎ ((if b then P0 else to_queue y) ≡ P0)
        ⊎ ((if b then P0 else to_queue y) ≡ P1) ⊎ ((if b then P0 else to_queue y) ≡ G1)
    either true = inr (inl refl)
    either false = queue

    by : (m : Mode) → (after_fast m y ≡ V1) ⊎ (after_fast m y ≡ P0) ⊎ (after_fast m y ≡ P1) ⊎ (after_fast m y ≡ G1)
    by Virt = inl refl
    by Native = either (is_unlocked y.locked && y.pending && not (is_some y.tail))
    by Cna = either (is_unlocked y.locked && y.pending && not (is_some y.tail))
    by Pv = inr (inr (inr refl))

-- none of these is the place that it comes from

pub queue_else : (y : Fields) → to_queue y ≡ P0 → ⊥
queue_else y e =
    elim (queue_place y) [ inl h ↦ (let z : P1 ≡ P0 = sym h ∙ e in cc z) | inr h ↦ (let z : G1 ≡ P0 = sym h ∙ e in cc z) ]

pub pend_else : (y : Fields) → after_pending y ≡ P1 → ⊥
pend_else y e =
    elim (pend_place y) [
      | inl h ↦ (let z : P2 ≡ P1 = sym h ∙ e in cc z)
      | inr (inl h) ↦ (let z : P3 ≡ P1 = sym h ∙ e in cc z)
      | inr (inr (inl h)) ↦ (let z : P4 ≡ P1 = sym h ∙ e in cc z)
      | inr (inr (inr h)) ↦ (let z : G1 ≡ P1 = sym h ∙ e in cc z)
    ]

pub not_fast : (mode : Mode) (y : Fields) → after_fast mode y ≡ F1 → ⊥
not_fast mode y e =
    elim (fast_place mode y) [
      | inl h ↦ (let z : V1 ≡ F1 = sym h ∙ e in cc z)
      | inr (inl h) ↦ (let z : P0 ≡ F1 = sym h ∙ e in cc z)
      | inr (inr (inl h)) ↦ (let z : P1 ≡ F1 = sym h ∙ e in cc z)
      | inr (inr (inr h)) ↦ (let z : G1 ≡ F1 = sym h ∙ e in cc z)
    ]

pub name_low : (k : Plan) (n : NodeName) → cpus_of k ≤ MOST_CPUS → IsNode k n → name_number n < 4294967296
name_low k n few node = let a = node.cpu in let b = node.index in omega (arith, few, a, b)

pub each_some : {A : Type 0} (P : A → Type 0) (o : Option A) → ((x : A) → o ≡ Some x → P x) → IfSome o P
each_some P None f = tt
each_some P (Some x) f = f x refl

-- the last of these places, where it is none of the others

pub last_of_two : {a b : Pc} (q : Pc) → (q ≡ a) ⊎ (q ≡ b) → (q ≡ a → ⊥) → q ≡ b
last_of_two q (inl e) ne = absurd (ne e)
last_of_two q (inr e) ne = e

pub first_of_three : {a b c : Pc} (q : Pc) → (q ≡ a) ⊎ (q ≡ b) ⊎ (q ≡ c) → (q ≡ b → ⊥) → (q ≡ c → ⊥) → q ≡ a
first_of_three q (inl e) nb nc = e
first_of_three q (inr (inl e)) nb nc = absurd (nb e)
first_of_three q (inr (inr e)) nb nc = absurd (nc e)

pub last_of_four : {a b c e : Pc} (q : Pc) → (q ≡ a) ⊎ (q ≡ b) ⊎ (q ≡ c) ⊎ (q ≡ e) → (q ≡ a → ⊥) → (q ≡ b → ⊥) → (q ≡ c → ⊥) → q ≡ e
last_of_four q (inl h) na nb nc = absurd (na h)
last_of_four q (inr (inl h)) na nb nc = absurd (nb h)
last_of_four q (inr (inr (inl h))) na nb nc = absurd (nc h)
last_of_four q (inr (inr (inr h))) na nb nc = h

-- what a flag says

pub unset_flag : (k : Plan) (n : ℕ) (x : Flag) → IsFlagNode k x → n ≡ flag_number x → n ≡ 0 → x ≡ Unset
unset_flag k n Unset h e z = refl
unset_flag k n Go h e z = absurd (omega (arith, e, z))
unset_flag k n (Second m) h e z = absurd (omega (arith, e, z))

pub go_flag : (k : Plan) (n : ℕ) (x : Flag) → IsFlagNode k x → n ≡ flag_number x → n ≡ 1 → x ≡ Go
go_flag k n Unset h e z = absurd (omega (arith, e, z))
go_flag k n Go h e z = refl
go_flag k n (Second m) h e z = absurd (omega (arith, e, z))

pub second_flag : (k : Plan) (n : ℕ) (x : Flag) → IsFlagNode k x → n ≡ flag_number x → n ≢ 0 → n ≢ 1
    → Second (record { cpu = (n - 2) / 4; index = (n - 2) % 4 }) ≡ x
second_flag k n Unset h e z y = absurd (z e)
second_flag k n Go h e z y = absurd (y e)
second_flag k n (Second m) h e z y =
    let low = h.index in
    let c : (n - 2) / 4 ≡ m.cpu = omega (arith, e, low) in
    let i : (n - 2) % 4 ≡ m.index = omega (arith, e, low) in
    λ j. Second (record { cpu = c j; index = i j })

pub small_flag : (k : Plan) (n : ℕ) (x : Flag) → IsFlagNode k x → n ≡ flag_number x → cpus_of k ≤ MOST_CPUS → n < 4098
small_flag k n Unset h e few = omega (arith, e)
small_flag k n Go h e few = omega (arith, e)
small_flag k n (Second m) h e few = let a = h.cpu in let b = h.index in omega (arith, e, few, a, b)

-- what the name of a node says

pub node_named : (k : Plan) (n : ℕ) (m : NodeName) → IsNode k m → n ≡ name_number m
    → record { cpu = (n - 2) / 4; index = (n - 2) % 4 } ≡ m
node_named k n m h e =
    let low = h.index in
    let c : (n - 2) / 4 ≡ m.cpu = omega (arith, e, low) in
    let i : (n - 2) % 4 ≡ m.index = omega (arith, e, low) in
    λ j. record { cpu = c j; index = i j }

pub small_name : (k : Plan) (n : ℕ) (m : NodeName) → IsNode k m → n ≡ name_number m → cpus_of k ≤ MOST_CPUS → n < 4098
small_name k n m h e few = let a = h.cpu in let b = h.index in omega (arith, e, few, a, b)
