-- Processors that are alike.
use Rattle.std.proofs.Common.{◌≡◌, ◌<◌, ◌≤◌, ◌-◌, ℕ, suc, Bool, true, false, List, [], ◌∷◌, get_or}
use Rattle.std.proofs.Common.{slice_get, Some, length, ap, refl, sym, ◌∙◌, subst, arith, inl, inr}
use Rattle.std.proofs.Common.{◌==◌, if◌then◌else◌}
use Rattle.std.proofs.{lemmas.Bool.{le-ltb, lt-ltb}, lemmas.List.get_or_past}
use Rattle.lk_reach.proofs.Names.{cases_lt, slice_get-get_or, slice_get_within, ListOf, Op, Setup}
use Rattle.lk_reach.proofs.Names.{IsPeer}
use Rattle.lk_rows.specs.Programs.{handlers_of, program_at}
use Rattle.lk_reach.proofs.Kept.{one_value}
use Rattle.lk_reach.specs.Peers.{AreFirsts, HasSameHandlers, number_of}

-- lists of the same items
pub same_list : {A : Type 0} (xs ys : List A) → length xs ≡ length ys
    → ((i : ℕ) → i < length xs → slice_get xs i ≡ slice_get ys i) → xs ≡ ys
same_list [] [] size same = refl
same_list [] (y ∷ ys) size same = absurd (omega (arith, size))
same_list (x ∷ xs) [] size same = absurd (omega (arith, size))
same_list {A} (x ∷ xs) (y ∷ ys) size same =
    let first : x ≡ y = one (same 0 (omega arith)) in
    (λ i. first i ∷ same_list xs ys (omega (arith, size)) (λ k low. same (suc k) (omega (arith, low))) i)
  where
    one : Some x ≡ Some y → x ≡ y
    one e = cc

abbrev pub no_program : ListOf Op
no_program = record { items = []; room = 0 }

abbrev pub no_programs : ListOf (ListOf Op)
no_programs = record { items = []; room = 0 }

same_programs : (xs ys : List (ListOf Op)) → HasSameHandlers xs ys → (i : ℕ)
    → (get_or xs i no_program).items ≡ (get_or ys i no_program).items
same_programs xs ys same i =
    let count = same.count in
    elim (cases_lt i (length xs)) [
      | inl low ↦ same.each i (get_or xs i no_program) (get_or ys i no_program) (slice_get-get_or xs i no_program low)
          (slice_get-get_or ys i no_program (omega (arith, low, count)))
      | inr high ↦ ap (λ (x : ListOf Op). x.items)
          (get_or_past xs i no_program high ∙ sym (get_or_past ys i no_program (omega (arith, high, count))))
    ]

either : (b : Bool) (x u y v : List Op) → x ≡ u → y ≡ v → (if b then x else y) ≡ (if b then u else v)
either true x u y v one other = one
either false x u y v one other = other

pub peers_are : (setup : Setup) (p q : ℕ)
    → (get_or setup.progs.items p no_program).items ≡ (get_or setup.progs.items q no_program).items
    → HasSameHandlers (get_or setup.irqs.items p no_programs).items (get_or setup.irqs.items q no_programs).items
    → get_or setup.topology.sockets.items p 0 ≡ get_or setup.topology.sockets.items q 0 → IsPeer setup p q
unfolding program_at handlers_of
peers_are setup p q task handlers sockets = record { programs = programs; handlers = handlers.count; sockets = sockets }
  where
    programs : (h : ℕ) → program_at setup p h ≡ program_at setup q h
    programs h =
        either (h == 0) _ _ _ _ task
        (same_programs (get_or setup.irqs.items p no_programs).items (get_or setup.irqs.items q no_programs).items handlers (h - 1))

-- what stands there
pub got_or : {A : Type 0} (xs : List A) (i : ℕ) (x d : A) → slice_get xs i ≡ Some x → get_or xs i d ≡ x
got_or xs i x d e = one_value (slice_get xs i) (get_or xs i d) x (slice_get-get_or xs i d (slice_get_within xs i x e)) e

pub peer_self : (setup : Setup) (p : ℕ) → IsPeer setup p p
peer_self setup p = record { programs = λ h. refl; handlers = refl; sockets = refl }

-- the number of one that is among them, and who is not has its own
pub number_low : (xs : List ℕ) (p : ℕ) → p < 8 → number_of xs p ≡ get_or xs p p
number_low xs p low = ap (λ b. if b then get_or xs p p else p) (lt-ltb p 8 low)

pub number_past : (xs : List ℕ) (p : ℕ) → 8 ≤ p → number_of xs p ≡ p
number_past xs p high = ap (λ b. if b then get_or xs p p else p) (le-ltb p 8 high)

-- so it is like itself
pub first_all : (setup : Setup) (xs : List ℕ) → ((p : ℕ) → p < 8 → IsPeer setup (get_or xs p p) p) → AreFirsts setup xs
first_all setup xs each p = elim (cases_lt p 8) [
  | inl low ↦ subst (λ (k : ℕ). IsPeer setup k p) (sym (number_low xs p low)) (each p low)
  | inr high ↦ subst (λ (k : ℕ). IsPeer setup k p) (sym (number_past xs p high)) (peer_self setup p)
]
