-- The entries of one worker in a journal, with their places and without, and what stands in a list.
use Rattle.std.proofs.Common.{◌≡◌, ◌+◌, ◌<◌, ◌⊎◌, ◌==◌, ℕ, zero, suc, Bool, true, false, List, [], ◌∷◌, ◌++◌, Some, inl, inr, ⊎_elim, length, map, get_or, if◌then◌else◌, refl, sym, ap, subst, ◌∙◌, arith, eq-eqb}
use Rattle.std.specs.Prelude.{slice_get}
use Rattle.std.specs.List.{All, flat_map}
use Rattle.std.proofs.lemmas.Option.{none-some, same_Some}
use Rattle.lk_names.specs.declared.ledger.Entry.{Entry}
use Rattle.lk_names.specs.Outcome.{entries_of}
use Rattle.lk_domain.specs.Ends.{In}
use Rattle.lk_domain.specs.Places.{places_from}

-- the entry of a place
abbrev pub entry_at : ℕ × Entry → Entry
entry_at x = x.1

pub entries_are : (n p : ℕ) (js : List Entry) → map entry_at (places_from n p js) ≡ entries_of p js
entries_are n p [] = refl
entries_are n p (e ∷ es) = by_test (e.worker == p) (entries_are (n + 1) p es)
  where
    by_test : (b : Bool) → map entry_at (places_from (n + 1) p es) ≡ entries_of p es
        → map entry_at (if b then (n, e) ∷ places_from (n + 1) p es else places_from (n + 1) p es) ≡ (if b then e ∷ entries_of p es else entries_of p es)
    by_test true is = ap (λ l. e ∷ l) is
    by_test false is = is

-- an entry of the journal stands among those of its worker
pub stands : (n p k : ℕ) (js : List Entry) (e : Entry) → slice_get js k ≡ Some e → e.worker ≡ p → In (n + k, e) (places_from n p js)
stands n p k [] e is by = absurd (none-some e is)
stands n p zero (x ∷ xs) e is by =
    let same : x ≡ e = same_Some x e is in
    let here : (n + 0, e) ≡ (n, x) = λ i. ((let z : n + 0 ≡ n = omega arith in z) i, sym same i) in
    subst (λ b. In (n + 0, e) (if b then (n, x) ∷ places_from (n + 1) p xs else places_from (n + 1) p xs)) (sym (eq-eqb x.worker p (ap (λ (y : Entry). y.worker) same ∙ by))) (inl here)
stands n p (suc k) (x ∷ xs) e is by =
    by_test (x.worker == p) (subst (λ (m : ℕ). In (m, e) (places_from (n + 1) p xs)) (let z : (n + 1) + k ≡ n + suc k = omega arith in z) (stands (n + 1) p k xs e is by))
  where
    by_test : (b : Bool) → In (n + suc k, e) (places_from (n + 1) p xs) → In (n + suc k, e) (if b then (n, x) ∷ places_from (n + 1) p xs else places_from (n + 1) p xs)
    by_test true more = inr more
    by_test false more = more

module _ {A : Type 0} where
  -- what stands at a place stands in the list
  pub in_at : (xs : List A) (k : ℕ) (d : A) → k < length xs → In (get_or xs k d) xs
  in_at [] k d within = absurd (omega (arith, within))
  in_at (x ∷ xs) zero d within = inl refl
  in_at (x ∷ xs) (suc k) d within = inr (in_at xs k d (omega (arith, within)))

  pub in_get : (xs : List A) (k : ℕ) (x : A) → slice_get xs k ≡ Some x → In x xs
  in_get [] k x is = absurd (none-some x is)
  in_get (y ∷ ys) zero x is = inl (sym (same_Some y x is))
  in_get (y ∷ ys) (suc k) x is = inr (in_get ys k x is)

  -- so what holds of all that stands in it holds of each
  pub all_in : (P : A → Type 0) (xs : List A) → ((x : A) → In x xs → P x) → All P xs
  all_in P xs each k d within = each (get_or xs k d) (in_at xs k d within)

  pub in_append : (x : A) (xs ys : List A) → In x (xs ++ ys) → In x xs ⊎ In x ys
  in_append x [] ys is = inr is
  in_append x (z ∷ zs) ys is = ⊎_elim (λ e. inl (inl e)) (λ t. ⊎_elim (λ a. inl (inr a)) (λ b. inr b) (in_append x zs ys t)) is

  -- what stands in one of the lists that are put together stands in the list of one element
  pub in_flat : {B : Type 0} (f : B → List A) (ys : List B) (x : A) → In x (flat_map f ys) → (i : ℕ) × (i < length ys) × ((d : B) → In x (f (get_or ys i d)))
  in_flat f [] x is = absurd is
  in_flat f (y ∷ ys) x is = ⊎_elim
      (λ a. (0, omega arith, λ d. a))
      (λ b. let t = in_flat f ys x b in (suc t.0, omega (arith, t.1), t.2))
      (in_append x (f y) (flat_map f ys) is)
