-- A list of entries as a finite map.
use Rattle.std.proofs.Common.{◌≡◌, ◌≢◌, ℕ, suc, ◌<◌, List, [], ◌∷◌, length, Some, None, arith, ap, refl, sym, inl, inr}
use Rattle.std.proofs.lemmas.Bool.{cases_eq, cases_lt, cases_order, lt-ltb, le-ltb, eq-eqb, ne_eqb}
use Rattle.lk_hash.specs.Entries.{Entry, node_in, with_entry, without_entry}

-- a lock that was entered has its node
pub node-with_same : (l n : ℕ) (es : List Entry) → node_in l es ≡ None → node_in l (with_entry l n es) ≡ Some n
node-with_same l n [] absent = rw (eq-eqb l l refl) refl
node-with_same l n (e ∷ es) absent =
    elim (cases_lt l e.0) [
      | inl lt ↦ rw (lt-ltb l e.0 lt, eq-eqb l l refl) refl
      | inr ge ↦ elim (cases_eq e.0 l) [
        | inl same ↦ let found = rw (eq-eqb e.0 l same) at absent in absurd cc
        | inr other ↦
            let rest = rw (ne_eqb e.0 l other) at absent in
            rw (le-ltb l e.0 ge, ne_eqb e.0 l other) (node-with_same l n es rest)
      ]
    ]

-- and the others have theirs
pub node-with_other : (k l n : ℕ) (es : List Entry) → l ≢ k → node_in k (with_entry l n es) ≡ node_in k es
node-with_other k l n [] ne = rw (ne_eqb l k ne) refl
node-with_other k l n (e ∷ es) ne =
    elim (cases_lt l e.0) [
      | inl lt ↦ rw (lt-ltb l e.0 lt, ne_eqb l k ne) refl
      | inr ge ↦ elim (cases_eq e.0 k) [
        | inl same ↦ rw (le-ltb l e.0 ge, eq-eqb e.0 k same) refl
        | inr other ↦ rw (le-ltb l e.0 ge, ne_eqb e.0 k other) (node-with_other k l n es ne)
      ]
    ]

-- two locks may be entered in either order
swap_below : (k m l n : ℕ) (es : List Entry) → k < l → with_entry k m (with_entry l n es) ≡ with_entry l n (with_entry k m es)
swap_below k m l n [] lt = rw (lt-ltb k l lt, le-ltb l k (omega arith)) refl
swap_below k m l n (e ∷ es) lt =
    elim (cases_lt l e.0) [
      | inl low ↦
          rw (lt-ltb l e.0 low, lt-ltb k e.0 (omega arith), lt-ltb k l lt, le-ltb l k (omega arith), lt-ltb l e.0 low) refl
      | inr high ↦ elim (cases_lt k e.0) [
        | inl low ↦
            rw (le-ltb l e.0 high, lt-ltb k e.0 low, le-ltb l k (omega arith), le-ltb l e.0 high) refl
        | inr above ↦
            rw (le-ltb l e.0 high, le-ltb k e.0 above, le-ltb l e.0 high)
            (ap (λ xs. e ∷ xs) (swap_below k m l n es lt))
      ]
    ]

pub with-swap : (k m l n : ℕ) (es : List Entry) → k ≢ l → with_entry k m (with_entry l n es) ≡ with_entry l n (with_entry k m es)
with-swap k m l n es ne =
    elim (cases_order k l) [
      | inl same ↦ absurd (ne same)
      | inr apart ↦ elim apart [
        | inl lt ↦ swap_below k m l n es lt
        | inr gt ↦ sym (swap_below l n k m es gt)
      ]
    ]

-- a lock that is not entered has no entry to take out
pub without-absent : (l : ℕ) (es : List Entry) → node_in l es ≡ None → without_entry l es ≡ es
without-absent l [] absent = refl
without-absent l (e ∷ es) absent =
    elim (cases_eq e.0 l) [
      | inl same ↦ let found = rw (eq-eqb e.0 l same) at absent in absurd cc
      | inr other ↦
          let rest = rw (ne_eqb e.0 l other) at absent in
          rw (ne_eqb e.0 l other) (ap (λ xs. e ∷ xs) (without-absent l es rest))
    ]

-- what was entered is taken out
pub without-with : (l n : ℕ) (es : List Entry) → node_in l es ≡ None → without_entry l (with_entry l n es) ≡ es
without-with l n [] absent = rw (eq-eqb l l refl) refl
without-with l n (e ∷ es) absent =
    elim (cases_eq e.0 l) [
      | inl same ↦ let found = rw (eq-eqb e.0 l same) at absent in absurd cc
      | inr other ↦
          let rest = rw (ne_eqb e.0 l other) at absent in
          elim (cases_lt l e.0) [
            | inl lt ↦
                rw (lt-ltb l e.0 lt, eq-eqb l l refl, ne_eqb e.0 l other)
                (ap (λ xs. e ∷ xs) (without-absent l es rest))
            | inr ge ↦
                rw (le-ltb l e.0 ge, ne_eqb e.0 l other)
                (ap (λ xs. e ∷ xs) (without-with l n es rest))
          ]
    ]

-- there is one entry more
pub length-with : (l n : ℕ) (es : List Entry) → length (with_entry l n es) ≡ suc (length es)
length-with l n [] = refl
length-with l n (e ∷ es) =
    elim (cases_lt l e.0) [
      | inl lt ↦ rw (lt-ltb l e.0 lt) refl
      | inr ge ↦ rw (le-ltb l e.0 ge) (ap suc (length-with l n es))
    ]

pub length_with : (l n : ℕ) (es : List Entry) → length (with_entry l n es) ≡ suc (length es)
length_with l n es = length-with l n es

pub ruleset lengths = (length_with)
