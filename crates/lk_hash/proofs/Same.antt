-- Hashes with the same entries are the same, wherever the entries stand.
use Rattle.std.proofs.Common.{◌≡◌, ◌≢◌, ℕ, suc, ◌<◌, List, [], ◌∷◌, length, Some, None, arith, refl, sym, ◌∙◌, inl, inr, subst}
use Rattle.std.proofs.lemmas.Bool.{cases_eq, cases_lt, eq-eqb, ne_eqb, lt-ltb, le-ltb}
use Rattle.std.proofs.lemmas.Option.{none-some}
use Rattle.lk_hash.specs.declared.place.Place.{Place}
use Rattle.lk_hash.specs.declared.place.Place.TheVariants.{Free, Removed, Taken}
use Rattle.lk_hash.specs.Entries.{Entry, HasAll, node_in, with_entry}
use Rattle.lk_hash.specs.Table.{place_at, with_place, entries_of, IsSound, entered_in}
use Rattle.lk_hash.proofs.Entries.{node-with_same, node-with_other}
use Rattle.lk_hash.proofs.Table.{none_of}

-- every lock that is entered is above this one
abbrev Above : ℕ → List Entry → Type 0
Above k es = (l n : ℕ) → node_in l es ≡ Some n → k < l

-- each entry's lock is below those of the entries behind it
abbrev IsAscending : List Entry → Type 0
IsAscending [] = Unit {0}
IsAscending (e ∷ es) = Above e.0 es × IsAscending es

-- the node of the first entry, and those behind it
node_first : (e : Entry) (es : List Entry) → node_in e.0 (e ∷ es) ≡ Some e.1
node_first e es = rw (eq-eqb e.0 e.0 refl) refl

node_behind : (l : ℕ) (e : Entry) (es : List Entry) → e.0 ≢ l → node_in l (e ∷ es) ≡ node_in l es
node_behind l e es ne = rw (ne_eqb e.0 l ne) refl

ascending_with : (l n : ℕ) (es : List Entry) → IsAscending es → node_in l es ≡ None
    → IsAscending (with_entry l n es)
ascending_with l n [] up absent = (λ k m found. absurd (none-some m found), tt)
ascending_with l n (e ∷ es) up absent =
    elim (cases_eq e.0 l) [
      | inl same ↦ let found = rw (eq-eqb e.0 l same) at absent in absurd cc
      | inr other ↦ elim (cases_lt l e.0) [
        | inl lt ↦ rw (lt-ltb l e.0 lt) ((λ k m found. above k m lt found), up)
        | inr ge ↦ rw (le-ltb l e.0 ge) (
          (λ k m found. behind k m (omega (arith, ge, other)) found),
          ascending_with l n es up.1 (sym (node_behind l e es other) ∙ absent),
        )
      ]
    ]
  where
    above : (k m : ℕ) → l < e.0 → node_in k (e ∷ es) ≡ Some m → l < k
    above k m lt found =
        elim (cases_eq e.0 k) [
          | inl same ↦ omega (arith, lt, same)
          | inr ne ↦ let high = up.0 k m (sym (node_behind k e es ne) ∙ found) in omega (arith, lt, high)
        ]

    behind : (k m : ℕ) → e.0 < l → node_in k (with_entry l n es) ≡ Some m → e.0 < k
    behind k m lt found =
        elim (cases_eq l k) [
          | inl same ↦ omega (arith, lt, same)
          | inr ne ↦ up.0 k m (sym (node-with_other k l n es ne) ∙ found)
        ]

-- two lists that ascend, each with the entries of the other, are the same
same_lists : (xs ys : List Entry) → IsAscending xs → IsAscending ys → HasAll ys xs → HasAll xs ys → xs ≡ ys
same_lists [] [] a b there back = refl
same_lists [] (y ∷ ys) a b there back = absurd (none-some y.1 (back y.0 y.1 (node_first y ys)))
same_lists (x ∷ xs) [] a b there back = absurd (none-some x.1 (there x.0 x.1 (node_first x xs)))
same_lists (x ∷ xs) (y ∷ ys) a b there back =
    elim (cases_eq y.0 x.0) [
      | inl same ↦
          let found = there x.0 x.1 (node_first x xs) in
          let node = rw (eq-eqb y.0 x.0 same) at found in
          let first : x ≡ y = (λ i. (sym same i, some_same y.1 x.1 node i)) in
          (λ i. first i ∷ same_lists xs ys a.1 b.1 (rest x xs y ys a.0 same there) (rest y ys x xs b.0 (sym same) back) i)
      | inr other ↦
          let low = b.0 x.0 x.1 (sym (node_behind x.0 y ys other) ∙ there x.0 x.1 (node_first x xs)) in
          let high = a.0 y.0 y.1 (sym (node_behind y.0 x xs (λ e. other (sym e))) ∙ back y.0 y.1 (node_first y ys)) in
          absurd (omega (arith, low, high))
    ]
  where
    some_same : (m n : ℕ) → Some m ≡ Some n → n ≡ m
    some_same m n e = cc

    rest : (u : Entry) (us : List Entry) (v : Entry) (vs : List Entry) → Above u.0 us → v.0 ≡ u.0
        → HasAll (v ∷ vs) (u ∷ us) → HasAll vs us
    rest u us v vs above same all l n found =
        let high = above l n found in
        let ne : u.0 ≢ l = (λ e. omega (arith, e, high)) in
        sym (node_behind l v vs (λ e. ne (sym same ∙ e))) ∙ all l n (node_behind l u us ne ∙ found)

-- no lock has two places
abbrev IsOnce : List Place → Type 0
IsOnce ps = (i j l n m : ℕ) → place_at ps i ≡ Taken l n → place_at ps j ≡ Taken l m → i ≡ j

once_behind : (p : Place) (ps : List Place) → IsOnce (p ∷ ps) → IsOnce ps
once_behind p ps once i j l n m a b = let e = once (suc i) (suc j) l n m a b in omega (arith, e)

absent_behind : (p : Place) (ps : List Place) (l n : ℕ) → IsOnce (p ∷ ps) → p ≡ Taken l n
    → node_in l (entries_of ps) ≡ None
absent_behind p ps l n once is = none_of l ps (λ i m at. let e = once 0 (suc i) l n m is at in absurd (omega (arith, e)))

ascending : (ps : List Place) → IsOnce ps → IsAscending (entries_of ps)
ascending [] once = tt
ascending (p ∷ ps) once = by p refl (ascending ps (once_behind p ps once))
  where
    by : (q : Place) → p ≡ q → IsAscending (entries_of ps) → IsAscending (with_place q (entries_of ps))
    by Free is up = up
    by Removed is up = up
    by (Taken l n) is up = ascending_with l n (entries_of ps) up (absent_behind p ps l n once is)

-- an entry stands at a place
placed : (ps : List Place) (l n : ℕ) → IsOnce ps → node_in l (entries_of ps) ≡ Some n
    → (at : ℕ) × (place_at ps at ≡ Taken l n)
placed [] l n once found = absurd (none-some n found)
placed (p ∷ ps) l n once found = by p refl found (placed ps l n (once_behind p ps once))
  where
    some_same : (m : ℕ) → Some m ≡ Some n → m ≡ n
    some_same m e = cc

    There : Type 0
    There = (at : ℕ) × (place_at (p ∷ ps) at ≡ Taken l n)

    by : (q : Place) → p ≡ q → node_in l (with_place q (entries_of ps)) ≡ Some n
        → (node_in l (entries_of ps) ≡ Some n → (at : ℕ) × (place_at ps at ≡ Taken l n)) → There
    by Free is it deeper = let there = deeper it in (suc there.0, there.1)
    by Removed is it deeper = let there = deeper it in (suc there.0, there.1)
    by (Taken k m) is it deeper =
        elim (cases_eq k l) [
          | inl same ↦
              let none = absent_behind p ps k m once is in
              let node = some_same m (sym (node-with_same k m (entries_of ps) none) ∙ subst (λ j. node_in j (with_entry k m (entries_of ps)) ≡ Some n) (sym same) it) in
              (0, is ∙ (λ i. Taken (same i) (node i)))
          | inr other ↦
              let there = deeper (sym (node-with_other l k m (entries_of ps) other) ∙ it) in
              (suc there.0, there.1)
        ]

-- a hash that has the entry of each place has all entries
pub all_placed : (ps : List Place) (es : List Entry) → IsSound ps
    → ((at lock node : ℕ) → place_at ps at ≡ Taken lock node → node_in lock es ≡ Some node)
    → HasAll es (entries_of ps)
all_placed ps es sound each l n found =
    let there = placed ps l n sound.once found in each there.0 l n there.1

-- as many places and the same entries: the same hash
pub same_entered : (ps qs : List Place) → IsSound ps → IsSound qs → length ps ≡ length qs
    → HasAll (entries_of ps) (entries_of qs) → HasAll (entries_of qs) (entries_of ps)
    → entered_in ps ≡ entered_in qs
same_entered ps qs sound other count there back =
    let same = same_lists (entries_of ps) (entries_of qs) (ascending ps sound.once) (ascending qs other.once) back there in
    (λ i. record { places = count i; entries = same i })

pub ruleset same = (all_placed, same_entered)
