-- What stands in the table after an entry came or went.
use Rattle.std.proofs.Common.{◌≡◌, ◌≢◌, ◌⊎◌, ℕ, zero, suc, ◌<◌, ◌≤◌, List, [], ◌∷◌, ◌^◌, length, length-set, replicate, set, Some, None, Bool, true, false, arith, ap, refl, sym, ◌∙◌, inl, inr, subst}
use Rattle.std.proofs.lemmas.Bool.{both_ways, cases_eq, cases_lt, eq-eqb}
use Rattle.std.proofs.lemmas.List.{get_or-set_same, get_or-set_other, length-replicate}
use Rattle.std.proofs.lemmas.Option.{none-some}
use Rattle.lk_hash.specs.declared.place.Place.{Place}
use Rattle.lk_hash.specs.declared.place.Place.TheVariants.{Free, Removed, Taken}
use Rattle.lk_hash.specs.Entries.{node_in, with_entry, without_entry}
use Rattle.lk_hash.specs.Table.{place_at, ends, is_vacant, with_place, entries_of, home, Passes, IsSound, IsAbsent, EndsAt, entered_in}
use Rattle.lk_hash.proofs.Entries.{node-with_same, node-with_other, with-swap, without-with, length-with}

-- of two places one is the other, or lies before it on the way from a home
pub meets : (from at other : ℕ) → (other ≡ at) ⊎ Passes from at other ⊎ Passes from other at
meets from at other =
    elim (cases_eq other at) [
      | inl same ↦ inl same
      | inr ne ↦ elim (cases_lt at from) [
        | inl low ↦ elim (cases_lt other from) [
          | inl lower ↦ elim (cases_lt other at) [
            | inl lt ↦ inr (inl (inr (low, inr lt)))
            | inr ge ↦ inr (inr (inr (lower, inr (omega arith))))
          ]
          | inr higher ↦ inr (inl (inr (low, inl higher)))
        ]
        | inr high ↦ elim (cases_lt other from) [
          | inl lower ↦ inr (inr (inr (lower, inl high)))
          | inr higher ↦ elim (cases_lt other at) [
            | inl lt ↦ inr (inl (inl (higher, lt)))
            | inr ge ↦ inr (inr (inl (high, omega arith)))
          ]
        ]
      ]
    ]

-- a probe that ends at or behind its home, and one that ends before it
pub end_behind : (stops : Place → Bool) (ps : List Place) (from at : ℕ) → from ≤ at → at < length ps
    → stops (place_at ps at) ≡ true
    → ((j : ℕ) → from ≤ j → j < at → stops (place_at ps j) ≡ false) → EndsAt stops ps from at
end_behind stops ps from at high low here none = record {
  inside = low;
  here = here;
  before = λ other inside passes. elim passes [
    | inl between ↦ none other between.0 between.1
    | inr around ↦ absurd (omega (arith, around.0))
  ];
}

pub end_before : (stops : Place → Bool) (ps : List Place) (from at : ℕ) → at < from → from ≤ length ps
    → stops (place_at ps at) ≡ true
    → ((j : ℕ) → from ≤ j → j < length ps → stops (place_at ps j) ≡ false)
    → ((j : ℕ) → 0 ≤ j → j < at → stops (place_at ps j) ≡ false) → EndsAt stops ps from at
end_before stops ps from at low few here high none = record {
  inside = omega arith;
  here = here;
  before = λ other inside passes. elim passes [
    | inl between ↦ absurd (omega (arith, between.0, between.1))
    | inr around ↦ elim around.1 [
      | inl behind ↦ high other behind inside
      | inr before ↦ none other (omega arith) before
    ]
  ];
}

-- and one that does not end
pub no_end : (stops : Place → Bool) (ps : List Place) (from : ℕ)
    → ((j : ℕ) → from ≤ j → j < length ps → stops (place_at ps j) ≡ false)
    → ((j : ℕ) → 0 ≤ j → j < from → stops (place_at ps j) ≡ false)
    → (j : ℕ) → j < length ps → stops (place_at ps j) ≡ false
no_end stops ps from high low j inside =
    elim (cases_lt j from) [ inl lt ↦ low j (omega arith) lt | inr ge ↦ high j ge inside ]

-- a taken place is there
taken_inside : (ps : List Place) (i l n : ℕ) → place_at ps i ≡ Taken l n → i < length ps
taken_inside [] i l n at = cc
taken_inside (p ∷ ps) zero l n at = omega arith
taken_inside (p ∷ ps) (suc i) l n at = let low = taken_inside ps i l n at in omega arith

-- a probe that does not end at the lock's place shows that it has none
ends_at_own : (ps : List Place) (i l n : ℕ) → place_at ps i ≡ Taken l n → ends l (place_at ps i) ≡ true
ends_at_own ps i l n at = ap (ends l) at ∙ eq-eqb l l refl

pub absent_past : (l : ℕ) (ps : List Place)
    → ((j : ℕ) → j < length ps → ends l (place_at ps j) ≡ false) → IsAbsent l ps
absent_past l ps none at n is = both_ways _ (none at (taken_inside ps at l n is)) (ends_at_own ps at l n is)

pub absent_at : (l at : ℕ) (ps : List Place) → IsSound ps → EndsAt (ends l) ps (home (length ps) l) at
    → is_vacant (place_at ps at) ≡ true → IsAbsent l ps
absent_at l at ps sound end vacant i n is = by (place_at ps at) refl end.here vacant
  where
    by : (q : Place) → place_at ps at ≡ q → ends l q ≡ true → is_vacant q ≡ true → ⊥
    by Free free here vacant =
        elim (meets (home (length ps) l) at i) [
          | inl same ↦ let z = sym free ∙ ap (place_at ps) (sym same) ∙ is in absurd cc
          | inr apart ↦ elim apart [
            | inl passed ↦
                both_ways _ (end.before i (taken_inside ps i l n is) passed) (ends_at_own ps i l n is)
            | inr chain ↦ sound.found i l n at is end.inside chain free
          ]
        ]
    by Removed free here vacant = cc
    by (Taken k m) free here vacant = cc

-- where no place is vacant, there are as many entries as places
pub full : (ps : List Place) → ((j : ℕ) → j < length ps → is_vacant (place_at ps j) ≡ false)
    → length (entries_of ps) ≡ length ps
full [] none = refl
full (p ∷ ps) none = by p refl (full ps (λ j inside. none (suc j) (omega arith)))
  where
    by : (q : Place) → p ≡ q → length (entries_of ps) ≡ length ps
        → length (with_place q (entries_of ps)) ≡ suc (length ps)
    by Free is rest = let z = sym (ap is_vacant is) ∙ none 0 (omega arith) in absurd cc
    by Removed is rest = let z = sym (ap is_vacant is) ∙ none 0 (omega arith) in absurd cc
    by (Taken k m) is rest = length-with k m (entries_of ps) ∙ ap suc rest

-- a lock that no place has is not entered
pub none_of : (l : ℕ) (ps : List Place) → IsAbsent l ps → node_in l (entries_of ps) ≡ None
none_of l [] absent = refl
none_of l (p ∷ ps) absent = by p refl (none_of l ps (λ i n. absent (suc i) n))
  where
    by : (q : Place) → p ≡ q → node_in l (entries_of ps) ≡ None → node_in l (with_place q (entries_of ps)) ≡ None
    by Free is rest = rest
    by Removed is rest = rest
    by (Taken k n) is rest =
        elim (cases_eq k l) [
          | inl same ↦ absurd (absent 0 n (is ∙ ap (λ (j : ℕ). Taken j n) same))
          | inr other ↦ node-with_other l k n (entries_of ps) other ∙ rest
        ]

-- the other places of the lock: none
abbrev OnlyAt : ℕ → ℕ → List Place → Type 0
OnlyAt i l ps = (j n : ℕ) → j ≢ i → place_at ps j ≢ Taken l n

-- the entries with a place taken are those without it, and the lock's
taken_apart : (i l n : ℕ) (q : Place) (ps : List Place) → is_vacant q ≡ true → i < length ps → OnlyAt i l ps
    → entries_of (set ps i (Taken l n)) ≡ with_entry l n (entries_of (set ps i q))
taken_apart i l n q [] vacant low only = absurd (omega arith)
taken_apart zero l n Free (p ∷ ps) vacant low only = refl
taken_apart zero l n Removed (p ∷ ps) vacant low only = refl
taken_apart zero l n (Taken k m) (p ∷ ps) vacant low only = cc
taken_apart (suc i) l n q (p ∷ ps) vacant low only =
    by p refl (taken_apart i l n q ps vacant (omega arith) (λ j m ne. only (suc j) m (λ e. ne (omega arith))))
  where
    by : (r : Place) → p ≡ r → entries_of (set ps i (Taken l n)) ≡ with_entry l n (entries_of (set ps i q))
        → with_place r (entries_of (set ps i (Taken l n))) ≡ with_entry l n (with_place r (entries_of (set ps i q)))
    by Free is rest = rest
    by Removed is rest = rest
    by (Taken k m) is rest =
        ap (with_entry k m) rest
        ∙ with-swap k m l n (entries_of (set ps i q)) (λ same. only 0 m (λ e. cc) (is ∙ ap (λ (j : ℕ). Taken j m) same))

-- an empty place has no entry
vacant_same : (i : ℕ) (q : Place) (ps : List Place) → is_vacant q ≡ true → is_vacant (place_at ps i) ≡ true
    → entries_of (set ps i q) ≡ entries_of ps
vacant_same i q [] vacant was = refl
vacant_same zero Free (Free ∷ ps) vacant was = refl
vacant_same zero Free (Removed ∷ ps) vacant was = refl
vacant_same zero Removed (Free ∷ ps) vacant was = refl
vacant_same zero Removed (Removed ∷ ps) vacant was = refl
vacant_same zero (Taken k m) (p ∷ ps) vacant was = cc
vacant_same zero q (Taken k m ∷ ps) vacant was = cc
vacant_same (suc i) q (p ∷ ps) vacant was = ap (with_place p) (vacant_same i q ps vacant was)

-- a table after a place was changed
at_set : (ps : List Place) (i : ℕ) (q : Place) → i < length ps → place_at (set ps i q) i ≡ q
at_set ps i q low = get_or-set_same ps i q Free low

at_others : (ps : List Place) (i j : ℕ) (q : Place) → j ≢ i → place_at (set ps i q) j ≡ place_at ps j
at_others ps i j q ne = get_or-set_other ps i j q Free ne

-- what is taken elsewhere was so before
others_taken : (ps : List Place) (i j l n : ℕ) (q : Place) → i < length ps → ((k m : ℕ) → q ≢ Taken k m)
    → place_at (set ps i q) j ≡ Taken l n → (j ≢ i) × (place_at ps j ≡ Taken l n)
others_taken ps i j l n q low empty is =
    elim (cases_eq j i) [
      | inl same ↦ absurd (empty l n (sym (at_set ps i q low) ∙ ap (place_at (set ps i q)) (sym same) ∙ is))
      | inr ne ↦ (ne, sym (at_others ps i j q ne) ∙ is)
    ]

-- a place stored as it was
set_own : (i : ℕ) (ps : List Place) → i < length ps → set ps i (place_at ps i) ≡ ps
set_own i [] low = refl
set_own zero (p ∷ ps) low = refl
set_own (suc i) (p ∷ ps) low = ap (λ xs. p ∷ xs) (set_own i ps (omega arith))

-- the lock of a place
abbrev lock_of : Place → ℕ
lock_of (Taken l n) = l
lock_of _ = 0

module _ (i l n : ℕ) (ps : List Place) (sound : IsSound ps) (is : place_at ps i ≡ Taken l n) where
  low : i < length ps
  low = taken_inside ps i l n is

  gone : IsAbsent l (set ps i Removed)
  gone j m at =
      let before = others_taken ps i j l m Removed low (λ k o e. cc) at in
      before.0 (sound.once j i l m n before.1 is)

  apart : entries_of ps ≡ with_entry l n (entries_of (set ps i Removed))
  apart =
      sym (ap entries_of (ap (set ps i) (sym is) ∙ set_own i ps low))
      ∙ taken_apart i l n Removed ps refl low (λ j m ne at. ne (sound.once j i l m n at is))

  -- the lock at a place is entered with its node
  pub node_of : node_in l (entries_of ps) ≡ Some n
  node_of =
      ap (node_in l) apart
      ∙ node-with_same l n (entries_of (set ps i Removed)) (none_of l (set ps i Removed) gone)

  -- and is not entered once its entry is removed
  pub entries_removed : entries_of (set ps i Removed) ≡ without_entry l (entries_of ps)
  entries_removed =
      sym (ap (without_entry l) apart
      ∙ without-with l n (entries_of (set ps i Removed)) (none_of l (set ps i Removed) gone))

  pub removed_now : entered_in (set ps i Removed) ≡ record (entered_in ps) { entries = without_entry l (entries_of ps) }
  removed_now =
      let count = length-set ps i Removed in
      let left = entries_removed in
      (λ j. record { places = count j; entries = left j })

  within : (other : ℕ) → other < length (set ps i Removed) → other < length ps
  within other inside = omega (arith, inside, length-set ps i Removed)

  pub sound_removed : IsSound (set ps i Removed)
  sound_removed = record {
    some = omega (arith, sound.some, length-set ps i Removed);
    few = omega (arith, sound.few, length-set ps i Removed);
    found = λ at k m other taken inside passes free.
        let before = others_taken ps i at k m Removed low (λ b o e. cc) taken in
        let count = length-set ps i Removed in
        elim (cases_eq other i) [
          | inl same ↦ let z = sym (at_set ps i Removed low) ∙ ap (place_at (set ps i Removed)) (sym same) ∙ free in absurd cc
          | inr ne ↦ sound.found at k m other before.1 (within other inside)
              (subst (λ (c : ℕ). Passes (home c k) at other) count passes)
              (sym (at_others ps i other Removed ne) ∙ free)
        ];
    once = λ a b k m o first then.
        let one = others_taken ps i a k m Removed low (λ c d e. cc) first in
        let two = others_taken ps i b k o Removed low (λ c d e. cc) then in
        sound.once a b k m o one.1 two.1;
  }

-- a lock that is not entered is at no place
pub absent_of : (l : ℕ) (ps : List Place) → IsSound ps → node_in l (entries_of ps) ≡ None → IsAbsent l ps
absent_of l ps sound absent i n is = none-some n (sym absent ∙ node_of i l n ps sound is)

module _ (i l n : ℕ) (ps : List Place) (sound : IsSound ps) (absent : IsAbsent l ps)
    (end : EndsAt is_vacant ps (home (length ps) l) i) where
  -- a lock that is entered is entered
  pub entries_entered : entries_of (set ps i (Taken l n)) ≡ with_entry l n (entries_of ps)
  entries_entered =
      taken_apart i l n Free ps refl end.inside (λ j m ne. absent j m)
      ∙ ap (with_entry l n) (vacant_same i Free ps refl end.here)

  pub entered_now : entered_in (set ps i (Taken l n)) ≡ record (entered_in ps) { entries = with_entry l n (entries_of ps) }
  entered_now =
      let count = length-set ps i (Taken l n) in
      let more = entries_entered in
      (λ j. record { places = count j; entries = more j })

  -- what is taken is the new entry, or was taken before
  taken_now : (j k m : ℕ) → place_at (set ps i (Taken l n)) j ≡ Taken k m
      → ((j ≡ i) × (k ≡ l)) ⊎ ((j ≢ i) × (place_at ps j ≡ Taken k m))
  taken_now j k m is =
      elim (cases_eq j i) [
        | inl same ↦ inl (same, ap lock_of (sym is ∙ ap (place_at (set ps i (Taken l n))) same ∙ at_set ps i (Taken l n) end.inside))
        | inr ne ↦ inr (ne, sym (at_others ps i j (Taken l n) ne) ∙ is)
      ]

  pub sound_entered : IsSound (set ps i (Taken l n))
  sound_entered = record {
    some = omega (arith, sound.some, length-set ps i (Taken l n));
    few = omega (arith, sound.few, length-set ps i (Taken l n));
    found = λ at k m other taken inside passes free.
        let count = length-set ps i (Taken l n) in
        let low : other < length ps = omega (arith, inside, count) in
        let way = subst (λ (c : ℕ). Passes (home c k) at other) count passes in
        elim (cases_eq other i) [
          | inl same ↦ let z = sym (at_set ps i (Taken l n) end.inside) ∙ ap (place_at (set ps i (Taken l n))) (sym same) ∙ free in absurd cc
          | inr ne ↦
              let was = sym (at_others ps i other (Taken l n) ne) ∙ free in
              elim (taken_now at k m taken) [
                | inl new ↦ both_ways _
                    (end.before other low (subst (λ (c : ℕ). Passes (home (length ps) c) i other) new.1
                    (subst (λ (c : ℕ). Passes (home (length ps) k) c other) new.0 way)))
                    (ap is_vacant was)
                | inr old ↦ sound.found at k m other old.1 low way was
              ]
        ];
    once = λ a b k m o first then.
        elim (taken_now a k m first) [
          | inl new ↦ elim (taken_now b k o then) [
            | inl also ↦ new.0 ∙ sym also.0
            | inr old ↦ absurd (absent b o (old.1 ∙ ap (λ (c : ℕ). Taken c o) new.1))
          ]
          | inr old ↦ elim (taken_now b k o then) [
            | inl new ↦ absurd (absent a m (old.1 ∙ ap (λ (c : ℕ). Taken c m) new.1))
            | inr also ↦ sound.once a b k m o old.1 also.1
          ]
        ];
  }

-- free places alone

pub no_entries : (count : ℕ) → entries_of (replicate count Free) ≡ []
no_entries zero = refl
no_entries (suc count) = no_entries count

all_free : (count at : ℕ) → place_at (replicate count Free) at ≡ Free
all_free zero at = refl
all_free (suc count) zero = refl
all_free (suc count) (suc at) = all_free count at

pub sound_free : (count : ℕ) → 0 < count → count < 2 ^ 32 → IsSound (replicate count Free)
sound_free count some few = record {
  some = omega (arith, some, length-replicate count Free);
  few = omega (arith, few, length-replicate count Free);
  found = λ at k m other taken inside passes free. let z = sym (all_free count at) ∙ taken in cc;
  once = λ a b k m o first then. let z = sym (all_free count a) ∙ first in absurd cc;
}

pub ruleset probes = (end_behind, end_before, no_end, absent_past, absent_at, full)

pub ruleset made = (sound_free, no_entries, length-replicate)

pub ruleset read = (node_of, none_of)

pub ruleset entering = (sound_entered, entered_now, absent_of)

pub ruleset removing = (sound_removed, removed_now, node_of, none_of)
