-- The places of the hash are a map: filled, where the lock has no entry, and emptied.
use Rattle.std.proofs.Common.{◌≡◌, ◌≢◌, inl, inr, ℕ, ◌<◌, ◌≤◌, List, set, Some, None, Bool, false}
use Rattle.std.proofs.Common.{sym, ap, ◌∙◌, subst, arith, eqb, eq-eqb, ne_eqb, refl, Option}
use Rattle.std.proofs.Common.{if◌then◌else◌, ◌⊎◌}
use Rattle.lk_pvdomain.proofs.Names.{cases_eq, NodeName, same_lock, LockName, if-false, World}
use Rattle.lk_pvdomain.proofs.Names.{lock_name, locks_of, IsNode, OfHash, hash_at, pair_number}
use Rattle.lk_pvdomain.proofs.Names.{places_of, Plan, MOST_LOCKS}
use Rattle.lk_law.proofs.{common.Cases.lock_cases, common.Puts.{if-true, same_lock-else}}
use Rattle.lk_law.proofs.common.Sames.{same_lock-self}
use Rattle.lk_domain.proofs.words.Written.{written, same_numbers}
use Rattle.lk_domain.specs.{Runs.{IsHashed, IsStored}, Words.{Place, IsPlace, with_mark, number_of}}
use Rattle.lk_pvdomain.specs.PvPlays.{IsOther}

-- a pair is known by its number
pub pair_is : (j l : ℕ) (a b : NodeName) → j < MOST_LOCKS → l < MOST_LOCKS → a.index < 4 → b.index < 4
    → pair_number j a ≡ pair_number l b → (j ≡ l) × (a ≡ b)
pair_is j l a b lt kt low high e =
    let lock : j ≡ l = omega (arith, e, lt, kt) in
    let cpu : a.cpu ≡ b.cpu = omega (arith, e, lt, kt, low, high) in
    let index : a.index ≡ b.index = omega (arith, e, lt, kt, low, high) in
    (lock, (λ i. record { cpu = cpu i; index = index i }))

-- the name of a lock that is no wait lock
pub plain_is : (l : LockName) → l.wait ≡ false → l ≡ lock_name l.index
plain_is l e = (λ i. record { index = l.index; wait = e i })

-- the numbers in the places, where one is put
abbrev pub put_pair : (ℕ → ℕ) → ℕ → ℕ → ℕ → ℕ
put_pair pairs i x j = if eqb j i then x else pairs j

pub pair_here : (pairs : ℕ → ℕ) (i x : ℕ) → put_pair pairs i x i ≡ x
pair_here pairs i x = if-true (eqb i i) x (pairs i) (eq-eqb i i refl)

pub pair_else : (pairs : ℕ → ℕ) (i x j : ℕ) → j ≢ i → put_pair pairs i x j ≡ pairs j
pair_else pairs i x j ne = if-false (eqb j i) x (pairs j) (ne_eqb j i ne)

-- the other words have their numbers
pub other_pairs : (k : Plan) (m : World) (pairs : ℕ → ℕ) (i x : ℕ) (y : Place) → y ≢ OfHash i
    → number_of k m (put_pair pairs i x) y ≡ number_of k m pairs y
other_pairs k m pairs i x (OfHash j) ne = pair_else pairs i x j (λ e. ne (ap OfHash e))
other_pairs k m pairs i x _ ne = refl

-- the words of a world that differs in the hash, where the word of a place is written
pub hash_written : (k : Plan) {m : World} {marks : NodeName → Bool} {pairs : ℕ → ℕ} {ws : List ℕ} → IsStored k m marks pairs ws
    → (n : World) → n.word ≡ m.word → n.rw ≡ m.rw → n.node ≡ m.node → n.kicked ≡ m.kicked → (i : ℕ) → IsPlace k (OfHash i)
    → (x : ℕ) → IsStored k n marks (put_pair pairs i x) (set ws (hash_at k i) x)
hash_written k {m} {marks} {pairs} {ws} st n word rw node kicked i low x =
    written k st n marks (put_pair pairs i x) (OfHash i) low x (sym (pair_here pairs i x))
    (λ z there read ne. ap (with_mark marks z) (other_pairs k n pairs i x z ne ∙ same_numbers k pairs m n word rw node kicked z))

module _ (k : Plan) (old new : LockName → Option NodeName) (pairs : ℕ → ℕ) (i : ℕ) (l : LockName) (a : NodeName)
    (h : IsHashed k old pairs) (low : i < places_of k) (near : IsNode k a) (plain : l.wait ≡ false)
    (lock : l.index < locks_of k) (few : locks_of k ≤ MOST_LOCKS) where
  -- The place was empty, and the lock had no entry: it has one now.
  module _ (empty : pairs i ≡ 0) (none : old l ≡ None)
      (now : (j : LockName) → new j ≡ (if same_lock j l then Some a else old j)) where
    abbrev xs : ℕ → ℕ
    xs = put_pair pairs i (pair_number l.index a)

    here : xs i ≡ pair_number l.index a
    here = pair_here pairs i (pair_number l.index a)

    other : (j : ℕ) → j ≢ i → xs j ≡ pairs j
    other j ne = pair_else pairs i (pair_number l.index a) j ne

    entry_here : new l ≡ Some a
    entry_here = now l ∙ if-true (same_lock l l) (Some a) (old l) (same_lock-self l)

    entry_else : (j : LockName) → j ≢ l → new j ≡ old j
    entry_else j ne = now j ∙ if-false (same_lock j l) (Some a) (old j) (same_lock-else j l ne)

    -- no place had the lock
    unplaced : (j : ℕ) (b : NodeName) → j < places_of k → IsNode k b → pairs j ≢ pair_number l.index b
    unplaced j b lt nb e = elim (h.placed j lt) [
      | inl z ↦ omega (arith, z, e)
      | inr r ↦
          let q = pair_is r.0 l.index r.1 b (let z = r.3 in omega (arith, z, few)) (omega (arith, lock, few)) r.2.index nb.index (sym r.5 ∙ e) in
          let is : lock_name r.0 ≡ l = ap lock_name q.0 ∙ sym (plain_is l plain) in
          no_some (sym none ∙ (ap old (sym is) ∙ r.4))
    ]
      where
        no_some : {b : NodeName} → None ≡ Some b → ⊥
        no_some e = cc e

    pub filled : IsHashed k new xs
    filled =
        record {
          entered = λ j b e. elim (lock_cases j l) [
            | inl same ↦
                let node : a ≡ b = some_is (sym entry_here ∙ (ap new (sym same) ∙ e)) in (
                  ap (λ (z : LockName). z.wait) same ∙ plain,
                  subst (λ (z : ℕ). z < locks_of k) (ap (λ (z : LockName). z.index) (sym same)) lock,
                  (i, low, here ∙ (λ t. pair_number (ap (λ (z : LockName). z.index) (sym same) t) (node t))),
                )
            | inr ne ↦
                let r = h.entered j b (sym (entry_else j ne) ∙ e) in
                let apart : r.2.0 ≢ i = λ q. let z : pairs r.2.0 ≡ 0 = ap (λ (y : ℕ). pairs y) q ∙ empty in
                let y = r.2.2 in omega (arith, z, y) in
                (r.0, r.1, (r.2.0, r.2.1, other r.2.0 apart ∙ r.2.2))
          ];
          placed = λ j lt. elim (cases_eq j i) [
            | inl same ↦ inr (
              l.index,
              a,
              near,
              lock,
              ap new (sym (plain_is l plain)) ∙ entry_here,
              ap (λ (y : ℕ). xs y) same ∙ here,
            )
            | inr ne ↦ elim (h.placed j lt) [
              | inl z ↦ inl (other j ne ∙ z)
              | inr r ↦
                  let apart : lock_name r.0 ≢ l = λ q. no_some (sym none ∙ (ap old (sym q) ∙ r.4)) in
                  inr (r.0, r.1, r.2, r.3, entry_else (lock_name r.0) apart ∙ r.4, other j ne ∙ r.5)
            ]
          ];
          once = λ j q d b c lt kt nb nc ld x y. elim (cases_eq j i) [
            | inl e ↦ elim (cases_eq q i) [
              | inl f ↦ e ∙ sym f
              | inr ne ↦
                  let z = pair_is l.index d a b (omega (arith, lock, few)) (omega (arith, ld, few)) near.index nb.index
                  (sym here ∙ (ap (λ (w : ℕ). xs w) (sym e) ∙ x)) in
                  absurd (unplaced q c kt nc (sym (other q ne) ∙ (y ∙ ap (λ (w : ℕ). pair_number w c) (sym z.0))))
            ]
            | inr ne ↦ elim (cases_eq q i) [
              | inl f ↦
                  let z = pair_is l.index d a c (omega (arith, lock, few)) (omega (arith, ld, few)) near.index nc.index
                  (sym here ∙ (ap (λ (w : ℕ). xs w) (sym f) ∙ y)) in
                  absurd (unplaced j b lt nb (sym (other j ne) ∙ (x ∙ ap (λ (w : ℕ). pair_number w b) (sym z.0))))
              | inr nf ↦ h.once j q d b c lt kt nb nc ld (sym (other j ne) ∙ x) (sym (other q nf) ∙ y)
            ]
          ];
        }
      where
        no_some : {b : NodeName} → None ≡ Some b → ⊥
        no_some e = cc e

        some_is : {b c : NodeName} → Some b ≡ Some c → b ≡ c
        some_is e = grind (arith, e)

  -- The place had the lock's entry, which is taken out.
  module _ (full : pairs i ≡ pair_number l.index a)
      (now : (j : LockName) → new j ≡ (if same_lock j l then None else old j)) where
    abbrev ys : ℕ → ℕ
    ys = put_pair pairs i 0

    gone : ys i ≡ 0
    gone = pair_here pairs i 0

    beside : (j : ℕ) → j ≢ i → ys j ≡ pairs j
    beside j ne = pair_else pairs i 0 j ne

    -- that was its entry
    pub entry_was : old l ≡ Some a
    entry_was = elim (h.placed i low) [
      | inl z ↦ absurd (omega (arith, z, full))
      | inr r ↦
          let q = pair_is r.0 l.index r.1 a (let z = r.3 in omega (arith, z, few)) (omega (arith, lock, few)) r.2.index near.index (sym r.5 ∙ full) in
          ap old (plain_is l plain ∙ ap lock_name (sym q.0)) ∙ (r.4 ∙ ap Some q.1)
    ]

    pub emptied : IsHashed k new ys
    emptied =
        record {
          entered = λ j b e. elim (lock_cases j l) [
            | inl same ↦ absurd (no_some (sym (ap new same ∙ (now l ∙ if-true (same_lock l l) None (old l) (same_lock-self l))) ∙ e))
            | inr ne ↦
                let r = h.entered j b (sym (now j ∙ if-false (same_lock j l) None (old j) (same_lock-else j l ne)) ∙ e) in
                let apart : r.2.0 ≢ i = λ q. ne (
                let eq : pair_number l.index a ≡ pair_number j.index b = sym full ∙ (ap (λ (y : ℕ). pairs y) (sym q) ∙ r.2.2) in
                let same : l.index ≡ j.index = omega (arith, eq, lock, few, r.1) in
                plain_is j r.0 ∙ (ap lock_name (sym same) ∙ sym (plain_is l plain))) in
                (r.0, r.1, (r.2.0, r.2.1, beside r.2.0 apart ∙ r.2.2))
          ];
          placed = λ j lt. elim (cases_eq j i) [
            | inl same ↦ inl (ap (λ (y : ℕ). ys y) same ∙ gone)
            | inr ne ↦ elim (h.placed j lt) [
              | inl z ↦ inl (beside j ne ∙ z)
              | inr r ↦
                  let apart : lock_name r.0 ≢ l = λ q.
                  let index : r.0 ≡ l.index = ap (λ (z : LockName). z.index) q in
                  ne (h.once j i l.index r.1 a lt low r.2 near lock (r.5 ∙ ap (λ (y : ℕ). pair_number y r.1) index) full) in
                  inr (r.0, r.1, r.2, r.3, now (lock_name r.0) ∙ (if-false (same_lock (lock_name r.0) l) None (old (lock_name r.0)) (same_lock-else (lock_name r.0) l apart) ∙ r.4), beside j ne ∙ r.5)
            ]
          ];
          once = λ j q d b c lt kt nb nc ld x y. elim (cases_eq j i) [
            | inl e ↦ absurd (let z : ys j ≡ 0 = ap (λ (w : ℕ). ys w) e ∙ gone in omega (arith, z, x))
            | inr ne ↦ elim (cases_eq q i) [
              | inl f ↦ absurd (let z : ys q ≡ 0 = ap (λ (w : ℕ). ys w) f ∙ gone in omega (arith, z, y))
              | inr nf ↦ h.once j q d b c lt kt nb nc ld (sym (beside j ne) ∙ x) (sym (beside q nf) ∙ y)
            ]
          ];
        }
      where
        no_some : {b : NodeName} → None ≡ Some b → ⊥
        no_some e = cc e

-- Who seeks an entry finds it: it has not looked at every place, where the lock has an entry.
pub sought_is_there : (k : Plan) (entry : LockName → Option NodeName) (pairs : ℕ → ℕ) (l : LockName) (a : NodeName) (n : ℕ)
    → IsHashed k entry pairs → entry l ≡ Some a → IsNode k a
    → ((i : ℕ) (b : NodeName) → i < n → IsNode k b → pairs i ≢ pair_number l.index b) → n < places_of k
sought_is_there k entry pairs l a n h some near passed =
    let r = h.entered l a some in
    elim (Rattle.std.proofs.lemmas.Bool.cases_lt n (places_of k)) [
      | inl lt ↦ lt
      | inr ge ↦ absurd (passed r.2.0 a (let z = r.2.1 in omega (arith, z, ge)) near r.2.2)
    ]

-- the lock of a pair is known by its number
pub pair_lock : (j l : ℕ) (a b : NodeName) → j < MOST_LOCKS → l < MOST_LOCKS → pair_number j a ≡ pair_number l b → j ≡ l
pair_lock j l a b lt kt e = omega (arith, e, lt, kt)

-- an entry of the lock stands there, or none does
pub decide : (k : Plan) (entry : LockName → Option NodeName) (pairs : ℕ → ℕ) (i lock : ℕ) → IsHashed k entry pairs → i < places_of k → lock < locks_of k → locks_of k ≤ MOST_LOCKS
    → ((a : NodeName) × IsNode k a × (pairs i ≡ pair_number lock a))
    ⊎ (IsOther lock (pairs i) × ((a : NodeName) → IsNode k a → pairs i ≢ pair_number lock a))
decide k entry pairs i lock h low near few = elim (h.placed i low) [
  | inl z ↦ inr (inl z, λ a fit e. omega (arith, z, e))
  | inr r ↦ elim (cases_eq r.0 lock) [
    | inl same ↦ inl (r.1, r.2, r.5 ∙ ap (λ (c : ℕ). pair_number c r.1) same)
    | inr ne ↦ inr (
      inr (r.0, r.1, (let z = r.3 in omega (arith, z, few)), ne, r.5),
      λ a fit e. ne (pair_lock r.0 lock r.1 a (let z = r.3 in omega (arith, z, few)) (omega (arith, near, few)) (sym r.5 ∙ e)),
    )
  ]
]
