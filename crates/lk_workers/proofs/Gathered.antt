-- The records of all workers, one worker after another.
use Rattle.std.proofs.Common.{◌≡◌, ◌≢◌, ◌+◌, ◌<◌, ◌==◌, ℕ, zero, suc, Bool, true, false, List, [], ◌∷◌, ◌++◌, inl, inr, length, map, get_or, if◌then◌else◌, refl, ap, subst, ◌∙◌, arith, eq-eqb, ne_eqb}
use Rattle.std.proofs.lemmas.List.{append-nil, map-append}
use Rattle.std.specs.List.{flat_map}
use Rattle.lk_names.specs.declared.ledger.Job.{Job}
use Rattle.lk_names.specs.declared.ledger.Seen.{Seen}
use Rattle.lk_names.specs.Outcome.{asked_from, reads_from, tag_of}
use Rattle.lk_domain.specs.Ends.{In}
use Rattle.lk_workers.specs.UnderLock.{records_by}
use Rattle.lk_workers.proofs.Deeds.{tagged}
use Rattle.lk_workers.proofs.Places.{in_flat}

-- the records of one worker in a list

by_append : (p : ℕ) (xs ys : List Seen) → records_by p (xs ++ ys) ≡ records_by p xs ++ records_by p ys
by_append p [] ys = refl
by_append p (x ∷ xs) ys = by_test (x.worker == p) (by_append p xs ys)
  where
    by_test : (b : Bool) → records_by p (xs ++ ys) ≡ records_by p xs ++ records_by p ys
        → (if b then x ∷ records_by p (xs ++ ys) else records_by p (xs ++ ys)) ≡ (if b then x ∷ records_by p xs else records_by p xs) ++ records_by p ys
    by_test true is = ap (λ l. x ∷ l) is
    by_test false is = is

by_all : (p : ℕ) (xs : List Seen) → ((r : Seen) → In r xs → r.worker ≡ p) → records_by p xs ≡ xs
by_all p [] own = refl
by_all p (x ∷ xs) own =
    ap (λ b. if b then x ∷ records_by p xs else records_by p xs) (eq-eqb x.worker p (own x (inl refl))) ∙ ap (λ l. x ∷ l) (by_all p xs (λ r is. own r (inr is)))

by_none : (p : ℕ) (xs : List Seen) → ((r : Seen) → In r xs → r.worker ≢ p) → records_by p xs ≡ []
by_none p [] other = refl
by_none p (x ∷ xs) other =
    ap (λ b. if b then x ∷ records_by p xs else records_by p xs) (ne_eqb x.worker p (other x (inl refl))) ∙ by_none p xs (λ r is. other r (inr is))

-- The records of the worker i, of whichever kind, have its number, and are of its jobs that read, in order.
pub record Notes {W : Type 0} (records_in : W → List Seen) (i : ℕ) (jobs : List Job) (worker : W) : Type 0 where
  pub own : (r : Seen) → In r (records_in worker) → r.worker ≡ i
  pub tags : map tag_of (records_in worker) ≡ map (tagged i) (reads_from 1 jobs)

-- workers of whichever kind, by their records
module _ {W : Type 0} (records_in : W → List Seen) where
  -- so do those of each worker, of which the first has this number
  abbrev pub AllNote : ℕ → List (List Job) → List W → Type 0
  AllNote start file ws = (i : ℕ) (d : W) → i < length ws → Notes records_in (start + i) (get_or file i []) (get_or ws i d)

  first_notes : (start : ℕ) (jobs : List Job) (file : List (List Job)) (w : W) (ws : List W) → AllNote start (jobs ∷ file) (w ∷ ws) → Notes records_in start jobs w
  first_notes start jobs file w ws note = subst (λ (j : ℕ). Notes records_in j jobs w) (let e : start + 0 ≡ start = omega arith in e) (note 0 w (omega arith))

  next_notes : (start : ℕ) (jobs : List Job) (file : List (List Job)) (w : W) (ws : List W) → AllNote start (jobs ∷ file) (w ∷ ws) → AllNote (start + 1) file ws
  next_notes start jobs file w ws note i d within =
      subst (λ (j : ℕ). Notes records_in j (get_or file i []) (get_or ws i d)) (let e : start + suc i ≡ (start + 1) + i = omega arith in e) (note (suc i) d (omega (arith, within)))

  -- all records are those that are asked for
  pub tags_gathered : (start : ℕ) (file : List (List Job)) (ws : List W) → length ws ≡ length file → AllNote start file ws → map tag_of (flat_map records_in ws) ≡ asked_from start file
  tags_gathered start [] [] many note = refl
  tags_gathered start [] (w ∷ ws) many note = absurd (omega (arith, many))
  tags_gathered start (jobs ∷ file) [] many note = absurd (omega (arith, many))
  tags_gathered start (jobs ∷ file) (w ∷ ws) many note =
      let one = (first_notes start jobs file w ws note).tags in
      let more = tags_gathered (start + 1) file ws (omega (arith, many)) (next_notes start jobs file w ws note) in
      map-append tag_of (records_in w) (flat_map records_in ws) ∙ (λ i. one i ++ more i)

  pub by_worker : (start : ℕ) (file : List (List Job)) (ws : List W) → length ws ≡ length file → AllNote start file ws → (i : ℕ) (d : W) → i < length ws
      → records_by (start + i) (flat_map records_in ws) ≡ records_in (get_or ws i d)
  by_worker start file [] many note i d within = absurd (omega (arith, within))
  by_worker start [] (w ∷ ws) many note i d within = absurd (omega (arith, many))
  by_worker start (jobs ∷ file) (w ∷ ws) many note zero d within =
      let first = first_notes start jobs file w ws note in
      let rest = next_notes start jobs file w ws note in
      let at : start + 0 ≡ start = omega arith in
      let mine = by_all start (records_in w) first.own in
      let none = by_none start (flat_map records_in ws) (λ r is same.
      let of = in_flat records_in ws r is in
      let theirs : r.worker ≡ (start + 1) + of.0 = (rest of.0 w of.1).own r (of.2 w) in
      omega (arith, theirs, same)) in
      ap (λ (j : ℕ). records_by j (flat_map records_in (w ∷ ws))) at ∙ (by_append start (records_in w) (flat_map records_in ws) ∙ ((λ j. mine j ++ none j) ∙ append-nil (records_in w)))
  by_worker start (jobs ∷ file) (w ∷ ws) many note (suc i) d within =
      let first = first_notes start jobs file w ws note in
      let rest = next_notes start jobs file w ws note in
      let at : start + suc i ≡ (start + 1) + i = omega arith in
      let none = by_none ((start + 1) + i) (records_in w) (λ r is same. let mine : r.worker ≡ start = first.own r is in omega (arith, mine, same)) in
      ap (λ (j : ℕ). records_by j (flat_map records_in (w ∷ ws))) at ∙ (by_append ((start + 1) + i) (records_in w) (flat_map records_in ws)
      ∙ (ap (λ l. l ++ records_by ((start + 1) + i) (flat_map records_in ws)) none ∙ by_worker (start + 1) file ws (omega (arith, many)) rest i d (omega (arith, within))))
