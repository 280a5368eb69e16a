-- A list in which nobody stands twice is no longer than there are contexts.
use Rattle.std.proofs.Common.{◌≡◌, ℕ, ◌+◌, ◌*◌, ◌<◌, ◌≤◌, Some, true, eqb, List, map, length}
use Rattle.std.proofs.Common.{get_or, slice_get, arith, ap, sym, ◌∙◌}
use Rattle.std.proofs.{lemmas.Bool.ne_eqb, lemmas.List.{get_or-map, length-map}}
use Rattle.std.proofs.{lemmas.List.Elements.All-map, lemmas.List.Folds.Any-from_list_any}
use Rattle.std.proofs.lemmas.Map.Keys.{IsDistinct-from_apart}
use Rattle.std.proofs.lemmas.Map.Steps.{length-le_from_distinct_below}
use Rattle.std.proofs.lemmas.Option.{slice_get-get_or}
use Rattle.std.specs.List.{IsDistinct, All}
use Rattle.lk_progress.proofs.Names.{eqb-true, Waiter}

-- the number of a context, of the six of each processor
abbrev number : Waiter → ℕ
number u = u.cpu * 6 + u.ctx

-- two contexts with one number are one
number_one : (a b : Waiter) → a.ctx < 6 → b.ctx < 6 → number a ≡ number b → a ≡ b
number_one a b p q e =
    let c : a.cpu ≡ b.cpu = omega (arith, p, q, e) in
    let x : a.ctx ≡ b.ctx = omega (arith, p, q, e) in
    (λ i. record { cpu = c i; ctx = x i })

pub list_few : (count : ℕ) (us : List Waiter)
    → ((i : ℕ) (u : Waiter) → slice_get us i ≡ Some u → (u.cpu < count) × (u.ctx < 6))
    → ((i j : ℕ) (u : Waiter) → slice_get us i ≡ Some u → slice_get us j ≡ Some u → i ≡ j)
    → length us ≤ 6 * count
list_few count us low once =
    let few : length (map number us) ≤ 6 * count =
    length-le_from_distinct_below (map number us) (6 * count) distinct
    (λ q member.
    let found : (k : ℕ) × (n : ℕ) × (k < length (map number us)) × (get_or (map number us) k n
    ≡ n) × (eqb q n ≡ true) = Any-from_list_any (eqb q) (map number us) member in
    let small : All (λ n. n < 6 * count) (map number us) =
    All-map (λ n. n < 6 * count) number us
    (λ k d lt. let x = within k d lt in omega (arith, x.0, x.1)) in
    let below : get_or (map number us) found.0 found.1 < 6 * count =
    small found.0 found.1 found.2 in
    omega (arith, found.3, eqb-true q found.1 found.4)) in
    omega (arith, length-map us number, few)
  where
    within : (k : ℕ) (d : Waiter) → k < length us → ((get_or us k d).cpu < count) × ((get_or us k d).ctx < 6)
    within k d lt = low k (get_or us k d) (slice_get-get_or us k d lt)

    distinct : IsDistinct eqb (map number us)
    distinct =
        IsDistinct-from_apart eqb (map number us)
        (λ i j d near far.
        let o : Waiter = record { cpu = 0; ctx = 0 } in
        let late : j < length us = omega (arith, length-map us number) in
        let early : i < length us = omega arith in
        let first = get_or-map number us i o d early in
        let later = get_or-map number us j o d late in
        rw (first, later) (ne_eqb _ _ (λ same.
        let a : slice_get us i ≡ Some (get_or us i o) = slice_get-get_or us i o early in
        let b : slice_get us j ≡ Some (get_or us j o) = slice_get-get_or us j o late in
        let one =
        number_one (get_or us i o) (get_or us j o) (within i o early).1 (within j o late).1 same in
        let z : i ≡ j = once i j (get_or us i o) a (b ∙ ap Some (sym one)) in
        absurd (omega (arith, near, z)))))
