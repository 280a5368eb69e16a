-- How many readers a lock can have: as many as there are waiters.
use Rattle.std.proofs.Common.{◌≡◌, ℕ, ◌<◌, ◌≤◌, Option, Some, None, true, eqb, List, map, length}
use Rattle.std.proofs.Common.{get_or, slice_get, arith, ap, refl, sym, ◌∙◌}
use Rattle.std.proofs.{lemmas.Bool.ne_eqb, lemmas.List.{get_or-map, length-map}}
use Rattle.std.proofs.{lemmas.List.Elements.All-map, lemmas.List.Folds.Any-from_list_any}
use Rattle.std.proofs.lemmas.Map.Keys.{IsDistinct-from_apart}
use Rattle.std.proofs.lemmas.Map.Steps.{length-le_from_distinct_below}
use Rattle.std.proofs.lemmas.Option.{slice_get-get_or}
use Rattle.std.specs.List.{IsDistinct, All}
use Rattle.lk_law.proofs.Names.{eqb-true, Waiter, rw_name, Frame, IsEach, is_counted, Away}
use Rattle.lk_law.proofs.Names.{rw_phase_on}
use Rattle.lk_names.specs.Lists.{waiter_number, IsOneOf}
use Rattle.lk_law.specs.RwKnown.{ReadersAreFew}

-- two of so many waiters with one number are one
number_one : (count : ℕ) (a b : Waiter) → IsOneOf count a → IsOneOf count b
    → waiter_number a ≡ waiter_number b → a ≡ b
number_one count a b p q e =
    let left : a.ctx < 6 = p.0 in
    let right : b.ctx < 6 = q.0 in
    let c : a.cpu ≡ b.cpu = omega arith in
    let x : a.ctx ≡ b.ctx = omega arith in
    (λ i. record { cpu = c i; ctx = x i })

-- a list that has each of some of so many waiters, once, is no longer
pub each_few : (count : ℕ) (P : Waiter → Type 0) (us : List Waiter) → IsEach P us
    → ((u : Waiter) → P u → IsOneOf count u) → length us ≤ count
each_few count P us e one =
    let few : length (map waiter_number us) ≤ count =
    length-le_from_distinct_below (map waiter_number us) count distinct
    (λ q member.
    let found : (k : ℕ) × (n : ℕ) × (k
    < length (map waiter_number us)) × (get_or (map waiter_number us) k n ≡ n) × (eqb q n
    ≡ true) = Any-from_list_any (eqb q) (map waiter_number us) member in
    let small : All (λ n. n < count) (map waiter_number us) =
    All-map (λ n. n < count) waiter_number us (λ k d lt. (within k d lt).1) in
    let below : get_or (map waiter_number us) found.0 found.1 < count =
    small found.0 found.1 found.2 in
    omega (arith, found.3, eqb-true q found.1 found.4)) in
    omega (arith, length-map us waiter_number, few)
  where
    within : All (IsOneOf count) us
    within k d lt = one (get_or us k d) (e.inside k (get_or us k d) (slice_get-get_or us k d lt))

    distinct : IsDistinct eqb (map waiter_number us)
    distinct =
        IsDistinct-from_apart eqb (map waiter_number us)
        (λ i j d near far.
        let o : Waiter = record { cpu = 0; ctx = 0 } in
        let late : j < length us = omega (arith, length-map us waiter_number) in
        let early : i < length us = omega arith in
        let first = get_or-map waiter_number us i o d early in
        let later = get_or-map waiter_number us j o d late in
        rw (first, later) (ne_eqb _ _ (λ same.
        let a : slice_get us i ≡ Some (get_or us i o) = slice_get-get_or us i o early in
        let b : slice_get us j ≡ Some (get_or us j o) = slice_get-get_or us j o late in
        let one =
        number_one count (get_or us i o) (get_or us j o) (within i o early)
        (within j o late) same in
        let z : i ≡ j = e.once i j (get_or us i o) a (b ∙ ap Some (sym one)) in
        absurd (omega (arith, near, z)))))

pub readers_are_few : ReadersAreFew
readers_are_few count m hs i sound kind range idle =
    let ok = sound.rws i kind in
    let few = each_few count _ ok.counted ok.readers.each (λ u p. has u (m.frame u) refl p) in
    let n = ok.readers.number in
    omega (arith, few, n)
  where
    has : (u : Waiter) (o : Option Frame) → m.frame u ≡ o
        → is_counted (rw_phase_on i (m.frame u)) (m.held u (rw_name i)) ≡ true → IsOneOf count u
    has u None e p =
        absurd (let h = idle u (rw_name i) e in
        let r : rw_phase_on i (m.frame u) ≡ Away = ap (rw_phase_on i) e in
        grind (arith, p, h, r))
    has u (Some f) e p = range u f e
