-- A queue in which no waiter stands twice has room for one more.
use Rattle.std.proofs.Common.{Option, Some, None, ◌≡◌, ◌⊎◌, ◌≤◌, ◌<◌, ◌+◌, ℕ, zero, suc, cond, take, drop, inl, inr, ◌∙◌, List, [], ◌∷◌, ◌++◌, Bool, true, false, eqb, map, length, get_or, refl, sym, ap, subst, ◌∙◌, arith, length-append}
use Rattle.std.specs.Cmp.{IsEquivalence}
use Rattle.std.specs.Prelude.{IfSome}
use Rattle.std.specs.List.{slice_get, AllByRecursion, IsDistinct, list_any, All, count_by}
use Rattle.std.proofs.lemmas.Bool.{cases_Bool, or_parts, or_from, eqb-true, ne_eqb, true≢false}
use Rattle.std.proofs.lemmas.List.{get_or-map, length-map}
use Rattle.std.proofs.lemmas.List.Elements.{All-nil, All-cons, All-map}
use Rattle.std.proofs.lemmas.List.Folds.{Any-from_list_any}
use Rattle.std.proofs.lemmas.Option.{none-some, same_Some}
use Rattle.std.proofs.lemmas.Map.Keys.{IsDistinct-from_apart, apart_from_distinct}
use Rattle.std.proofs.lemmas.Map.Steps.{length-le_from_distinct_below}
use Rattle.lk_names.specs.Names.{same_waiter}
use Rattle.lk_names.specs.ListOf.{ListOf}
use Rattle.lk_abs.specs.Breaches.{is_among, is_queued}
use Rattle.lk_names.specs.Lists.{waiter_number, IsOneOf, IsInOrder, standing, history_of_lists, lists_passed, lists_rejoined}
use Rattle.lk_names.specs.declared.holder.Holder.{Holder}
use Rattle.lk_abs.proofs.Steps.{drop-rest}
use Rattle.std.proofs.lemmas.List.Sums.{sum_by-append, sum_by-cons}
use Rattle.lk_names.specs.declared.names.Waiter.{Waiter}
use Rattle.lk_names.specs.declared.events.Lists.{Lists}
use Rattle.lk_abs.proofs.Sameness.{waiter_from_parts, same_waiter-true, same_waiter-refl, same_waiter-from}

-- ---- names of waiters

same_tests : (a b : Bool) → (a ≡ true → b ≡ true) → (b ≡ true → a ≡ true) → a ≡ b
same_tests true b there back = sym (there refl)
same_tests false true there back = back refl
same_tests false false there back = refl

pub same_waiter-equivalence : IsEquivalence same_waiter
same_waiter-equivalence =
    record {
      refl = same_waiter-refl;
      symm = λ x y. same_tests _ _ (λ e. same_waiter-from y x (sym (same_waiter-true x y e))) (λ e. same_waiter-from x y (sym (same_waiter-true y x e)));
      congr = λ x y z e. ap (λ w. same_waiter w z) (same_waiter-true x y e);
    }

-- two of so many waiters have two numbers
number_apart : (count : ℕ) (a b : Waiter) → IsOneOf count a → IsOneOf count b → same_waiter a b ≡ false → eqb (waiter_number a) (waiter_number b) ≡ false
number_apart count a b p q e =
    ne_eqb _ _
    (λ same.
    let left : a.ctx < 6 = p.0 in
    let right : b.ctx < 6 = q.0 in
    true≢false (sym (same_waiter-from a b (waiter_from_parts a b (omega arith) (omega arith))) ∙ e))

pub not_among : (us : List Waiter) (w : Waiter) → is_among us w ≡ false → list_any (same_waiter w) us ≡ false
not_among [] w e = refl
not_among (u ∷ us) w e =
    or_from _ _ (same_waiter-equivalence.symm w u ∙ (or_parts _ _ e).0) (not_among us w (or_parts _ _ e).1)

-- ---- how many can stand in a queue

numbers_distinct : (count : ℕ) (us : List Waiter) → IsDistinct same_waiter us → All (IsOneOf count) us → IsDistinct eqb (map waiter_number us)
numbers_distinct count us distinct all =
    IsDistinct-from_apart eqb (map waiter_number us)
    (λ i j d near far.
    let o : Waiter = record { cpu = 0; ctx = 0 } in
    let within : j < length us = omega (arith, length-map us waiter_number) in
    let early : i < length us = omega arith in
    let first = get_or-map waiter_number us i o d early in
    let later = get_or-map waiter_number us j o d within in
    rw (first, later) (number_apart count (get_or us i o) (get_or us j o) (all i o early) (all j o within) (apart_from_distinct same_waiter us i j o distinct near within)))

pub queue_within : (count : ℕ) (us : List Waiter) → IsDistinct same_waiter us → All (IsOneOf count) us → length us ≤ count
queue_within count us distinct all =
    let few : length (map waiter_number us) ≤ count =
    length-le_from_distinct_below (map waiter_number us) count (numbers_distinct count us distinct all)
    (λ q member.
    let found : (k : ℕ) × (n : ℕ) × (k < length (map waiter_number us)) × (get_or (map waiter_number us) k n ≡ n) × (eqb q n ≡ true) = Any-from_list_any (eqb q) (map waiter_number us) member in
    let small : All (λ n. n < count) (map waiter_number us) = All-map (λ n. n < count) waiter_number us (λ k d lt. (all k d lt).1) in
    let below : get_or (map waiter_number us) found.0 found.1 < count = small found.0 found.1 found.2 in
    omega (arith, found.3, eqb-true q found.1 found.4)) in
    omega (arith, length-map us waiter_number)

-- ---- how often a waiter stands in a list

abbrev among : Waiter → List Waiter → ℕ
among w us = count_by (λ u. same_waiter u w) us

module _ (w : Waiter) where
  among-cons : (u : Waiter) (us : List Waiter) → among w (u ∷ us) ≡ cond (same_waiter u w) 1 0 + among w us
  among-cons u us = sum_by-cons (λ y. cond (same_waiter y w) 1 0) u us

  among-append : (us vs : List Waiter) → among w (us ++ vs) ≡ among w us + among w vs
  among-append us vs = sum_by-append (λ y. cond (same_waiter y w) 1 0) us vs

  among-push : (us : List Waiter) (u : Waiter) → among w (us ++ u ∷ []) ≡ among w us + cond (same_waiter u w) 1 0
  among-push us u = among-append us (u ∷ []) ∙ omega (arith, among-cons u [])

  among-split : (n : ℕ) (us : List Waiter) → among w us ≡ among w (take n us) + among w (drop n us)
  among-split zero us = omega arith
  among-split (suc n) [] = refl
  among-split (suc n) (u ∷ us) = omega (arith, among-cons u us, among-cons u (take n us), among-split n us)

  among-none : (us : List Waiter) → is_among us w ≡ false → among w us ≡ 0
  among-none [] e = refl
  among-none (u ∷ us) e =
      let no : same_waiter u w ≡ false = (or_parts _ _ e).0 in
      let zero : cond {A = ℕ} (same_waiter u w) 1 0 ≡ 0 = rw no refl in
      omega (arith, zero, among-cons u us, among-none us (or_parts _ _ e).1)

none_among : (u : Waiter) (us : List Waiter) → among u us ≡ 0 → AllByRecursion {X = Waiter} (λ y. same_waiter u y ≡ false) us
none_among u [] e = tt
none_among u (v ∷ us) e =
    elim (cases_Bool (same_waiter v u)) [
      | inl met ↦ (let one : cond {A = ℕ} (same_waiter v u) 1 0 ≡ 1 = rw met refl in absurd (omega (arith, among-cons u v us)))
      | inr unmet ↦ (same_waiter-equivalence.symm u v ∙ unmet, none_among u us (omega (arith, among-cons u v us)))
    ]

distinct_from_counts : (us : List Waiter) → ((w : Waiter) → among w us ≤ 1) → IsDistinct same_waiter us
unfolding IsDistinct
distinct_from_counts [] once = tt
distinct_from_counts (u ∷ us) once =
    let one : cond {A = ℕ} (same_waiter u u) 1 0 ≡ 1 = rw (same_waiter-refl u) refl in
    let few = once u in (
      none_among u us (omega (arith, among-cons u u us)),
      distinct_from_counts us (λ w. (let more = once w in omega (arith, among-cons w u us))),
    )

all_from_counts : (P : Waiter → Type 0) (us : List Waiter) → ((w : Waiter) → 0 < among w us → P w) → All P us
all_from_counts P [] each = All-nil P
all_from_counts P (u ∷ us) each =
    let one : cond {A = ℕ} (same_waiter u u) 1 0 ≡ 1 = rw (same_waiter-refl u) refl in
    All-cons P u us (each u (omega (arith, among-cons u u us))) (all_from_counts P us (λ w some. each w (omega (arith, among-cons w u us))))

-- ---- the queues of a lock, as they change

module _ (lists : Lists) where
  pub in_order-empty : (room : ℕ) → room ≤ 6144 → lists.main ≡ record { items = []; room = room } → lists.second ≡ record { items = []; room = room } → lists.passes ≡ record { items = []; room = room } → IsInOrder lists
  in_order-empty room small main second passes =
      subst (λ (l : Lists). IsInOrder l) (sym (λ i. record { main = main i; second = second i; passes = passes i }))
      (record {
        once = λ w. omega arith;
        in_room = λ w some. absurd (omega arith);
        second_room = refl;
        passes_room = refl;
        counted = refl;
        few = All-nil (λ n. n ≤ 65535);
        small = small;
      })

  module _ (ok : IsInOrder lists) where
    both : List Waiter
    both = lists.main.items ++ lists.second.items

    pub total_within : length lists.main.items + length lists.second.items ≤ lists.main.room
    unfolding both
    total_within =
        let few = queue_within lists.main.room both
        (distinct_from_counts both (λ w. (let once = ok.once w in omega (arith, among-append w lists.main.items lists.second.items))))
        (all_from_counts (IsOneOf lists.main.room) both (λ w some. ok.in_room w (omega (arith, among-append w lists.main.items lists.second.items)))) in
        omega (arith, few, length-append lists.main.items lists.second.items)

    first_stands : (us : List Waiter) (w : Waiter) → slice_get us 0 ≡ Some w → 0 < among w us
    first_stands [] w e = absurd (none-some w e)
    first_stands (u ∷ us) w e =
        let one : cond {A = ℕ} (same_waiter u w) 1 0 ≡ 1 = rw (same_waiter-from u w (same_Some u w e)) refl in
        omega (arith, one, among-cons w u us)

    -- the front, if there is one, is one of as many waiters as there is room for
    pub front_in_room : (front : Option Waiter) → front ≡ slice_get lists.main.items 0 → IfSome front (λ w. IsOneOf lists.main.room w)
    front_in_room None e = tt
    front_in_room (Some w) e = ok.in_room w (let stands = first_stands lists.main.items w (sym e) in omega (arith, stands))

    pub main_small : length lists.main.items ≤ 6144
    main_small = omega (arith, total_within, ok.small)

    -- where nobody stands more often than before, the waiters stay in order
    module _ (new : Lists) (fewer : (w : Waiter) → standing w new ≤ standing w lists) (main_room : new.main.room ≡ lists.main.room) where
      once-fewer : (w : Waiter) → standing w new ≤ 1
      once-fewer w = omega (arith, fewer w, ok.once w)

      in_room-fewer : (w : Waiter) → 0 < standing w new → IsOneOf new.main.room w
      in_room-fewer w some = subst (λ (n : ℕ). IsOneOf n w) (sym main_room) (ok.in_room w (omega (arith, fewer w, some)))

    pub in_order-pop : (front : Waiter) (rest : ListOf Waiter) → lists.main.items ≡ front ∷ rest.items → rest.room ≡ lists.main.room → IsInOrder (record lists { main = rest })
    in_order-pop front rest items room =
        let fewer : (w : Waiter) → standing w (record lists { main = rest }) ≤ standing w lists = λ w. omega (arith, among-cons w front rest.items, ap (among w) items) in
        record {
          once = once-fewer (record lists { main = rest }) fewer room;
          in_room = in_room-fewer (record lists { main = rest }) fewer room;
          second_room = ok.second_room ∙ sym room;
          passes_room = ok.passes_room ∙ sym room;
          counted = ok.counted;
          few = ok.few;
          small = subst (λ (n : ℕ). n ≤ 6144) (sym room) ok.small;
        }

    pub in_order-rejoined : IsInOrder (lists_rejoined lists)
    in_order-rejoined =
        let front = take 1 lists.main.items in
        let rest = drop 1 lists.main.items in
        let fewer : (w : Waiter) → standing w (lists_rejoined lists) ≤ standing w lists = λ w. omega (arith, among-append w front (lists.second.items ++ rest), among-append w lists.second.items rest, among-split w 1 lists.main.items) in
        record {
          once = once-fewer (lists_rejoined lists) fewer refl;
          in_room = in_room-fewer (lists_rejoined lists) fewer refl;
          second_room = ok.second_room;
          passes_room = ok.passes_room;
          counted = refl;
          few = All-nil (λ n. n ≤ 65535);
          small = ok.small;
        }

    pub in_order-passed : (k : ℕ) → length (lists_passed lists k).second.items ≡ length (lists_passed lists k).passes.items → All (λ n. n ≤ 65535) (lists_passed lists k).passes.items → IsInOrder (lists_passed lists k)
    in_order-passed k counted few =
        let rest = drop 1 lists.main.items in
        let fewer : (w : Waiter) → standing w (lists_passed lists k) ≤ standing w lists = λ w. omega (arith, among-append w lists.second.items (take k rest), among-split w k rest, ap (among w) (drop-rest k lists.main.items), among-split w 1 lists.main.items) in
        record {
          once = once-fewer (lists_passed lists k) fewer refl;
          in_room = in_room-fewer (lists_passed lists k) fewer refl;
          second_room = ok.second_room;
          passes_room = ok.passes_room;
          counted = counted;
          few = few;
          small = ok.small;
        }

module _ (holders : List Holder) (lists : Lists) (w : Waiter) (ok : IsInOrder lists) (one : IsOneOf lists.main.room w) (new : is_queued (history_of_lists holders lists) w ≡ false) where
  pushed : Lists
  pushed = record lists { main = record lists.main { items = lists.main.items ++ w ∷ [] } }

  stands : (v : Waiter) → (standing v pushed ≤ standing v lists) ⊎ ((same_waiter w v ≡ true) × (standing v pushed ≤ 1))
  unfolding pushed
  stands v =
      elim (cases_Bool (same_waiter w v)) [
        | inl met ↦
            (let same : w ≡ v = same_waiter-true w v met in
            let none : among v lists.main.items ≡ 0 = subst (λ (u : Waiter). among u lists.main.items ≡ 0) same (among-none w lists.main.items (or_parts (is_among lists.main.items w) (is_among lists.second.items w) new).0) in
            let aside : among v lists.second.items ≡ 0 = subst (λ (u : Waiter). among u lists.second.items ≡ 0) same (among-none w lists.second.items (or_parts (is_among lists.main.items w) (is_among lists.second.items w) new).1) in
            let two : cond {A = ℕ} (same_waiter w v) 1 0 ≡ 1 = rw met refl in
            inr (met, omega (arith, none, aside, two, among-push v lists.main.items w)))
        | inr unmet ↦
            (let zero : cond {A = ℕ} (same_waiter w v) 1 0 ≡ 0 = rw unmet refl in
            inl (omega (arith, zero, among-push v lists.main.items w)))
      ]

  pub in_order-push : IsInOrder (record lists { main = record lists.main { items = lists.main.items ++ w ∷ [] } })
  unfolding pushed
  in_order-push =
      record {
        once = λ v. elim (stands v) [ inl less ↦ omega (arith, less, ok.once v) | inr met ↦ met.1 ];
        in_room = λ v some. elim (stands v) [
          | inl less ↦ ok.in_room v (omega (arith, less, some))
          | inr met ↦ subst (λ (u : Waiter). IsOneOf lists.main.room u) (same_waiter-true w v met.0) one
        ];
        second_room = ok.second_room;
        passes_room = ok.passes_room;
        counted = ok.counted;
        few = ok.few;
        small = ok.small;
      }

  pub room_left : length lists.main.items < lists.main.room
  room_left =
      omega (arith, total_within (record lists { main = record lists.main { items = lists.main.items ++ w ∷ [] } }) in_order-push, length-append lists.main.items (w ∷ []))
