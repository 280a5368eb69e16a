-- Holders come and go: none holds twice, and there is room for one more.
use Rattle.std.proofs.Common.{◌≡◌, ◌<◌, ◌≤◌, ◌+◌, ℕ, suc, List, [], ◌∷◌, ◌++◌, false, Some, None, length, refl, sym, ap, subst, ◌∙◌, inl, inr, arith, length-append}
use Rattle.std.specs.List.{AllByRecursion, IsDistinct, list_any, All, position, position_or_len, remove}
use Rattle.std.specs.Prelude.{nat_lt}
use Rattle.std.proofs.lemmas.Bool.{cases_Bool, or_parts, or_from, ltb-true, ltb-false}
use Rattle.std.proofs.lemmas.Option.{none-some, same_Some}
use Rattle.std.proofs.lemmas.List.{length-map}
use Rattle.std.proofs.lemmas.List.Elements.{All-nil, All-cons, All-head, All-push, All-tail}
use Rattle.std.proofs.lemmas.Map.Keys.{IsDistinct-push}
use Rattle.lk_names.specs.Names.{same_waiter}
use Rattle.lk_names.specs.ListOf.{ListOf}
use Rattle.lk_names.specs.History.{is_hold, without}
use Rattle.lk_abs.specs.Breaches.{is_among}
use Rattle.lk_names.specs.Lists.{IsOneOf, IsHeld, waiters_of}
use Rattle.lk_names.specs.declared.holder.Manner.{Manner}
use Rattle.lk_names.specs.declared.holder.Holder.{Holder}
use Rattle.lk_names.specs.declared.names.Waiter.{Waiter}
use Rattle.lk_abs.proofs.QueueRoom.{same_waiter-equivalence, not_among, queue_within}

waiters-push : (xs : List Holder) (x : Holder) → waiters_of (xs ++ x ∷ []) ≡ waiters_of xs ++ x.waiter ∷ []
waiters-push [] x = refl
waiters-push (y ∷ xs) x = ap (λ us. y.waiter ∷ us) (waiters-push xs x)

among-holders : (xs : List Holder) (w : Waiter) → list_any (λ x. same_waiter x.waiter w) xs ≡ false → is_among (waiters_of xs) w ≡ false
among-holders [] w e = refl
among-holders (x ∷ xs) w e = or_from _ _ (or_parts _ _ e).0 (among-holders xs w (or_parts _ _ e).1)

module _ (room : ℕ) (holders : ListOf Holder) where
  pub held-empty : holders ≡ record { items = []; room = room } → IsHeld room holders
  unfolding IsDistinct
  held-empty e =
      subst (λ (hs : ListOf Holder). IsHeld room hs) (sym e) (record { distinct = tt; in_room = All-nil (IsOneOf room); as_many = refl })

  module _ (w : Waiter) (m : Manner) (ok : IsHeld room holders) where
    module _ (one : IsOneOf room w) (new : list_any (λ x. same_waiter x.waiter w) holders.items ≡ false) where
      pub held-push : IsHeld room (record holders { items = holders.items ++ record { waiter = w; manner = m } ∷ [] })
      held-push =
          let is = sym (waiters-push holders.items (record { waiter = w; manner = m })) in
          record {
            distinct = subst (λ (us : List Waiter). IsDistinct same_waiter us) is (IsDistinct-push same_waiter-equivalence (waiters_of holders.items) w ok.distinct (not_among (waiters_of holders.items) w (among-holders holders.items w new)));
            in_room = subst (λ (us : List Waiter). All (IsOneOf room) us) is (All-push (IsOneOf room) (waiters_of holders.items) w ok.in_room one);
            as_many = ok.as_many;
          }

      pub hold_left : length holders.items < holders.room
      hold_left =
          let more = held-push in
          let x : Holder = record { waiter = w; manner = m } in
          let few = queue_within room (waiters_of (holders.items ++ x ∷ [])) more.distinct more.in_room in
          omega (arith, ok.as_many, length-map (holders.items ++ x ∷ []) (λ y. y.waiter), length-append holders.items (x ∷ []), few)

-- ---- a hold ends

module _ (w : Waiter) (m : Manner) where
  rest_apart : (u : Waiter) (xs : List Holder) → AllByRecursion {X = Waiter} (λ y. same_waiter u y ≡ false) (waiters_of xs) → AllByRecursion {X = Waiter} (λ y. same_waiter u y ≡ false) (waiters_of (without w m xs))
  rest_apart u [] e = e
  rest_apart u (x ∷ xs) e =
      elim (cases_Bool (is_hold w m x)) [
        | inl met ↦ rw met e.1
        | inr unmet ↦ rw unmet (e.0, rest_apart u xs e.1)
      ]

  rest_distinct : (xs : List Holder) → IsDistinct same_waiter (waiters_of xs) → IsDistinct same_waiter (waiters_of (without w m xs))
  unfolding IsDistinct
  rest_distinct [] d = tt
  rest_distinct (x ∷ xs) d =
      elim (cases_Bool (is_hold w m x)) [
        | inl met ↦ rw met d.1
        | inr unmet ↦ rw unmet (rest_apart x.waiter xs d.0, rest_distinct xs d.1)
      ]

  rest_all : (P : Waiter → Type 0) (xs : List Holder) → All P (waiters_of xs) → All P (waiters_of (without w m xs))
  rest_all P [] a = a
  rest_all P (x ∷ xs) a =
      elim (cases_Bool (is_hold w m x)) [
        | inl met ↦ rw met (All-tail P x.waiter (waiters_of xs) a)
        | inr unmet ↦ rw unmet (All-cons P x.waiter (waiters_of (without w m xs)) (All-head P x.waiter (waiters_of xs) a) (rest_all P xs (All-tail P x.waiter (waiters_of xs) a)))
      ]

  pub held-without : (room : ℕ) (holders : ListOf Holder) → IsHeld room holders → IsHeld room (record holders { items = without w m holders.items })
  held-without room holders ok =
      record { distinct = rest_distinct holders.items ok.distinct; in_room = rest_all (IsOneOf room) holders.items ok.in_room; as_many = ok.as_many }

remove-cons : {X : Type 0} (x : X) (xs : List X) (n : ℕ) → remove (x ∷ xs) (1 + n) ≡ x ∷ remove xs n
remove-cons {X} x xs n = subst (λ (k : ℕ). remove (x ∷ xs) k ≡ x ∷ remove xs n) (suc_is n) refl
  where
    suc_is : (n : ℕ) → suc n ≡ 1 + n
    suc_is n = omega arith

module _ (w : Waiter) (m : Manner) where
  without-remove : (xs : List Holder) → position_or_len (is_hold w m) xs < length xs → without w m xs ≡ remove xs (position_or_len (is_hold w m) xs)
  without-remove [] less = absurd (omega arith)
  without-remove (x ∷ xs) less =
      elim (cases_Bool (is_hold w m x)) [
        | inl met ↦ rw met refl
        | inr unmet ↦
            (let after : 1 + position_or_len (is_hold w m) xs < length (x ∷ xs) = rw unmet at less in
            rw unmet (ap (λ ys. x ∷ ys) (without-remove xs (omega arith)) ∙ sym (remove-cons x xs (position_or_len (is_hold w m) xs))))
      ]

  without-none : (xs : List Holder) → length xs ≤ position_or_len (is_hold w m) xs → without w m xs ≡ xs
  without-none [] far = refl
  without-none (x ∷ xs) far =
      elim (cases_Bool (is_hold w m x)) [
        | inl met ↦ (let none : length (x ∷ xs) ≤ 0 = rw met at far in absurd (omega arith))
        | inr unmet ↦
            (let after : length (x ∷ xs) ≤ 1 + position_or_len (is_hold w m) xs = rw unmet at far in
            rw unmet (ap (λ ys. x ∷ ys) (without-none xs (omega arith))))
      ]

  pub remove_from_position : (xs : List Holder) (i : ℕ) → position (is_hold w m) xs ≡ Some i → remove xs i ≡ without w m xs
  remove_from_position xs i e =
      elim (cases_Bool (nat_lt (position_or_len (is_hold w m) xs) (length xs))) [
        | inl less ↦
            (let same : position_or_len (is_hold w m) xs ≡ i = same_Some _ i (rw less at e) in
            ap (remove xs) (sym same) ∙ sym (without-remove xs (ltb-true _ _ less)))
        | inr far ↦ absurd (none-some i (rw far at e))
      ]

  pub same_from_no_position : (xs : List Holder) → position (is_hold w m) xs ≡ None → without w m xs ≡ xs
  same_from_no_position xs e =
      elim (cases_Bool (nat_lt (position_or_len (is_hold w m) xs) (length xs))) [
        | inl less ↦ absurd (none-some _ (sym (rw less at e)))
        | inr far ↦ without-none xs (ltb-false _ _ far)
      ]
