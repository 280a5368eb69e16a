-- One seat takes over all numbers.
use Rattle.std.proofs.Common.{◌≡◌, inl, inr, ℕ, ◌+◌, ◌<◌, ◌≤◌, List, [], ◌∷◌, ◌++◌, map, length}
use Rattle.std.proofs.Common.{get_or, take, Option, Some, None, sym, refl, ap, ◌∙◌, subst}
use Rattle.std.proofs.Common.{length-append, ⊎_elim, arith}
use Rattle.std.proofs.lemmas.List.{get_or-take, get_or_default, take-take, take_at}
use Rattle.lk_domain.proofs.Names.{dite, ℕ_discrete, Entry, Calls, IsEnd, ArePast, Ledger, Past}
use Rattle.lk_domain.proofs.Names.{cpus_of, all_past, numbers, past_of, times, view, Who, Plan}
use Rattle.lk_domain.proofs.Names.{View}
use Rattle.lk_domain.proofs.{seats.Parted.numbers_past, seats.Totals.times-here}
use Rattle.lk_domain.specs.{Ends.{In, past_at, HasPast, IsFinalOf}, Keeps.IsPast}
use Rattle.lk_domain.specs.Views.{newcomer, number_of, joined, with_more}

in_left : {A : Type 0} (x : A) (xs ys : List A) → In x xs → In x (xs ++ ys)
in_left x [] ys h = absurd h
in_left x (z ∷ xs) ys h = ⊎_elim (λ e. inl e) (λ t. inr (in_left x xs ys t)) h

in_right : {A : Type 0} (x : A) (xs ys : List A) → In x ys → In x (xs ++ ys)
in_right x [] ys h = h
in_right x (z ∷ xs) ys h = inr (in_right x xs ys h)

past_more : (o : Option ℕ) (g : Ledger) (n : ℕ) (xs ys : List Past)
    → past_of o (with_more g n) ++ (xs ++ ys) ≡ (past_of o g ++ xs) ++ ys
past_more None g n xs ys = refl
past_more (Some p) g n xs ys = refl

past_joined : (v u : View) (c : Calls) (n : ℕ)
    → all_past (view (joined v.who u) c (with_more v.ledger n)) ≡ all_past v ++ all_past u
past_joined v u c n = past_more v.who.number v.ledger n v.who.ended (all_past u)

past_new : (k : Plan) (i : ℕ) (u : View) → u.who ≡ newcomer k i
    → all_past u ≡ past_at i u.ledger ∷ []
past_new k i u e = ap (λ (w : Who). past_of w.number u.ledger ++ w.ended) e

get_last : {A : Type 0} (xs : List A) (x : A) → get_or (xs ++ x ∷ []) (length xs) x ≡ x
get_last [] x = refl
get_last (y ∷ ys) x = get_last ys x

-- the item that is taken off a beginning of a list
pub record Popped {A : Type 0} (all old new : List A) (u : A) : Type 0 where
  pub front : new ≡ take (length new) all
  pub item : u ≡ get_or all (length new) u
  pub long : length new + 1 ≡ length old

pub popped : {A : Type 0} (all old new : List A) (u : A) → old ≡ take (length old) all → old ≡ new ++ u ∷ []
    → Popped all old new u
popped {A} all old new u pre items =
    let long : length new + 1 ≡ length old = omega (arith, ap (λ (l : List A). length l) items, length-append new (u ∷ [])) in
    record {
      front = sym (ap (take (length new)) (sym pre ∙ items) ∙ take_at new (u ∷ []) (length new) refl)
          ∙ take-take (length new) (length old) all (omega arith);
      item = sym (get_last new u)
          ∙ (ap (λ (l : List A). get_or l (length new) u) (sym items ∙ pre)
          ∙ get_or-take (length old) all (length new) u (omega arith));
      long = long;
    }

-- the item that is taken off the list of all
pub last_popped : {A : Type 0} (all new : List A) (u : A) → all ≡ new ++ u ∷ [] → Popped all all new u
last_popped all new u items = popped all all new u (sym (take_all all)) items
  where
    take_all : {A : Type 0} (xs : List A) → take (length xs) xs ≡ xs
    take_all [] = refl
    take_all (x ∷ xs) = ap (λ ys. x ∷ ys) (take_all xs)

-- of which is true what is true of all
pub popped_is : {A : Type 0} (P : ℕ → A → Type 0) (all old new : List A) (u : A)
    → ((i : ℕ) (x : A) → i < length all → P i (get_or all i x)) → Popped all old new u → length new < length all
    → P (length new) u
popped_is P all old new u each t lt = subst (P (length new)) (sym t.item) (each (length new) u lt)

in_counted : (p : ℕ) (g : Ledger) (xs : List Past) → In (past_at p g) xs
    → 1 ≤ times p (map number_of xs)
in_counted p g [] h = absurd h
in_counted p g (x ∷ xs) h =
    ⊎_elim
    (λ e. let a = ap (λ (y : Past). times p (y.number ∷ map number_of xs)) (sym e) in let b = times-here p (map number_of xs) in omega (arith, a, b))
    (λ t. let a = in_counted p g xs t in omega arith) h

of_past : (k : Plan) (js : List Entry) (x : Past) (xs : List Past) → ArePast k js xs → In x xs
    → IsPast k js x
of_past k js x [] h i = absurd i
of_past k js x (y ∷ ys) h i =
    ⊎_elim (λ e. subst (IsPast k js) (sym e) h.0) (λ t. of_past k js x ys h.1 t) i

head_of : {A : Type 0} (xs : List A) → 0 < length xs → A
head_of [] h = absurd (omega arith)
head_of (x ∷ xs) h = x

-- processors of whichever kind, by what they know
module _ {C : Type 0} (view_of : C → View) where
  abbrev pub ledger_by : C → Ledger
  ledger_by c = (view_of c).ledger

  -- each has the number of its place
  abbrev pub AreNamed : Plan → List C → Type 0
  AreNamed k all = (i : ℕ) (x : C) → i < length all → (view_of (get_or all i x)).who ≡ newcomer k i

  pub first_heir : (k : Plan) (all : List C) (n : ℕ) (last : C) → AreNamed k all
      → n + 1 ≡ length all → last ≡ get_or all n last → HasPast ledger_by n all (all_past (view_of last))
  first_heir k all n last named long is i x le lt =
      let at : i ≡ n = omega arith in
      let same : get_or all i x ≡ last =
      ap (λ (j : ℕ). get_or all j x) at ∙ (get_or_default all n x last (omega arith) ∙ sym is) in
      let who : (view_of last).who ≡ newcomer k i = ap (λ (c : C). (view_of c).who) (sym same) ∙ named i x lt in
      subst (λ (c : C). In (past_at i (ledger_by c)) (all_past (view_of last))) (sym same)
      (subst (λ (xs : List Past). In (past_at i (ledger_by last)) xs) (sym (past_new k i (view_of last) who)) (inl refl))

  pub next_heir : (k : Plan) (all : List C) (n s : ℕ) (v : View) (u : C) (w : View) → AreNamed k all
      → n < length all → u ≡ get_or all n u → HasPast ledger_by (n + 1) all (all_past v)
      → w ≡ view (joined v.who (view_of u)) v.calls (with_more v.ledger s)
      → HasPast ledger_by n all (all_past w)
  next_heir k all n s v u w named inside is has e i x le lt =
      let xs : all_past w ≡ all_past v ++ all_past (view_of u) =
      ap all_past e ∙ past_joined v (view_of u) v.calls s in
      subst (λ (ps : List Past). In (past_at i (ledger_by (get_or all i x))) ps) (sym xs) (dite (ℕ_discrete i n)
      (λ at.
      let same : get_or all i x ≡ u = ap (λ (j : ℕ). get_or all j x) at ∙ (get_or_default all n x u inside ∙ sym is) in
      let who : (view_of u).who ≡ newcomer k i = ap (λ (c : C). (view_of c).who) (sym same) ∙ named i x lt in
      in_right (past_at i (ledger_by (get_or all i x))) (all_past v) (all_past (view_of u))
      (subst (λ (c : C). In (past_at i (ledger_by c)) (all_past (view_of u))) (sym same)
      (subst (λ (ps : List Past). In (past_at i (ledger_by u)) ps) (sym (past_new k i (view_of u) who)) (inl refl))))
      (λ ne. in_left (past_at i (ledger_by (get_or all i x))) (all_past v) (all_past (view_of u)) (has i x (omega arith) lt)))

  pub has_all : (all : List C) (v : View) (p : ℕ) → HasPast ledger_by 0 all (all_past v)
      → p < length all → 1 ≤ times p (numbers v)
  has_all all v p has lt =
      let d : C = head_of all (omega arith) in
      let a = ap (times p) (numbers_past v.who.number v.ledger v.who.ended) in
      let b = in_counted p (ledger_by (get_or all p d)) (all_past v) (has p d (omega arith) lt) in
      omega (arith, a, b)

  pub final : (k : Plan) (all : List C) (v : View) (js : List Entry) → HasPast ledger_by 0 all (all_past v)
      → cpus_of k ≡ length all → IsEnd k v js → IsFinalOf ledger_by k all js
  final k all v js has long end =
      record {
        replays = end.replays;
        past = λ i d lt. of_past k js (past_at i (ledger_by (get_or all i d))) (all_past v) end.past (has i d (omega arith) lt);
        none = λ q le. end.none q (omega arith);
      }
