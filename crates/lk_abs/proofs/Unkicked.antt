-- No front is left asleep exactly where each that sleeps by a free lock is owed a kick.
use Rattle.std.proofs.Common.{◌≡◌, ◌≢◌, ◌≤◌, ◌<◌, ◌+◌, ◌-◌, ◌*◌, ◌/◌, ◌%◌, ◌↔◌, ℕ, zero, suc, List, [], ◌∷◌, Bool, true, false, not, Option, Some, None, eqb, refl, sym, ap, subst, ◌∙◌, inl, inr, arith}
use Rattle.std.specs.Prelude.{nat_lt, ◌&&◌, ◌==◌, if◌then◌else◌, is_some, IsTrue}
use Rattle.std.specs.Option.{option_or}
use Rattle.std.specs.List.{All, slice_get}
use Rattle.std.proofs.lemmas.Bool.{cases_Bool, or_cases, true≢false, eqb-true, eq-eqb, lt-ltb, ltb-true, ltb-false}
use Rattle.std.proofs.lemmas.List.Elements.{All-nil, All-cons, All-head, All-tail}
use Rattle.std.proofs.lemmas.Option.{none-some, same_Some}
use Rattle.lk_names.specs.Names.{place_of, lock_at, locks_from}
use Rattle.lk_names.specs.History.{LockHistory, no_history, history_of}
use Rattle.lk_names.specs.Kicks.{sleeps, owing, kicks_made, is_kicked, IsOwed, KickState, kicks_of}
use Rattle.lk_names.specs.Lawful.{FrontIsOwed}
use Rattle.lk_abs.specs.NoKick.{is_owed, first_if_free, left_by, left_asleep, no_kick, unkicked}
use Rattle.lk_names.specs.declared.holder.Holder.{Holder}
use Rattle.lk_names.specs.declared.names.Mode.{Mode}
use Rattle.lk_names.specs.declared.names.Mode.TheVariants.{Virt, Native, Cna, Pv}
use Rattle.lk_names.specs.declared.names.Waiter.{Waiter}
use Rattle.lk_names.specs.declared.names.LockName.{LockName}
use Rattle.lk_names.specs.declared.events.Event.{Event}
use Rattle.lk_names.specs.declared.events.Breach.{Breach}
use Rattle.lk_abs.proofs.Clauses.{none-false, false-none, or-none, none-or}

-- ---- locks and their numbers

pub lock_at-place_of : (l : LockName) → lock_at (place_of l) ≡ l
lock_at-place_of l = at-parts l.index l.wait
  where
    at-parts : (n : ℕ) (b : Bool) → ◌≡◌ {A = LockName} (lock_at (n * 2 + (if b then 1 else 0))) (record { index = n; wait = b })
    at-parts n true =
        let index : (n * 2 + 1) / 2 ≡ n = omega arith in
        let odd : (n * 2 + 1) % 2 ≡ 1 = omega arith in
        λ i. record { index = index i; wait = eq-eqb ((n * 2 + 1) % 2) 1 odd i }
    at-parts n false =
        let index : (n * 2 + 0) / 2 ≡ n = omega arith in
        let even : (n * 2 + 0) % 2 ≡ 0 = omega arith in
        λ i. record { index = index i; wait = ap (λ m. m == 1) even i }

pub place_of-lock_at : (n : ℕ) → place_of (lock_at n) ≡ n
place_of-lock_at n =
    elim (cases_Bool (eqb (n % 2) 1)) [
      | inl odd ↦ (let one : n % 2 ≡ 1 = eqb-true (n % 2) 1 odd in rw odd (omega (arith, one)))
      | inr even ↦
          (let none : n % 2 ≢ 1 = λ e. true≢false (sym (eq-eqb (n % 2) 1 e) ∙ even) in
          rw even (omega (arith, none)))
    ]

module _ (P : LockName → Type 0) where
  all_locks : ((l : LockName) → P l) → (n count : ℕ) → All P (locks_from n count)
  all_locks each n zero = All-nil P
  all_locks each n (suc count) = All-cons P (lock_at n) (locks_from (suc n) count) (each (lock_at n)) (all_locks each (suc n) count)

  of_each_lock : (n count : ℕ) → All P (locks_from n count) → (m : ℕ) → n ≤ m → m < n + count → P (lock_at m)
  of_each_lock n zero all m low high = absurd (omega (arith, low, high))
  of_each_lock n (suc count) all m low high =
      elim (cases_Bool (eqb m n)) [
        | inl met ↦ subst (λ (k : ℕ). P (lock_at k)) (sym (eqb-true m n met)) (All-head P (lock_at n) (locks_from (suc n) count) all)
        | inr unmet ↦
            (let apart : m ≢ n = λ e. true≢false (sym (eq-eqb m n e) ∙ unmet) in
            of_each_lock (suc n) count (All-tail P (lock_at n) (locks_from (suc n) count) all) m (omega (arith, low, apart)) (omega (arith, high)))
      ]

-- ---- the search, from one number on

module _ (s : KickState) (history : LockName → LockHistory) where
  some-found : (b : Option Breach) (rest : Option Breach) → IsTrue (is_some b) → b ≡ option_or b rest
  some-found (Some x) rest e = refl
  some-found None rest e = absurd (true≢false (sym e))

  none-more : (b : Option Breach) (rest : Option Breach) → is_some b ≡ false → option_or b rest ≡ rest
  none-more None rest e = refl
  none-more (Some x) rest e = absurd (true≢false e)

  step-of : (n count : ℕ) → n < count → no_kick s history (locks_from n (count - n)) ≡ option_or (left_asleep s (lock_at n) (history (lock_at n))) (no_kick s history (locks_from (n + 1) (count - (n + 1))))
  step-of n count less =
      let more : count - n ≡ suc (count - (n + 1)) = omega (arith, less) in
      let next : suc n ≡ n + 1 = omega arith in
      ap (λ m. no_kick s history (locks_from n m)) more ∙ ap (λ m. option_or (left_asleep s (lock_at n) (history (lock_at n))) (no_kick s history (locks_from m (count - (n + 1))))) next

  pub no_kick-found : (n count : ℕ) (b : Option Breach) → n < count → b ≡ left_asleep s (lock_at n) (history (lock_at n)) → is_some b ≡ true → b ≡ no_kick s history (locks_from n (count - n))
  no_kick-found n count b less is found = some-found b _ found ∙ ap (λ (o : Option Breach). option_or o (no_kick s history (locks_from (n + 1) (count - (n + 1))))) is ∙ sym (step-of n count less)

  pub no_kick-more : (n count : ℕ) (b : Option Breach) → n < count → b ≡ left_asleep s (lock_at n) (history (lock_at n)) → is_some b ≡ false → no_kick s history (locks_from n (count - n)) ≡ no_kick s history (locks_from (n + 1) (count - (n + 1)))
  no_kick-more n count b less is none = step-of n count less ∙ ap (λ (o : Option Breach). option_or o (no_kick s history (locks_from (n + 1) (count - (n + 1))))) (sym is) ∙ none-more b _ none

-- ---- one front

some_hold : (x : Holder) (xs : List Holder) → x ∷ xs ≡ [] → ⊥
some_hold x xs e = cc

module _ (es : List Event) where
  owed-true : (p : ℕ) → is_owed (kicks_of es) p ≡ true → IsOwed p es
  owed-true p e = elim (or_cases (nat_lt (kicks_made p es) (owing p es)) (is_kicked p es) e) [ inl less ↦ inl (ltb-true _ _ less) | inr kicked ↦ inr kicked ]

  owed-from : (p : ℕ) → IsOwed p es → is_owed (kicks_of es) p ≡ true
  owed-from p (inl less) = rw (lt-ltb (kicks_made p es) (owing p es) less) refl
  owed-from p (inr kicked) =
      elim (cases_Bool (nat_lt (kicks_made p es) (owing p es))) [ inl less ↦ rw less refl | inr more ↦ rw more kicked ]

  left_none : (a b : Bool) → (a ≡ true → b ≡ true) → (a && not b) ≡ false
  left_none true true f = refl
  left_none true false f = absurd (true≢false (sym (f refl)))
  left_none false b f = refl

  none_left : (a b : Bool) → (a && not b) ≡ false → a ≡ true → b ≡ true
  none_left true true e a = refl
  none_left true false e a = absurd (true≢false e)
  none_left false b e a = absurd (true≢false (sym a))

  by-none : (l : LockName) (front : Option Waiter) → left_by (kicks_of es) l front ≡ None → (w : Waiter) → front ≡ Some w → sleeps w es ≡ true → IsOwed w.cpu es
  by-none l None e w at asleep = absurd (none-some w at)
  by-none l (Some u) e w at asleep =
      let same : u ≡ w = same_Some u w at in
      let here : sleeps u es ≡ true = subst (λ (v : Waiter). sleeps v es ≡ true) (sym same) asleep in
      subst (λ (v : Waiter). IsOwed v.cpu es) same (owed-true u.cpu (none_left (sleeps u es) (is_owed (kicks_of es) u.cpu) (none-false _ _ e) here))

  none-by : (l : LockName) (front : Option Waiter) → ((w : Waiter) → front ≡ Some w → sleeps w es ≡ true → IsOwed w.cpu es) → left_by (kicks_of es) l front ≡ None
  none-by l None f = refl
  none-by l (Some u) f = false-none _ _ (left_none (sleeps u es) (is_owed (kicks_of es) u.cpu) (λ asleep. owed-from u.cpu (f u refl asleep)))

  free-none : (l : LockName) (xs : List Holder) (main : List Waiter) → left_by (kicks_of es) l (first_if_free xs main) ≡ None → (w : Waiter) → slice_get main 0 ≡ Some w → xs ≡ [] → sleeps w es ≡ true → IsOwed w.cpu es
  free-none l (x ∷ xs) main e w front free asleep = absurd (some_hold x xs free)
  free-none l [] main e w front free asleep = by-none l (slice_get main 0) e w front asleep

  none-free : (l : LockName) (xs : List Holder) (main : List Waiter) → ((w : Waiter) → slice_get main 0 ≡ Some w → xs ≡ [] → sleeps w es ≡ true → IsOwed w.cpu es) → left_by (kicks_of es) l (first_if_free xs main) ≡ None
  none-free l (x ∷ xs) main f = refl
  none-free l [] main f = none-by l (slice_get main 0) (λ w front asleep. f w front refl asleep)

  left_asleep-exact : (l : LockName) → (left_asleep (kicks_of es) l (history_of l es) ≡ None) ↔ FrontIsOwed es l
  left_asleep-exact l = (
    λ e w front free asleep. free-none l (history_of l es).holders (history_of l es).main e w front free asleep,
    λ owed. none-free l (history_of l es).holders (history_of l es).main owed,
  )

  -- ---- the fronts of many locks

  pub all_from_no_kick : (ls : List LockName) → no_kick (kicks_of es) (λ l. history_of l es) ls ≡ None → All (FrontIsOwed es) ls
  all_from_no_kick [] e = All-nil (FrontIsOwed es)
  all_from_no_kick (l ∷ ls) e =
      let parts = or-none (left_asleep (kicks_of es) l (history_of l es)) (no_kick (kicks_of es) (λ l. history_of l es) ls) e in
      All-cons (FrontIsOwed es) l ls ((left_asleep-exact l).0 parts.0) (all_from_no_kick ls parts.1)

  pub no_kick_from_all : (ls : List LockName) → All (FrontIsOwed es) ls → no_kick (kicks_of es) (λ l. history_of l es) ls ≡ None
  no_kick_from_all [] all = refl
  no_kick_from_all (l ∷ ls) all =
      none-or (left_asleep (kicks_of es) l (history_of l es)) (no_kick (kicks_of es) (λ l. history_of l es) ls) ((left_asleep-exact l).1 (All-head (FrontIsOwed es) l ls all)) (no_kick_from_all ls (All-tail (FrontIsOwed es) l ls all))

  -- where nothing is said of the locks from this number on, the search over those below it is as good as over all
  module _ (count : ℕ) (silent : (l : LockName) → count ≤ place_of l → history_of l es ≡ no_history) where
    each_owed : no_kick (kicks_of es) (λ l. history_of l es) (locks_from 0 count) ≡ None → (l : LockName) → FrontIsOwed es l
    each_owed none l =
        elim (cases_Bool (nat_lt (place_of l) count)) [
          | inl low ↦
              (let within : place_of l < count = ltb-true (place_of l) count low in
              subst (FrontIsOwed es) (lock_at-place_of l) (of_each_lock (FrontIsOwed es) 0 count (all_from_no_kick (locks_from 0 count) none) (place_of l) (omega arith) (omega (arith, within))))
          | inr high ↦ (λ w front free asleep. absurd (none-some w (ap (λ h. slice_get h.main 0) (sym (silent l (ltb-false (place_of l) count high))) ∙ front)))
        ]

    pub unkicked-exact : (mode : Mode) → (unkicked mode (kicks_of es) (λ l. history_of l es) count ≡ None) ↔ (mode ≡ Pv → (l : LockName) → FrontIsOwed es l)
    unkicked-exact Pv = (λ none pv. each_owed none, λ owed. no_kick_from_all (locks_from 0 count) (all_locks (FrontIsOwed es) (owed refl) 0 count))
    unkicked-exact Virt = (λ none pv. absurd (other pv), λ owed. refl)
      where
        other : Virt ≡ Pv → ⊥
        other e = cc
    unkicked-exact Native = (λ none pv. absurd (other pv), λ owed. refl)
      where
        other : Native ≡ Pv → ⊥
        other e = cc
    unkicked-exact Cna = (λ none pv. absurd (other pv), λ owed. refl)
      where
        other : Cna ≡ Pv → ⊥
        other e = cc
