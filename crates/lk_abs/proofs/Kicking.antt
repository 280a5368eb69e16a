-- What is kept of halts and kicks, as events come.
use Rattle.std.proofs.Common.{◌≡◌, ◌≢◌, ◌<◌, ◌+◌, ◌*◌, ℕ, List, [], ◌∷◌, ◌++◌, Bool, true, false, Some, refl, sym, ap, subst, ◌∙◌, inl, inr, arith, eqb, length-set}
use Rattle.std.specs.Prelude.{slice_set, nat_lt, ◌==◌, if◌then◌else◌}
use Rattle.std.proofs.lemmas.Option.{same_Some}
use Rattle.lk_names.specs.ListOf.{ListOf}
use Rattle.lk_names.specs.declared.names.LockName.{LockName}
use Rattle.lk_names.specs.declared.events.What.TheVariants.{Kick, Release, Wake}
use Rattle.std.specs.List.{slice_get}
use Rattle.std.proofs.lemmas.Bool.{cases_Bool, eqb-true, eq-eqb, ltb-true, ltb-false, true≢false}
use Rattle.lk_names.specs.Kicks.{sleeps_from, sleeps_after, owes, owing, kicks, kicks_made, kicked_after, is_kicked_from, kicks_of, kicks_told}
use Rattle.lk_names.specs.Lists.{waiter_number}
use Rattle.lk_abs.specs.Remembered.{IsRoused, IsToldOn}
use Rattle.lk_names.specs.declared.names.Waiter.{Waiter}
use Rattle.lk_names.specs.declared.events.Event.{Event}
use Rattle.lk_abs.specs.declared.kick_record.KickRecord.{KickRecord}
use Rattle.lk_names.proofs.Places.{slice_get-set_same, slice_get-set_other}

pub roused-step : (old now : List Bool) (i n : ℕ) (b : Bool) → IsRoused old now i n → slice_get now (i + n) ≡ Some b → IsRoused old (slice_set now (i + n) false) i (n + 1)
roused-step old now i n b was at =
    record {
      as_long = length-set now (i + n) false ∙ was.as_long;
      inside = λ j low high.
          elim (cases_Bool (eqb j (i + n))) [
            | inl met ↦ subst (λ (k : ℕ). slice_get (slice_set now (i + n) false) k ≡ Some false) (sym (eqb-true j (i + n) met)) (slice_get-set_same false now (i + n) b at)
            | inr unmet ↦
                (let apart : j ≢ i + n = λ e. true≢false (sym (eq-eqb j (i + n) e) ∙ unmet) in
                slice_get-set_other false now (i + n) j apart ∙ was.inside j low (omega (arith, high, apart)))
          ];
      before = λ j low. slice_get-set_other false now (i + n) j (λ e. absurd (omega (arith, low, e))) ∙ was.before j low;
      after = λ j high. slice_get-set_other false now (i + n) j (λ e. absurd (omega (arith, high, e))) ∙ was.after j (omega (arith, high));
    }

-- ---- one event more

sleeps_from-push : (w : Waiter) (b : Bool) (es : List Event) (e : Event) → sleeps_from w b (es ++ e ∷ []) ≡ sleeps_after w (sleeps_from w b es) e
sleeps_from-push w b [] e = refl
sleeps_from-push w b (x ∷ es) e = sleeps_from-push w (sleeps_after w b x) es e

is_kicked_from-push : (p : ℕ) (b : Bool) (es : List Event) (e : Event) → is_kicked_from p b (es ++ e ∷ []) ≡ kicked_after p (is_kicked_from p b es) e
is_kicked_from-push p b [] e = refl
is_kicked_from-push p b (x ∷ es) e = is_kicked_from-push p (kicked_after p b x) es e

owing-push : (p : ℕ) (es : List Event) (e : Event) → owing p (es ++ e ∷ []) ≡ owes p e.what + owing p es
owing-push p [] e = refl
owing-push p (x ∷ es) e = ap (λ n. owes p x.what + n) (owing-push p es e) ∙ omega arith

kicks_made-push : (p : ℕ) (es : List Event) (e : Event) → kicks_made p (es ++ e ∷ []) ≡ kicks p e.what + kicks_made p es
kicks_made-push p [] e = refl
kicks_made-push p (x ∷ es) e = ap (λ n. kicks p x.what + n) (kicks_made-push p es e) ∙ omega arith

pub kicks_of-push : (es : List Event) (e : Event) → kicks_of (es ++ e ∷ []) ≡ kicks_told (kicks_of es) e
kicks_of-push es e =
    λ i. record {
      asleep = λ w. sleeps_from-push w false es e i;
      owing = λ p. owing-push p es e i;
      made = λ p. kicks_made-push p es e i;
      kicked = λ p. is_kicked_from-push p false es e i;
    }

-- ---- what each event leaves

unkept : (m : ℕ) → m ≡ 0 + m
unkept m = omega arith

-- a count at one place rises by one
counted-at : (ms : List ℕ) (q m p n : ℕ) → slice_get ms q ≡ Some m → slice_get ms p ≡ Some n → slice_get (slice_set ms q (m + 1)) p ≡ Some ((if q == p then 1 else 0) + n)
counted-at ms q m p n at here =
    elim (cases_Bool (eqb q p)) [
      | inl met ↦
          (let same : q ≡ p = eqb-true q p met in
          let value : m ≡ n = same_Some m n (sym at ∙ ap (slice_get ms) same ∙ here) in
          rw met (ap (slice_get (slice_set ms q (m + 1))) (sym same) ∙ slice_get-set_same (m + 1) ms q m at ∙ ap Some (more m n value)))
      | inr unmet ↦
          (let apart : p ≢ q = λ e. true≢false (sym (eq-eqb q p (sym e)) ∙ unmet) in
          rw unmet (slice_get-set_other (m + 1) ms q p apart ∙ here ∙ ap Some (unkept n)))
    ]
  where
    more : (m n : ℕ) → m ≡ n → m + 1 ≡ 1 + n
    more m n e = omega (arith, e)

-- a mark at one place is written
marked-at : (bs : List Bool) (v : Bool) (q p : ℕ) (a b : Bool) → slice_get bs q ≡ Some a → slice_get bs p ≡ Some b → slice_get (slice_set bs q v) p ≡ Some (if q == p then v else b)
marked-at bs v q p a b at here =
    elim (cases_Bool (eqb q p)) [
      | inl met ↦ rw met (ap (slice_get (slice_set bs q v)) (sym (eqb-true q p met)) ∙ slice_get-set_same v bs q a at)
      | inr unmet ↦
          (let apart : p ≢ q = λ e. true≢false (sym (eq-eqb q p (sym e)) ∙ unmet) in
          rw unmet (slice_get-set_other v bs q p apart ∙ here))
    ]

module _ (old : KickRecord) (e : Event) where
  pub told-kick : (q m : ℕ) (a : Bool) → e.what ≡ Kick q → slice_get old.kicks.items q ≡ Some m → slice_get old.kicked.items q ≡ Some a → IsToldOn old (record old { kicks = record old.kicks { items = slice_set old.kicks.items q (m + 1) }; kicked = record old.kicked { items = slice_set old.kicked.items q true } }) e
  told-kick q m a is count mark =
      record {
        as_many = refl;
        asleep = λ w b ctx cpu at. rw is at;
        owed = λ p n at. rw is (at ∙ ap Some (unkept n));
        kicks = λ p n at. rw is (counted-at old.kicks.items q m p n count at);
        kicked = λ p b at. rw is (marked-at old.kicked.items true q p a b mark at);
      }

  pub told-owing : (l : LockName) (q m : ℕ) → e.what ≡ Release l (Some q) → slice_get old.owing.items q ≡ Some m → IsToldOn old (record old { owing = record old.owing { items = slice_set old.owing.items q (m + 1) } }) e
  told-owing l q m is count =
      record {
        as_many = length-set old.owing.items q (m + 1);
        asleep = λ w b ctx cpu at. rw is at;
        owed = λ p n at. rw is (counted-at old.owing.items q m p n count at);
        kicks = λ p n at. rw is (at ∙ ap Some (unkept n));
        kicked = λ p b at. rw is at;
      }

  roused-at : (new : List Bool) (w : Waiter) (b : Bool) → w.ctx < 6 → IsRoused old.asleep.items new (e.by.cpu * 6) 6 → slice_get old.asleep.items (waiter_number w) ≡ Some b → slice_get new (waiter_number w) ≡ Some (if e.by.cpu == w.cpu then false else b)
  roused-at new w b ctx roused at =
      elim (cases_Bool (eqb e.by.cpu w.cpu)) [
        | inl met ↦
            (let same : e.by.cpu ≡ w.cpu = eqb-true e.by.cpu w.cpu met in
            rw met (roused.inside (waiter_number w) (omega (arith, same)) (omega (arith, same, ctx))))
        | inr unmet ↦
            (let apart : e.by.cpu ≢ w.cpu = λ q. true≢false (sym (eq-eqb e.by.cpu w.cpu q) ∙ unmet) in
            rw unmet
            (elim (cases_Bool (nat_lt w.cpu e.by.cpu)) [
              | inl low ↦ (let less = ltb-true w.cpu e.by.cpu low in roused.before (waiter_number w) (omega (arith, less, ctx)) ∙ at)
              | inr high ↦ (let more = ltb-false w.cpu e.by.cpu high in roused.after (waiter_number w) (omega (arith, more, apart)) ∙ at)
            ]))
      ]

  pub told-wake : (l : LockName) (asleep : ListOf Bool) (a : Bool) → e.what ≡ Wake l → IsRoused old.asleep.items asleep.items (e.by.cpu * 6) 6 → slice_get old.kicked.items e.by.cpu ≡ Some a → IsToldOn old (record old { asleep = asleep; kicked = record old.kicked { items = slice_set old.kicked.items e.by.cpu false } }) e
  told-wake l asleep a is roused mark =
      record {
        as_many = refl;
        asleep = λ w b ctx cpu at. rw is (roused-at asleep.items w b ctx roused at);
        owed = λ p n at. rw is (at ∙ ap Some (unkept n));
        kicks = λ p n at. rw is (at ∙ ap Some (unkept n));
        kicked = λ p b at. rw is (marked-at old.kicked.items false e.by.cpu p a b mark at);
      }
