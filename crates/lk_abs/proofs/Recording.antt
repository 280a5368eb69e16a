-- What is kept of halts and kicks after one more event says what the history says then.
use Rattle.std.proofs.Common.{◌≡◌, ◌<◌, ◌≤◌, ◌+◌, ℕ, List, [], Bool, true, false, Some, None, length, replicate, refl, sym, ap, ◌∙◌, inl, inr, arith, eqb, get_or}
use Rattle.std.specs.Prelude.{nat_lt, ◌==◌, ◌&&◌, if◌then◌else◌}
use Rattle.std.specs.List.{slice_get, All}
use Rattle.std.proofs.lemmas.Bool.{cases_Bool, and_parts, eqb-true, ltb-true, ltb-false, false_from_ne_true}
use Rattle.std.proofs.lemmas.List.{get_or_past, get_or-replicate, length-replicate}
use Rattle.std.proofs.lemmas.List.Elements.{All-weaker, All-from_get_or}
use Rattle.std.proofs.lemmas.Option.{get_or_from_slice_get, slice_get-get_or}
use Rattle.lk_names.specs.Names.{same_waiter}
use Rattle.lk_names.specs.Kicks.{sleeps_after, owes, kicks, kicked_after, kicks_of, kicks_told}
use Rattle.lk_names.specs.Lists.{waiter_number}
use Rattle.lk_abs.specs.Remembered.{state_of, HasRoom, IsNamed, IsNamedBy, IsToldOn}
use Rattle.lk_names.specs.declared.names.Waiter.{Waiter}
use Rattle.lk_names.specs.declared.events.Event.{Event}
use Rattle.lk_names.specs.declared.events.What.{What}
use Rattle.lk_names.specs.declared.events.What.TheVariants.{Kick, Release, Halt, Wake, Int, Nudge}
use Rattle.lk_abs.specs.declared.kick_record.KickRecord.{KickRecord}

-- ---- a list of one item reads as that item

read_replicate : {X : Type 0} (n i : ℕ) (x : X) → get_or (replicate n x) i x ≡ x
read_replicate n i x =
    elim (cases_Bool (nat_lt i n)) [
      | inl low ↦ get_or-replicate n i x x (ltb-true i n low)
      | inr high ↦ get_or_past (replicate n x) i x (omega (arith, ltb-false i n high, length-replicate n x))
    ]

-- ---- of others an event says nothing

still_false : (b : Bool) → (if b then false else false) ≡ false
still_false true = refl
still_false false = refl

awake-other : (w u : Waiter) (what : What) → same_waiter u w ≡ false → sleeps_after w false (record { by = u; what = what }) ≡ false
awake-other w u (Halt l) apart = rw apart refl
awake-other w u (Wake l) apart = still_false (u.cpu == w.cpu)
awake-other w u Int apart = still_false (u.cpu == w.cpu)
awake-other w u Nudge apart = still_false (u.cpu == w.cpu)
awake-other w u _ apart = refl

unnamed : (q p count : ℕ) → q < count → count ≤ p → eqb q p ≡ false
unnamed q p count low high = false_from_ne_true (eqb q p) (λ e. (let same : q ≡ p = eqb-true q p e in absurd (omega arith)))

owes-other : (count p : ℕ) (what : What) → IsNamedBy count what → count ≤ p → owes p what ≡ 0
owes-other count p (Release l (Some q)) named high = rw (unnamed q p count named high) refl
owes-other count p (Release l None) named high = refl
owes-other count p _ named high = refl

kicks-other : (count p : ℕ) (what : What) → IsNamedBy count what → count ≤ p → kicks p what ≡ 0
kicks-other count p (Kick q) named high = rw (unnamed q p count named high) refl
kicks-other count p _ named high = refl

kicked-other : (count p : ℕ) (u : Waiter) (what : What) → IsNamedBy count what → count ≤ p → kicked_after p false (record { by = u; what = what }) ≡ false
kicked-other count p u (Kick q) named high = rw (unnamed q p count named high) refl
kicked-other count p u (Wake l) named high = still_false (u.cpu == p)
kicked-other count p u _ named high = refl

-- ---- an event counts once at most

one_at_most : (b : Bool) → (if b then 1 else 0) ≤ 1
one_at_most true = omega arith
one_at_most false = omega arith

owes-few : (p : ℕ) (what : What) → owes p what ≤ 1
owes-few p (Release l (Some q)) = one_at_most (q == p)
owes-few p (Release l None) = omega arith
owes-few p _ = omega arith

kicks-few : (p : ℕ) (what : What) → kicks p what ≤ 1
kicks-few p (Kick q) = one_at_most (q == p)
kicks-few p _ = omega arith

-- ---- what is kept after the event

module _ (old new : KickRecord) (e : Event) (had : HasRoom old) (has : HasRoom new) (named : IsNamed (length old.owing.items) e) (told : IsToldOn old new e) where
  read_asleep : (w : Waiter) → (nat_lt w.ctx 6 && get_or new.asleep.items (waiter_number w) false) ≡ sleeps_after w (nat_lt w.ctx 6 && get_or old.asleep.items (waiter_number w) false) e
  read_asleep w =
      elim (cases_Bool (nat_lt w.ctx 6)) [
        | inl six ↦
            (let ctx : w.ctx < 6 = ltb-true w.ctx 6 six in
            rw six
            (elim (cases_Bool (nat_lt w.cpu (length old.owing.items))) [
              | inl low ↦
                  (let cpu : w.cpu < length old.owing.items = ltb-true w.cpu (length old.owing.items) low in
                  let was : slice_get old.asleep.items (waiter_number w) ≡ Some (get_or old.asleep.items (waiter_number w) false) = slice_get-get_or old.asleep.items (waiter_number w) false (omega (arith, ctx, cpu, had.asleep)) in
                  get_or_from_slice_get new.asleep.items (waiter_number w) _ false (told.asleep w _ ctx cpu was))
              | inr high ↦
                  (let past : length old.owing.items ≤ w.cpu = ltb-false w.cpu (length old.owing.items) high in
                  let apart : same_waiter e.by w ≡ false = false_from_ne_true (same_waiter e.by w) (λ same. (let here : e.by.cpu ≡ w.cpu = eqb-true e.by.cpu w.cpu (and_parts (eqb e.by.cpu w.cpu) (eqb e.by.ctx w.ctx) same).0 in absurd (omega (arith, here, past, named.cpu)))) in
                  rw (get_or_past new.asleep.items (waiter_number w) false (omega (arith, past, has.asleep, told.as_many)), get_or_past old.asleep.items (waiter_number w) false (omega (arith, past, had.asleep))) (sym (awake-other w e.by e.what apart)))
            ]))
        | inr more ↦
            (let past : 6 ≤ w.ctx = ltb-false w.ctx 6 more in
            let apart : same_waiter e.by w ≡ false = false_from_ne_true (same_waiter e.by w) (λ same. (let here : e.by.ctx ≡ w.ctx = eqb-true e.by.ctx w.ctx (and_parts (eqb e.by.cpu w.cpu) (eqb e.by.ctx w.ctx) same).1 in absurd (omega (arith, here, past, named.ctx)))) in
            rw more (sym (awake-other w e.by e.what apart)))
      ]

  read_owing : (p : ℕ) → get_or new.owing.items p 0 ≡ owes p e.what + get_or old.owing.items p 0
  read_owing p =
      elim (cases_Bool (nat_lt p (length old.owing.items))) [
        | inl low ↦ get_or_from_slice_get new.owing.items p _ 0 (told.owed p _ (slice_get-get_or old.owing.items p 0 (ltb-true p (length old.owing.items) low)))
        | inr high ↦
            (let past : length old.owing.items ≤ p = ltb-false p (length old.owing.items) high in
            get_or_past new.owing.items p 0 (omega (arith, past, told.as_many)) ∙ omega (arith, get_or_past old.owing.items p 0 past, owes-other (length old.owing.items) p e.what named.other past))
      ]

  read_kicks : (p : ℕ) → get_or new.kicks.items p 0 ≡ kicks p e.what + get_or old.kicks.items p 0
  read_kicks p =
      elim (cases_Bool (nat_lt p (length old.owing.items))) [
        | inl low ↦
            (let within : p < length old.owing.items = ltb-true p (length old.owing.items) low in
            get_or_from_slice_get new.kicks.items p _ 0 (told.kicks p _ (slice_get-get_or old.kicks.items p 0 (omega (arith, within, had.kicks)))))
        | inr high ↦
            (let past : length old.owing.items ≤ p = ltb-false p (length old.owing.items) high in
            get_or_past new.kicks.items p 0 (omega (arith, past, has.kicks, told.as_many)) ∙ omega (arith, get_or_past old.kicks.items p 0 (omega (arith, past, had.kicks)), kicks-other (length old.owing.items) p e.what named.other past))
      ]

  read_kicked : (p : ℕ) → get_or new.kicked.items p false ≡ kicked_after p (get_or old.kicked.items p false) e
  read_kicked p =
      elim (cases_Bool (nat_lt p (length old.owing.items))) [
        | inl low ↦
            (let within : p < length old.owing.items = ltb-true p (length old.owing.items) low in
            get_or_from_slice_get new.kicked.items p _ false (told.kicked p _ (slice_get-get_or old.kicked.items p false (omega (arith, within, had.kicked)))))
        | inr high ↦
            (let past : length old.owing.items ≤ p = ltb-false p (length old.owing.items) high in
            rw (get_or_past new.kicked.items p false (omega (arith, past, has.kicked, told.as_many)), get_or_past old.kicked.items p false (omega (arith, past, had.kicked))) (sym (kicked-other (length old.owing.items) p e.by e.what named.other past)))
      ]

  pub state_told : state_of new ≡ kicks_told (state_of old) e
  state_told =
      λ i. record {
        asleep = λ w. read_asleep w i;
        owing = λ p. read_owing p i;
        made = λ p. read_kicks p i;
        kicked = λ p. read_kicked p i;
      }

  pub owing_told : (n k : ℕ) → All (λ m. m ≤ n) old.owing.items → k ≡ n → All (λ m. m ≤ k + 1) new.owing.items
  owing_told n k all same =
      All-from_get_or (λ m. m ≤ k + 1) new.owing.items 0
      (λ i within.
      let before : get_or old.owing.items i 0 ≤ n = all i 0 (omega (arith, within, told.as_many)) in
      omega (arith, before, same, read_owing i, owes-few i e.what))

  pub made_told : (n k : ℕ) → All (λ m. m ≤ n) old.kicks.items → k ≡ n → All (λ m. m ≤ k + 1) new.kicks.items
  made_told n k all same =
      All-from_get_or (λ m. m ≤ k + 1) new.kicks.items 0
      (λ i within.
      let before : get_or old.kicks.items i 0 ≤ n = all i 0 (omega (arith, within, told.as_many, had.kicks, has.kicks)) in
      omega (arith, before, same, read_kicks i, kicks-few i e.what))

-- ---- counts

pub below : (n k : ℕ) (ms : List ℕ) → All (λ m. m ≤ n) ms → n < k → All (λ m. m < k) ms
below n k ms all less = All-weaker (λ m. m ≤ n) (λ m. m < k) (λ m le. omega (arith, le, less)) ms all

-- ---- before any event

none_asleep : (b : Bool) (n i : ℕ) → (b && get_or (replicate n false) i false) ≡ false
none_asleep true n i = read_replicate n i false
none_asleep false n i = refl

-- of nothing but such items a record says nothing
pub state_silent : (k : KickRecord) (m n : ℕ) → k.asleep.items ≡ replicate m false → k.owing.items ≡ replicate n 0 → k.kicks.items ≡ replicate n 0 → k.kicked.items ≡ replicate n false → state_of k ≡ kicks_of []
state_silent k m n asleep owing kicks kicked =
    λ i. record {
      asleep = λ w. none-asleep w i;
      owing = λ p. (ap (λ (xs : List ℕ). get_or xs p 0) owing ∙ read_replicate n p 0) i;
      made = λ p. (ap (λ (xs : List ℕ). get_or xs p 0) kicks ∙ read_replicate n p 0) i;
      kicked = λ p. (ap (λ (xs : List Bool). get_or xs p false) kicked ∙ read_replicate n p false) i;
    }
  where
    none-asleep : (w : Waiter) → (nat_lt w.ctx 6 && get_or k.asleep.items (waiter_number w) false) ≡ false
    none-asleep w = ap (λ (xs : List Bool). nat_lt w.ctx 6 && get_or xs (waiter_number w) false) asleep ∙ none_asleep (nat_lt w.ctx 6) m (waiter_number w)
