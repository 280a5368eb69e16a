-- What one event more changes in what contracts see of a judge.
use Rattle.std.proofs.Common.{◌≡◌, ◌≢◌, ◌<◌, ◌≤◌, ◌↔◌, ◌+◌, ◌*◌, ℕ, zero, suc, List, [], ◌∷◌, ◌++◌, Bool, true, false, arith, Option, Some, None, length, Result, Ok, Err, replicate, refl, sym, ap, subst, ◌∙◌, inl, inr, length-set}
use Rattle.std.specs.Prelude.{if◌then◌else◌, IsOk, OnOk, OnErr, slice_set}
use Rattle.std.specs.List.{slice_get}
use Rattle.std.specs.Result.{result_err}
use Rattle.std.proofs.lemmas.Bool.{cases_Bool, false_from_ne_true, true≢false}
use Rattle.std.proofs.lemmas.List.{length_push}
use Rattle.std.proofs.lemmas.Option.{none-some, same_Some, slice_get_past}
use Rattle.std.specs.Option.{option_or}
use Rattle.lk_names.specs.Names.{place_of}
use Rattle.lk_names.specs.History.{LockHistory, no_history, lock_of, is_on, changed, told, history_of}
use Rattle.lk_names.specs.Kicks.{KickState, kicks_of, kicks_told}
use Rattle.lk_names.specs.Lawful.{Rules, FrontIsOwed, IsLawful}
use Rattle.lk_abs.specs.Breaches.{first_breach}
use Rattle.lk_abs.specs.NoKick.{unkicked}
use Rattle.lk_abs.specs.Remembered.{state_of}
use Rattle.lk_abs.specs.Judge.{KeptLock, JudgeState, IsInRange, kept_history, history_at, breach_on, table_breach, kick_breach, breach_of, Events, TellsLocks, TakesOne, HasTaken}
use Rattle.lk_names.specs.declared.names.Mode.TheVariants.{Pv}
use Rattle.lk_names.specs.declared.names.LockName.{LockName}
use Rattle.lk_names.specs.declared.events.Breach.{Breach}
use Rattle.lk_names.specs.declared.events.Event.{Event}
use Rattle.lk_abs.specs.declared.kick_record.KickRecord.{KickRecord}
use Rattle.lk_names.proofs.Moments.{history_of-push}
use Rattle.lk_abs.proofs.Sameness.{is_on-true, is_on-from}
use Rattle.lk_names.proofs.Places.{slice_get-set_same, slice_get-set_other, set-slice_get}
use Rattle.lk_abs.proofs.Clauses.{or-none, none-or}
use Rattle.lk_abs.proofs.Kicking.{kicks_of-push}
use Rattle.lk_abs.proofs.Unkicked.{unkicked-exact}
use Rattle.lk_abs.proofs.OneMore.{told_elsewhere, lawful-nil, exact, exact_none}

-- ---- answers

pub ok_if_none : {E : Type 0} (r : Result (Unit {0}) E) → result_err r ≡ None → IsOk r
ok_if_none (Ok u) e = refl
ok_if_none (Err x) e = absurd (none-some x (sym e))

pub none_if_ok : {E : Type 0} (r : Result (Unit {0}) E) → IsOk r → result_err r ≡ None
none_if_ok (Ok u) e = refl
none_if_ok (Err x) e = absurd (true≢false (sym e))

pub OnOk_with : {E : Type 0} (r : Result (Unit {0}) E) (P Q : Type 0) → OnOk r P → (IsOk r → P → Q) → OnOk r Q
OnOk_with (Ok u) P Q p f = f refl p
OnOk_with (Err x) P Q p f = tt

pub OnOk_then : {E : Type 0} (r : Result (Unit {0}) E) (P Q : Type 0) → OnOk r P → (P → Q) → OnOk r Q
OnOk_then (Ok u) P Q p f = f p
OnOk_then (Err x) P Q p f = tt

pub OnErr_then : {E : Type 0} (r : Result (Unit {0}) E) (P Q : Type 0) → OnErr r P → (P → Q) → OnErr r Q
OnErr_then (Ok u) P Q p f = tt
OnErr_then (Err x) P Q p f = f p

-- ---- at the start

silent : (n i room : ℕ) → kept_history (slice_get (replicate n (record { history = no_history; room = room })) i) ≡ no_history
silent zero i room = refl
silent (suc n) zero room = refl
silent (suc n) (suc i) room = silent n i room

pub taken-none : (rules : Rules) (locks : List KeptLock) (kicks : KickRecord) (n room : ℕ) → locks ≡ replicate n (record { history = no_history; room = room }) → state_of kicks ≡ kicks_of [] → kicks.told ≡ 0 → HasTaken (record { rules = rules; locks = locks; kicks = kicks }) []
taken-none rules locks kicks n room e none start =
    record { lawful = lawful-nil rules; shows = λ l. rw e (silent n (place_of l) room); kicks = none; taken = start }

-- ---- one event more

lock_from_parts : (l k : LockName) → l.index ≡ k.index → l.wait ≡ k.wait → l ≡ k
lock_from_parts l k p q = λ i. record { index = p i; wait = q i }

odd : Bool → ℕ
odd b = if b then 1 else 0

same_from_odd : (m n : ℕ) (a b : Bool) → m * 2 + odd a ≡ n * 2 + odd b → (m ≡ n) × (a ≡ b)
unfolding odd
same_from_odd m n true true e = (omega arith, refl)
same_from_odd m n false false e = (omega arith, refl)
same_from_odd m n true false e = absurd (omega arith)
same_from_odd m n false true e = absurd (omega arith)

-- two locks have two places
lock_from_place : (l k : LockName) → place_of l ≡ place_of k → l ≡ k
unfolding odd
lock_from_place l k e =
    let same = same_from_odd l.index k.index l.wait k.wait e in
    lock_from_parts l k same.0 same.1

module _ (j : JudgeState) (e : Event) where
  -- the lock of the event is told on, and the others stay
  tells-one : (l : LockName) (old : KeptLock) (room : ℕ) → lock_of e.what ≡ Some l → slice_get j.locks (place_of l) ≡ Some old → TellsLocks j (record j { locks = slice_set j.locks (place_of l) (record { history = changed old.history e.by e.what; room = room }) }) e
  tells-one l old room on at =
      record {
        rules = refl;
        locks = length-set j.locks (place_of l) (record { history = changed old.history e.by e.what; room = room });
        told = λ k.
            elim (cases_Bool (is_on k (lock_of e.what))) [
              | inl met ↦
                  (let same : l ≡ k = same_Some l k (sym on ∙ is_on-true k (lock_of e.what) met) in
                  rw (← same, is_on-from l (lock_of e.what) on, slice_get-set_same (record { history = changed old.history e.by e.what; room = room }) j.locks (place_of l) old at, at) refl)
              | inr unmet ↦
                  (let apart : place_of k ≢ place_of l = λ q. true≢false (sym (is_on-from k (lock_of e.what) (on ∙ ap Some (lock_from_place l k (sym q)))) ∙ unmet) in
                  rw (unmet, slice_get-set_other (record { history = changed old.history e.by e.what; room = room }) j.locks (place_of l) (place_of k) apart) refl)
            ];
        kicks = refl;
      }

  pub tells-none : lock_of e.what ≡ None → TellsLocks j j e
  tells-none off = record { rules = refl; locks = refl; told = λ l. rw off refl; kicks = refl }

-- the lock of the event stood so, the answer of its record is r, and it stands so after it
pub record AnswersAt (j : JudgeState) (e : Event) (l : LockName) (old new : KeptLock) (r : Result (Unit {0}) Breach) : Type 0 where
  pub on : lock_of e.what ≡ Some l
  pub «at» : slice_get j.locks (place_of l) ≡ Some old
  pub verdict : result_err r ≡ first_breach j.rules old.history e.by e.what
  pub ok : OnOk r (new ≡ record old { history = changed old.history e.by e.what })
  pub err : OnErr r (new ≡ old)

module _ (j : JudgeState) (e : Event) (l : LockName) (old new : KeptLock) (r : Result (Unit {0}) Breach) (given : AnswersAt j e l old new r) where
  pub verdict-at : result_err r ≡ table_breach j e
  verdict-at = rw (given.on, given.«at») given.verdict

  pub tells-at : OnOk r (TellsLocks j (record j { locks = slice_set j.locks (place_of l) new }) e)
  tells-at =
      OnOk_then r _ _ given.ok
      (λ is. subst (λ (k : KeptLock). TellsLocks j (record j { locks = slice_set j.locks (place_of l) k }) e) (sym is) (tells-one j e l old old.room given.on given.«at»))

  pub stays-at : OnErr r (◌≡◌ {A = JudgeState} (record j { locks = slice_set j.locks (place_of l) new }) j)
  stays-at =
      OnErr_then r _ _ given.err
      (λ is. ap (λ (ks : List KeptLock). record j { locks = ks }) (ap (slice_set j.locks (place_of l)) is ∙ set-slice_get old j.locks (place_of l) given.«at»))

-- the locks are told on, and halts and kicks then
pub takes-both : (old mid : JudgeState) (k : KickRecord) (e : Event) → TellsLocks old mid e → state_of k ≡ kicks_told (state_of mid.kicks) e → k.told ≡ mid.kicks.told + 1 → TakesOne old (record mid { kicks = k }) e
takes-both old mid k e tells state count =
    record {
      rules = tells.rules;
      locks = tells.locks;
      told = tells.told;
      kicks = state ∙ ap (λ (r : KickRecord). kicks_told (state_of r) e) tells.kicks;
      taken = count ∙ ap (λ (r : KickRecord). r.told + 1) tells.kicks;
    }

-- what is searched for after the event is what the event leaves
kick_breach-after : (old new : JudgeState) (e : Event) → TakesOne old new e → unkicked new.rules.mode (state_of new.kicks) (history_at new) (length new.locks) ≡ kick_breach old e
kick_breach-after old new e one = λ i. unkicked (one.rules i).mode (one.kicks i) (λ l. one.told l i) (one.locks i)

-- where the event breaks no clause of the table, what is found then is what it breaks
pub verdict-after : (old new : JudgeState) (e : Event) (o : Option Breach) → None ≡ table_breach old e → TakesOne old new e → o ≡ unkicked new.rules.mode (state_of new.kicks) (history_at new) (length new.locks) → o ≡ breach_of old e
verdict-after old new e o clear one found =
    found ∙ kick_breach-after old new e one ∙ ap (λ (b : Option Breach). option_or b (kick_breach old e)) clear

-- ---- the answer is exact

module _ (j : JudgeState) (e : Event) (range : IsInRange j e) (es : Events) (has : HasTaken j es) where
  silent-past : (l : LockName) → length j.locks ≤ place_of l → history_of l (es ++ e ∷ []) ≡ no_history
  silent-past l past =
      let off : is_on l (lock_of e.what) ≡ false = false_from_ne_true (is_on l (lock_of e.what)) (λ on. (let within : place_of l < length j.locks = range.lock l (is_on-true l (lock_of e.what) on) in absurd (omega (arith, past, within)))) in
      told_elsewhere l es e off ∙ sym (has.shows l) ∙ ap kept_history (slice_get_past j.locks (place_of l) past)

  kick_breach-is : kick_breach j e ≡ unkicked j.rules.mode (kicks_of (es ++ e ∷ [])) (λ l. history_of l (es ++ e ∷ [])) (length j.locks)
  kick_breach-is =
      let kicks : kicks_told (state_of j.kicks) e ≡ kicks_of (es ++ e ∷ []) = ap (λ (s : KickState). kicks_told s e) has.kicks ∙ sym (kicks_of-push es e) in
      let shows : (l : LockName) → told l (history_at j l) e ≡ history_of l (es ++ e ∷ []) = λ l. ap (λ (h : LockHistory). told l h e) (has.shows l) ∙ sym (history_of-push l es e) in
      λ i. unkicked j.rules.mode (kicks i) (λ l. shows l i) (length j.locks)

  kicks-exact : (kick_breach j e ≡ None) ↔ (j.rules.mode ≡ Pv → (l : LockName) → FrontIsOwed (es ++ e ∷ []) l)
  kicks-exact =
      let law = unkicked-exact (es ++ e ∷ []) (length j.locks) silent-past j.rules.mode in (
        λ none. law.0 (sym kick_breach-is ∙ none),
        λ owed. kick_breach-is ∙ law.1 owed,
      )

  clear-exact : (o : Option LockName) → lock_of e.what ≡ o → IsLawful j.rules (es ++ e ∷ []) ↔ ((breach_on j o e ≡ None) × (j.rules.mode ≡ Pv → (l : LockName) → FrontIsOwed (es ++ e ∷ []) l))
  clear-exact None off =
      let law = exact_none j.rules es e has.lawful off in
      (λ more. (refl, law.0 more), λ clear. law.1 clear.1)
  clear-exact (Some l) on = rw (has.shows l) (exact j.rules es e has.lawful l on)

  breach-exact : IsLawful j.rules (es ++ e ∷ []) ↔ (breach_of j e ≡ None)
  breach-exact =
      let law = clear-exact (lock_of e.what) refl in (
        λ more. (let parts = law.0 more in none-or (table_breach j e) (kick_breach j e) parts.0 (kicks-exact.1 parts.1)),
        λ none. (let parts = or-none (table_breach j e) (kick_breach j e) none in law.1 (parts.0, kicks-exact.0 parts.1)),
      )

module _ (j : JudgeState) (e : Event) (r : Result (Unit {0}) Breach) (range : IsInRange j e) (verdict : result_err r ≡ breach_of j e) where
  pub answer-exact : (es : Events) → HasTaken j es → IsOk r ↔ IsLawful j.rules (es ++ e ∷ [])
  answer-exact es has =
      let law = breach-exact j e range es has in
      (λ ok. law.1 (sym verdict ∙ none_if_ok r ok), λ more. ok_if_none r (verdict ∙ law.0 more))

-- the judge that takes an event that breaks nothing has taken it
pub has-taken : (old new : JudgeState) (e : Event) → IsInRange old e → breach_of old e ≡ None → TakesOne old new e → (es : Events) → HasTaken old es → HasTaken new (es ++ e ∷ [])
has-taken old new e range none one es has =
    record {
      lawful = subst (λ (s : Rules). IsLawful s (es ++ e ∷ [])) (sym one.rules) ((breach-exact old e range es has).1 none);
      shows = λ l. one.told l ∙ ap (λ (h : LockHistory). told l h e) (has.shows l) ∙ sym (history_of-push l es e);
      kicks = one.kicks ∙ ap (λ (s : KickState). kicks_told s e) has.kicks ∙ sym (kicks_of-push es e);
      taken = one.taken ∙ ap (λ n. n + 1) has.taken ∙ sym (length_push es e);
    }
