-- What a step of a call does to what its processor keeps.
use Rattle.std.proofs.Common.{◌≡◌, ◌≢◌, ◌⊎◌, inl, inr, ℕ, suc, ◌+◌, ◌<◌, ◌≤◌, List, [], ◌∷◌, ◌++◌}
use Rattle.std.proofs.Common.{length, Option, Some, None, Bool, true, false, eqb, eq-eqb, ne_eqb}
use Rattle.std.proofs.Common.{refl, sym, ap, ◌∙◌, subst, arith, ◌||◌, if◌then◌else◌, ◌&&◌, not}
use Rattle.lk_domain.proofs.Names.{cases_Bool, same_lock, Manner, Spins, LockName, Mode, target}
use Rattle.lk_domain.proofs.Names.{Frame, Pc, F1, R1, T1, Wr1, Y1, Y4, Verb, Lock, Read, Try}
use Rattle.lk_domain.proofs.Names.{TryRead, TryWrite, Write, if-false, if-true, if_cases, not-true}
use Rattle.lk_domain.proofs.Names.{same_lock-self, same_lock-true, is_slow, Course, Met, held_lock}
use Rattle.lk_domain.proofs.Names.{led, Begins, Calls, Frees, Grip, Hold, Mark, MayBegin, Running}
use Rattle.lk_domain.proofs.Names.{StandsOn, Takes, Unchanged, acting, after, are_calls, begin}
use Rattle.lk_domain.proofs.Names.{begun, course, frames_after, free_of, grip_of, hold, holds_after}
use Rattle.lk_domain.proofs.Names.{holds_in, is_on, is_verb, lock_name, mark, read_at, row_at}
use Rattle.lk_domain.proofs.Names.{row_of, row_on, running, sight_of, slow_in, slows, terms_of}
use Rattle.lk_domain.proofs.Names.{waits_in, Steps, Plan}
use Rattle.lk_rows.specs.Programs.{is_release as is_unlocking}
use Rattle.lk_domain.proofs.{rows.Grips.{IsOwn, own_lock}, rows.Went.led_index}
use Rattle.lk_domain.proofs.turns.Courses.{Comes, Outcome, grip_if}
use Rattle.lk_domain.specs.Marked.{Behind, nobody, one}

-- Booleans
and_parts : (a b : Bool) → (a && b) ≡ true → (a ≡ true) × (b ≡ true)
and_parts true true h = (refl, refl)
and_parts true false h = cc h
and_parts false b h = cc h

not_parts : (a : Bool) → not a ≡ true → a ≡ false
not_parts true h = cc h
not_parts false h = refl

-- the verb takes a lock
abbrev pub is_taking : Verb → Bool
is_taking Lock = true
is_taking Try = true
is_taking Read = true
is_taking TryRead = true
is_taking Write = true
is_taking TryWrite = true
is_taking _ = false

verb_unlock : (v : Verb) → is_taking v ≡ true → is_unlocking v ≡ false
verb_unlock Lock h = refl
verb_unlock Try h = refl
verb_unlock Read h = refl
verb_unlock TryRead h = refl
verb_unlock Write h = refl
verb_unlock TryWrite h = refl
verb_unlock _ h = cc h

may_waits : (c : Calls) (v : Verb) (l : ℕ) → is_taking v ≡ true → MayBegin c v l → waits_in c.frames l ≡ false
may_waits c Lock l h may = may.1
may_waits c Try l h may = may.1
may_waits c Read l h may = may.1
may_waits c TryRead l h may = may.1
may_waits c Write l h may = may.1
may_waits c TryWrite l h may = may.1
may_waits c _ l h may = cc h

taking_holds : (mode : Mode) (c : Calls) (v : Verb) (l : ℕ) → is_taking v ≡ true
    → (begin mode c v l).holds ≡ c.holds
taking_holds mode c Lock l h = refl
taking_holds mode c Try l h = refl
taking_holds mode c Read l h = refl
taking_holds mode c TryRead l h = refl
taking_holds mode c Write l h = refl
taking_holds mode c TryWrite l h = refl
taking_holds mode c _ l h = cc h

-- no call for a lock is in the slow path, where none waits for it
pub none_slow : (rs : List Running) (l : ℕ) → waits_in rs l ≡ false → slow_in rs l ≡ false
none_slow [] l h = refl
none_slow (r ∷ rs) l h =
    elim (cases_Bool (eqb r.frame.lock.index l)) [
      | inl e ↦ absurd (let z : true ≡ false = sym (if-true (eqb r.frame.lock.index l) true (waits_in rs l) e) ∙ h in cc z)
      | inr e ↦
          if-false (eqb r.frame.lock.index l) (is_slow r.frame.place) (slow_in rs l) e
          ∙ none_slow rs l (sym (if-false (eqb r.frame.lock.index l) true (waits_in rs l) e) ∙ h)
    ]

or_none : (b : Bool) → (b || false) ≡ b
or_none true = refl
or_none false = refl

-- what is read of calls of which the newest may be for the lock
module _ (l : ℕ) (rest : List Running) where
  pub behind_long : (xs : List Running) (b s : Bool) → Behind l rest xs b s
      → length xs ≡ length rest + (if b then 1 else 0)
  behind_long xs b s nobody = omega arith
  behind_long xs b s (one r e) = omega arith

  pub behind_slows : (xs : List Running) (b s : Bool) → Behind l rest xs b s
      → slows xs ≡ slows rest + (if s then 1 else 0)
  behind_slows xs b s nobody = omega arith
  behind_slows xs b s (one r e) = omega arith

  pub behind_waits : (xs : List Running) (b s : Bool) → waits_in rest l ≡ false → Behind l rest xs b s
      → waits_in xs l ≡ b
  behind_waits xs b s none nobody = none
  behind_waits xs b s none (one r e) = if-true (eqb r.frame.lock.index l) true (waits_in rest l) (eq-eqb r.frame.lock.index l e)

  pub behind_slow : (xs : List Running) (b s : Bool) → waits_in rest l ≡ false → Behind l rest xs b s
      → slow_in xs l ≡ s
  behind_slow xs b s none nobody = none_slow rest l none
  behind_slow xs b s none (one r e) =
      if-true (eqb r.frame.lock.index l) (is_slow r.frame.place) (slow_in rest l) (eq-eqb r.frame.lock.index l e)

  pub behind_waits_else : (xs : List Running) (b s : Bool) → Behind l rest xs b s → (x : ℕ) → x ≢ l
      → waits_in xs x ≡ waits_in rest x
  behind_waits_else xs b s nobody x ne = refl
  behind_waits_else xs b s (one r e) x ne =
      if-false (eqb r.frame.lock.index x) true (waits_in rest x) (ne_eqb r.frame.lock.index x (λ h. ne (sym h ∙ e)))

  pub behind_slow_else : (xs : List Running) (b s : Bool) → Behind l rest xs b s → (x : ℕ) → x ≢ l
      → slow_in xs x ≡ slow_in rest x
  behind_slow_else xs b s nobody x ne = refl
  behind_slow_else xs b s (one r e) x ne =
      if-false (eqb r.frame.lock.index x) (is_slow r.frame.place) (slow_in rest x) (ne_eqb r.frame.lock.index x (λ h. ne (sym h ∙ e)))

-- the calls of a processor, one of which takes a lock, without that one
pub record Others (old : Calls) (l : ℕ) (rest : List Running) (slow : Bool) : Type 0 where
  pub waited : Bool
  pub before : Behind l rest old.frames waited slow
  pub none : waits_in rest l ≡ false
  pub low : length rest < 6
  pub calls : are_calls rest ≡ true

-- a call that begins does so outside the slow path
begun_fast : (mode : Mode) (d : ℕ) (v : Verb) (l : ℕ) (c : Pc) → is_taking v ≡ true
    → (begun mode d v l).place ≡ Some c → is_slow (Some c) ≡ false
begun_fast mode d Lock l c h e = ap is_slow (sym e)
begun_fast mode d Try l c h e = ap is_slow (sym e)
begun_fast mode d Read l c h e = ap is_slow (sym e)
begun_fast mode d TryRead l c h e = ap is_slow (sym e)
begun_fast mode d Write l c h e = ap is_slow (sym e)
begun_fast mode d TryWrite l c h e = ap is_slow (sym e)
begun_fast mode d _ l c h e = cc h

module _ (k : Plan) (mode : Mode) (old : Calls) (v : Verb) (l : LockName) (c : Pc)
    (takes : is_taking v ≡ true) (calm : are_calls old.frames ≡ true)
    (few : length old.frames ≤ 6) (stands : StandsOn (acting mode old v l.index) v l c)
    (begins : Begins k old v l.index) where
  abbrev f : Frame
  f = stands.frame

  abbrev rest : List Running
  rest = stands.rest

  index_is : f.lock.index ≡ l.index
  index_is = ap (λ (z : LockName). z.index) stands.lock

  others_on : is_on old.frames v l.index ≡ true → Others old l.index rest (is_slow (Some c))
  others_on on =
      let is : old.frames ≡ running v f stands.trail ∷ rest = sym (ap (λ (x : Calls). x.frames) (if-true (is_on old.frames v l.index) old (begin mode old v l.index) on)) ∙ stands.is in
      let parts = and_parts (not (is_unlocking v) && not (waits_in rest f.lock.index)) (are_calls rest) (ap are_calls (sym is) ∙ calm) in
      let more = and_parts (not (is_unlocking v)) (not (waits_in rest f.lock.index)) parts.0 in
      record {
        waited = true;
        before = subst (λ (xs : List Running). Behind l.index rest xs true (is_slow (Some c))) (sym is)
            (subst (λ (b : Bool). Behind l.index rest (running v f stands.trail ∷ rest) true b) (ap is_slow stands.place)
            (one (running v f stands.trail) index_is));
        none = ap (waits_in rest) (sym index_is) ∙ not_parts (waits_in rest f.lock.index) more.1;
        low = let e : length old.frames ≡ suc (length rest) = ap (λ (xs : List Running). length xs) is in omega arith;
        calls = parts.1;
      }

  others_off : is_on old.frames v l.index ≡ false → Others old l.index rest (is_slow (Some c))
  others_off off =
      let is : running v f stands.trail ∷ rest ≡ _ = sym stands.is ∙ ap (λ (x : Calls). x.frames) (if-false (is_on old.frames v l.index) old (begin mode old v l.index) off) in
      let same : rest ≡ old.frames = ap tail_of is in
      let top : Some c ≡ (begun mode (length old.frames) v l.index).place = sym stands.place ∙ ap top_place is in
      let may = may_waits old v l.index takes (begins off).1 in
      record {
        waited = false;
        before = subst (λ (xs : List Running). Behind l.index rest xs false (is_slow (Some c))) same
            (subst (λ (b : Bool). Behind l.index rest rest false b) (sym (begun_fast mode (length old.frames) v l.index c takes (sym top))) nobody);
        none = ap (λ (xs : List Running). waits_in xs l.index) same ∙ may;
        low = let e : length rest ≡ length old.frames = ap (λ (xs : List Running). length xs) same in let x = (begins off).0 in omega arith;
        calls = ap are_calls same ∙ calm;
      }
    where
      tail_of : List Running → List Running
      tail_of [] = []
      tail_of (x ∷ xs) = xs

      top_place : List Running → Option Pc
      top_place [] = None
      top_place (x ∷ xs) = x.frame.place

  pub others : Others old l.index rest (is_slow (Some c))
  others = elim (cases_Bool (is_on old.frames v l.index)) [ inl on ↦ others_on on | inr off ↦ others_off off ]

  -- the holds are those before the call
  pub holds_are : (acting mode old v l.index).holds ≡ old.holds
  holds_are =
      if_cases (λ (x : Calls). x.holds ≡ old.holds) (is_on old.frames v l.index) old (begin mode old v l.index) (λ _. refl) (λ _. taking_holds mode old v l.index takes)

-- who is on a lock waits for it
on_waits : (rs : List Running) (v : Verb) (l : ℕ) → is_on rs v l ≡ true → waits_in rs l ≡ true
on_waits [] v l h = cc h
on_waits (r ∷ rs) v l h =
    if-true (eqb r.frame.lock.index l) true (waits_in rs l) (and_parts (is_verb r.verb v) (eqb r.frame.lock.index l) h).1

-- the row is the first of a call that takes a lock
abbrev pub is_opening : Pc → Bool
is_opening F1 = true
is_opening T1 = true
is_opening R1 = true
is_opening Y1 = true
is_opening Wr1 = true
is_opening Y4 = true
is_opening _ = false

first_row : (mode : Mode) (d : ℕ) (v : Verb) (l : ℕ) (c : Pc) → is_taking v ≡ true → is_opening c ≡ false
    → (begun mode d v l).place ≡ Some c → ⊥
first_row mode d v l c h off e = by v h e
  where
    other : (a : Pc) → is_opening a ≡ true → Some a ≡ Some c → ⊥
    other a on same = let q : a ≡ c = some_is same in let z : true ≡ false = sym on ∙ (ap is_opening q ∙ off) in cc z
      where
        some_is : {a b : Pc} → Some a ≡ Some b → a ≡ b
        some_is e = grind (arith, e)

    by : (v : Verb) → is_taking v ≡ true → (begun mode d v l).place ≡ Some c → ⊥
    by Lock h e = other F1 refl e
    by Try h e = other T1 refl e
    by Read h e = other R1 refl e
    by TryRead h e = other Y1 refl e
    by Write h e = other Wr1 refl e
    by TryWrite h e = other Y4 refl e
    by _ h e = cc h

-- what the row c of the call on the lock does to the calls
pub record Turn (old new : Calls) (l : ℕ) (c : Pc) (waits slow taken : Bool) : Type 0 where
  pub steps : Steps old new l waits slow taken
  pub apart : are_calls new.frames ≡ true
  pub was : slow_in old.frames l ≡ is_slow (Some c)
  pub on : is_opening c ≡ false → waits_in old.frames l ≡ true

-- the course of the row, by what the processor sees
abbrev pub seen_course : Plan → ℕ → Calls → Pc → Frame → Met → Course
seen_course k p ac c f x = course k.mode p (sight_of (terms_of k) p ac.runs) c f x

-- whether a row takes the lock itself, by what it does to the holds, and of which lock
abbrev pub TakesIt : ℕ → Bool → Grip → LockName → Type 0
TakesIt l true y j = (m : Manner) × (y ≡ Takes m) × (j ≡ lock_name l)
TakesIt l false y j = (y ≡ Unchanged) ⊎ (j.wait ≡ true)

-- the holds of other locks than a wait lock stay with it
wait_apart : (j : LockName) (x : ℕ) → j.wait ≡ true → same_lock j (lock_name x) ≡ false
wait_apart j x wait =
    not-true (same_lock j (lock_name x))
    (λ h. let e = ap (λ (z : LockName). z.wait) (same_lock-true j (lock_name x) h) in
    let z : true ≡ false = sym wait ∙ e in cc z)

wait_freed : (d : ℕ) (j : LockName) (hs : List Hold) (x : ℕ) → j.wait ≡ true
    → holds_in (free_of d j hs) x ≡ holds_in hs x
wait_freed d j [] x wait = refl
wait_freed d j (h ∷ hs) x wait =
    if_cases (λ (gs : List Hold). holds_in gs x ≡ holds_in (h ∷ hs) x) ((eqb h.ctx d) && same_lock h.lock j)
    (free_of d j hs) (h ∷ free_of d j hs)
    (λ e. wait_freed d j hs x wait
    ∙ sym (if-false (same_lock h.lock (lock_name x)) true (holds_in hs x)
    (ap (λ (z : LockName). same_lock z (lock_name x)) (same_lock-true h.lock j (and_parts (eqb h.ctx d) (same_lock h.lock j) e).1)
    ∙ wait_apart j x wait)))
    (λ _. ap (λ b. if same_lock h.lock (lock_name x) then true else b) (wait_freed d j hs x wait))

wait_holds : (y : Grip) (d : ℕ) (j : LockName) (n : ℕ) (hs : List Hold) (x : ℕ) → j.wait ≡ true
    → holds_in (holds_after y d j n hs) x ≡ holds_in hs x
wait_holds Unchanged d j n hs x wait = refl
wait_holds (Takes m) d j n hs x wait = if-false (same_lock j (lock_name x)) true (holds_in hs x) (wait_apart j x wait)
wait_holds Frees d j n hs x wait = wait_freed d j hs x wait

-- the holds after a row that takes the lock, or does not
holds_turn : (l : ℕ) (b : Bool) (y : Grip) (d : ℕ) (j : LockName) (n : ℕ) (hs : List Hold) → TakesIt l b y j
    → (holds_in (holds_after y d j n hs) l ≡ (holds_in hs l || b))
    × ((x : ℕ) → x ≢ l → holds_in (holds_after y d j n hs) x ≡ holds_in hs x)
holds_turn l true y d j n hs t =
    let is : holds_after y d j n hs ≡ hold d (lock_name l) t.0 n ∷ hs = (λ i. holds_after (t.1 i) d (t.2 i) n hs) in (
      ap (λ gs. holds_in gs l) is
          ∙ (if-true (same_lock (lock_name l) (lock_name l)) true (holds_in hs l) (same_lock-self (lock_name l))
          ∙ sym (or_true (holds_in hs l))),
      (λ x ne. ap (λ gs. holds_in gs x) is
          ∙ if-false (same_lock (lock_name l) (lock_name x)) true (holds_in hs x)
          (not-true (same_lock (lock_name l) (lock_name x)) (λ q. ne (ap (λ (z : LockName). z.index) (sym (same_lock-true (lock_name l) (lock_name x) q)))))),
    )
  where
    or_true : (b : Bool) → (b || true) ≡ true
    or_true true = refl
    or_true false = refl
holds_turn l false y d j n hs (inl e) = (
  ap (λ z. holds_in (holds_after z d j n hs) l) e ∙ sym (or_none (holds_in hs l)),
  (λ x ne. ap (λ z. holds_in (holds_after z d j n hs) x) e),
)
holds_turn l false y d j n hs (inr wait) = (
  wait_holds y d j n hs l wait ∙ sym (or_none (holds_in hs l)),
  (λ x ne. wait_holds y d j n hs x wait),
)

module _ (k : Plan) (p : ℕ) (old new : Calls) (v : Verb) (n : LockName) (c : Pc)
    (x : Met) (takes : is_taking v ≡ true) (calm : are_calls old.frames ≡ true)
    (few : length old.frames ≤ 6) (stands : StandsOn (acting k.mode old v n.index) v n c)
    (begins : Begins k old v n.index)
    (is : new ≡ row_of (terms_of k) p (acting k.mode old v n.index) x) (waits slow taken : Bool)
    (place : Comes waits slow (led stands.frame (seen_course k p (acting k.mode old v n.index) c stands.frame x).leads).place)
    (grip : TakesIt n.index taken
    (grip_of (target c stands.frame) (seen_course k p (acting k.mode old v n.index) c stands.frame x))
    (held_lock (target c stands.frame) stands.frame)) where
  abbrev l : ℕ
  l = n.index

  abbrev f' : Frame
  f' = stands.frame

  abbrev o : Course
  o = course k.mode p (sight_of (terms_of k) p (acting k.mode old v l).runs) c f' x

  abbrev g : Frame
  g = led f' o.leads

  abbrev trail : List Mark
  trail = stands.trail ++ mark c x (read_at c (sight_of (terms_of k) p (acting k.mode old v l).runs)) ∷ []

  abbrev ac : Calls
  ac = acting k.mode old v l

  others' : Others old l stands.rest (is_slow (Some c))
  others' = others k k.mode old v n c takes calm few stands begins

  pub after_is : new ≡ after v f' trail stands.rest ac (target c f') o
  after_is =
      is
      ∙ (ap (λ (xs : List Running). row_on k.mode p (sight_of (terms_of k) p ac.runs) xs ac x) stands.is
      ∙ ap (λ q. row_at k.mode p (sight_of (terms_of k) p ac.runs) (running v f' stands.trail) stands.rest ac x q) stands.place)

  -- the lock of the frame after the row
  g_index : g.lock.index ≡ l
  g_index = led_index f' o.leads ∙ ap (λ (z : LockName). z.index) stands.lock

  -- the frames
  frames_are : (b s : Bool) (q : Option Pc) → g.place ≡ q → Comes b s q
      → Behind l stands.rest (frames_after v g trail stands.rest q) b s
      × (are_calls (frames_after v g trail stands.rest q) ≡ true)
  frames_are true s None place comes = absurd (let z = comes.1 in cc z)
  frames_are true s (Some d) place comes = (
    subst (λ (z : Bool). Behind l stands.rest (running v g trail ∷ stands.rest) true z)
        (ap is_slow (place ∙ comes.1) ∙ comes.2) (one (running v g trail) g_index),
    (λ i. (not (verb_unlock v takes i) && not ((ap (waits_in stands.rest) g_index ∙ others'.none) i)) && others'.calls i),
  )
  frames_are false s None place comes = (
    subst (λ (z : Bool). Behind l stands.rest stands.rest false z) (sym comes.1) nobody,
    others'.calls,
  )
  frames_are false s (Some d) place comes = absurd (let z = comes.0 in cc z)

  -- the holds
  holds_are' : (holds_in new.holds l ≡ (holds_in old.holds l || taken))
      × ((x : ℕ) → x ≢ l → holds_in new.holds x ≡ holds_in old.holds x)
  holds_are' =
      let y = grip_of (target c f') o in
      let j = held_lock (target c f') f' in
      let h : new.holds ≡ holds_after y f'.ctx j (ac.taken + 1) old.holds =
      ap (λ (z : Calls). z.holds) after_is
      ∙ ap (holds_after y f'.ctx j (ac.taken + 1)) (holds_are k k.mode old v n c takes calm few stands begins) in
      let t = holds_turn l taken y f'.ctx j (ac.taken + 1) old.holds grip in (
        ap (λ hs. holds_in hs l) h ∙ t.0,
        (λ x ne. ap (λ hs. holds_in hs x) h ∙ t.1 x ne),
      )

  -- the calls stay apart
  pub calls_apart : are_calls new.frames ≡ true
  calls_apart = ap (λ (z : Calls). are_calls z.frames) after_is ∙ (frames_are waits slow g.place refl place).1

  -- what the step does to them; the call was in the slow path where its row is one of it
  pub steps : Steps old new l waits slow taken
  steps =
      let h = holds_are' in
      let r = others' in
      record {
        others = stands.rest;
        waited = r.waited;
        slowly = is_slow (Some c);
        before = r.before;
        after = subst (λ (z : Calls). Behind l stands.rest z.frames waits slow) (sym after_is) (frames_are waits slow g.place refl place).0;
        none = r.none;
        low = r.low;
        held = h.0;
        holds = h.1;
      }

  -- where it made another row than the first of a call it waited before
  went_on : is_opening c ≡ false → waits_in old.frames l ≡ true
  went_on later = elim (cases_Bool (is_on old.frames v l)) [
    | inl on ↦ on_waits old.frames v l on
    | inr off ↦ absurd (first_row k.mode (length old.frames) v l c takes later
        (sym (sym stands.place ∙ ap top_place (sym stands.is ∙ ap (λ (z : Calls). z.frames) (if-false (is_on old.frames v l) old (begin k.mode old v l) off)))))
  ]
    where
      top_place : List Running → Option Pc
      top_place [] = None
      top_place (r ∷ rs) = r.frame.place

  pub turn_by : Turn old new l c waits slow taken
  turn_by =
      record {
        steps = steps;
        apart = calls_apart;
        was = behind_slow l stands.rest old.frames others'.waited (is_slow (Some c)) others'.none others'.before;
        on = went_on;
      }

-- the same of a row on the word or a node of a spinlock or a wait lock
pub turn : (k : Plan) (p : ℕ) (old new : Calls) (v : Verb) (n : LockName) (c : Pc) (x : Met)
    → is_taking v ≡ true → are_calls old.frames ≡ true → length old.frames ≤ 6
    → (stands : StandsOn (acting k.mode old v n.index) v n c) → Begins k old v n.index → IsOwn (target c stands.frame)
    → new ≡ row_of (terms_of k) p (acting k.mode old v n.index) x → (waits slow taken : Bool)
    → Outcome k.mode p (sight_of (terms_of k) p (acting k.mode old v n.index).runs) c stands.frame x waits slow taken
    → Turn old new n.index c waits slow taken
turn k p old new v n c x takes calm few stands begins own is waits slow taken outcome =
    turn_by k p old new v n c x takes calm few stands begins is waits slow taken outcome.place
    (elim (cases_Bool n.wait) [ inl e ↦ inside e | inr e ↦ plain e taken refl ])
  where
    y : Grip
    y = grip_of (target c stands.frame) (seen_course k p (acting k.mode old v n.index) c stands.frame x)

    j : LockName
    j = held_lock (target c stands.frame) stands.frame

    held : j ≡ n
    held = own_lock (target c stands.frame) stands.frame own ∙ stands.lock

    wait_is : stands.frame.lock.wait ≡ n.wait
    wait_is = ap (λ (z : LockName). z.wait) stands.lock

    inside : n.wait ≡ true → TakesIt n.index taken y j
    inside e =
        subst (λ (b : Bool). TakesIt n.index b y j) (sym (outcome.none (wait_is ∙ e)))
        (inr (ap (λ (z : LockName). z.wait) held ∙ e))

    plain : n.wait ≡ false → (b : Bool) → taken ≡ b → TakesIt n.index b y j
    plain e true t = (Spins, outcome.grip (wait_is ∙ e) ∙ ap grip_if t, held ∙ (λ i. record { index = n.index; wait = e i }))
    plain e false t = inl (outcome.grip (wait_is ∙ e) ∙ ap grip_if t)
