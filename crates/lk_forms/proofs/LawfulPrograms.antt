-- A program that is read is lawful.
use Rattle.std.proofs.Common.{◌≡◌, ◌≤◌, ◌<◌, ◌+◌, ◌==◌, ◌&&◌, ◌⊎◌, inl, inr, ℕ, zero, suc, Bool, true, false, not, List, [], ◌∷◌, ◌++◌, Option, None, Some, is_some, Result, Ok, Err, length, take, drop, get_or, refl, sym, ap, subst, ◌∙◌, append_assoc, append-nil, arith, nat_le, length-append, if◌then◌else◌}
use Rattle.std.specs.Prelude.{slice_get}
use Rattle.std.proofs.lemmas.Bool.{cases_lt}
use Rattle.std.proofs.lemmas.Bool.Decides.{nat_tests}
use Rattle.std.proofs.lemmas.Option.{get_or_from_slice_get, slice_get_within}
use Rattle.std.proofs.lemmas.List.{get_or_append_left, take-append-drop, take-append-le, take_more, length-take-le}
use Rattle.std.proofs.Math.Nat.{eq-or-lt_of_le}
use Rattle.lk_text.proofs.NumberLemmas.{and_split}
use Rattle.lk_forms.specs.declared.limits.TheConstants.{MAX_OPS}
use Rattle.std.proofs.Math.Seq.{take-append_seam, get_or-append_seam, take-append-add}
use Rattle.lk_names.specs.declared.holder.Manner.{Manner}
use Rattle.lk_names.specs.declared.holder.Manner.TheVariants.{Spins, Reads, Writes}
use Rattle.lk_names.specs.declared.names.Kind.{Kind}
use Rattle.lk_names.specs.declared.names.Kind.TheVariants.{Spin, Rw}
use Rattle.lk_rows.specs.Programs.{kind_of, is_try, is_release, way_from, way_at, way_after, way_before, op_way, to_release, IsLawfulProgram}
use Rattle.lk_rows.specs.declared.setup.Verb.{Verb}
use Rattle.lk_rows.specs.declared.setup.Verb.TheVariants.{Lock, Try, Unlock, Read, TryRead, RUnlock, Write, TryWrite, WUnlock}
use Rattle.lk_rows.specs.declared.setup.Op.{Op}
use Rattle.lk_forms.specs.Operations.{way_after_all, same_way, same_kind, same_holds, try_at, is_declared, is_crossed, fault_of_hold, fault_of_op, checked_op, op_of, ops_from, ops_of, and_then, or_fault, verb_of, lock_word}
use Rattle.lk_forms.specs.declared.answers.Fault.{Fault}
use Rattle.lk_forms.specs.declared.answers.Fault.TheVariants.{UnknownWord, WrongLock, Reheld, NotHeld, Crossed, StillHeld}
use Rattle.lk_forms.specs.declared.answers.Which.TheVariants.{Words}
use Rattle.lk_forms.specs.declared.answers.LineRefusal.{LineRefusal}
use Rattle.lk_forms.specs.declared.answers.LineRefusal.TheVariants.{Bad, Limit}
use Rattle.lk_forms.proofs.Changes.{and_then-ok, if-ok, else-ok}
use Rattle.lk_forms.proofs.Readings.{unless-ok}
use Rattle.lk_forms.proofs.WalkLemmas.{way_after_all-push, try_at-push}

-- what the tests of one operation say

same_way-is : (a b : Option Manner) → same_way a b ≡ true → a ≡ b
same_way-is None None h = refl
same_way-is None (Some n) h = cc
same_way-is (Some m) None h = cc
same_way-is (Some Spins) (Some Spins) h = refl
same_way-is (Some Spins) (Some Reads) h = cc
same_way-is (Some Spins) (Some Writes) h = cc
same_way-is (Some Reads) (Some Spins) h = cc
same_way-is (Some Reads) (Some Reads) h = refl
same_way-is (Some Reads) (Some Writes) h = cc
same_way-is (Some Writes) (Some Spins) h = cc
same_way-is (Some Writes) (Some Reads) h = cc
same_way-is (Some Writes) (Some Writes) h = refl

same_kind-is : (k l : Kind) → same_kind k l ≡ true → k ≡ l
same_kind-is Spin Spin h = refl
same_kind-is Spin Rw h = cc
same_kind-is Rw Spin h = cc
same_kind-is Rw Rw h = refl

is_declared-is : (kind : Option Kind) (verb : Verb) → is_declared kind verb ≡ true → kind ≡ Some (kind_of verb)
is_declared-is None verb h = cc
is_declared-is (Some kind) verb h = ap Some (same_kind-is kind (kind_of verb) h)

none-if : (b : Bool) (fault : Fault) (other : Option Fault) → (if b then other else Some fault) ≡ None → (b ≡ true) × (other ≡ None)
none-if true fault other h = (refl, h)
none-if false fault other h = (cc, cc)

none-else : (b : Bool) (fault : Fault) (other : Option Fault) → (if b then Some fault else other) ≡ None → (b ≡ false) × (other ≡ None)
none-else true fault other h = (cc, cc)
none-else false fault other h = (refl, h)

not-false : (b : Bool) → not b ≡ false → b ≡ true
not-false true h = refl
not-false false h = sym h

no_some : (way : Option Manner) → is_some way ≡ false → way ≡ None
no_some None h = refl
no_some (Some m) h = cc

-- an operation that passes its checks
record Passes (kinds : List Kind) (before : List Op) (o : Op) : Type 0 where
  declared : slice_get kinds o.lock ≡ Some (kind_of o.verb)
  fits : way_after_all before o.lock ≡ way_before o.verb
  uncrossed : is_release o.verb ≡ true → is_crossed (length kinds) before o ≡ false

takes_free : (verb : Verb) → is_release verb ≡ false → way_before verb ≡ None
takes_free Unlock h = cc
takes_free RUnlock h = cc
takes_free WUnlock h = cc
takes_free _ h = refl

holds-pass : (locks : ℕ) (before : List Op) (o : Op) (b : Bool) → is_release o.verb ≡ b
    → (if not b then (if is_some (way_after_all before o.lock) then Some Reheld else None)
    else if not (same_way (way_after_all before o.lock) (way_before o.verb)) then Some NotHeld
    else if is_crossed locks before o then Some Crossed else None) ≡ None
    → (way_after_all before o.lock ≡ way_before o.verb) × (is_release o.verb ≡ true → is_crossed locks before o ≡ false)
holds-pass locks before o true release fine =
    let held = none-else (not (same_way (way_after_all before o.lock) (way_before o.verb))) NotHeld (if is_crossed locks before o then Some Crossed else None) fine in
    let straight = none-else (is_crossed locks before o) Crossed None held.1 in
    (same_way-is _ _ (not-false _ held.0), λ h. straight.0)
holds-pass locks before o false takes fine =
    let free = none-else (is_some (way_after_all before o.lock)) Reheld None fine in
    (no_some _ free.0 ∙ sym (takes_free o.verb takes), λ h. cc)

passes : (kinds : List Kind) (before : List Op) (o : Op) → fault_of_op kinds before o ≡ None → Passes kinds before o
passes kinds before o fine =
    let known = none-if (is_declared (slice_get kinds o.lock) o.verb) WrongLock (fault_of_hold (length kinds) before o) fine in
    let holds = holds-pass (length kinds) before o (is_release o.verb) refl known.1 in
    record { declared = is_declared-is _ o.verb known.0; fits = holds.0; uncrossed = holds.1 }

-- every operation passes behind those before it
abbrev AllPass : List Kind → List Op → Type 0
AllPass kinds ops = (n : ℕ) (d : Op) → n < length ops → Passes kinds (take n ops) (get_or ops n d)

all_pass-push : (kinds : List Kind) (ops : List Op) (o : Op) → AllPass kinds ops → Passes kinds ops o → AllPass kinds (ops ++ o ∷ [])
all_pass-push kinds ops o all last n d below = by_place (cases_lt n (length ops))
  where
    by_place : (n < length ops) ⊎ (length ops ≤ n) → Passes kinds (take n (ops ++ o ∷ [])) (get_or (ops ++ o ∷ []) n d)
    by_place (inl less) =
        let within : n ≤ length ops = omega arith in
        rw (take-append-le n ops (o ∷ []) within, get_or_append_left ops (o ∷ []) d n less) (all n d less)
    by_place (inr more) =
        let is : n ≡ length ops = omega (arith, length-append ops (o ∷ [])) in
        rw (is, take-append_seam ops (o ∷ []), get_or-append_seam ops o [] d) last

-- an operation that is read passes its checks
op_of-passes : (kinds : List Kind) (before : List Op) (verb : List ℕ) (args : List (List ℕ)) (o : Op) → op_of kinds before verb args ≡ Ok o → (length before < MAX_OPS) × Passes kinds before o
op_of-passes kinds before verb args o is =
    let few = else-ok (nat_le MAX_OPS (length before)) (Limit Words) (and_then (or_fault UnknownWord (verb_of verb)) (λ v. and_then (lock_word args) (λ l. checked_op kinds before (record { verb = v; lock = l })))) o is in
    let v = and_then-ok (or_fault UnknownWord (verb_of verb)) (λ v. and_then (lock_word args) (λ l. checked_op kinds before (record { verb = v; lock = l }))) o few.1 in
    let l = and_then-ok (lock_word args) (λ l. checked_op kinds before (record { verb = v.0; lock = l })) o v.2 in
    let fine = unless-ok (fault_of_op kinds before (record { verb = v.0; lock = l.0 })) (Ok (record { verb = v.0; lock = l.0 })) o l.2 in
    let same : record { verb = v.0; lock = l.0 } ≡ o = cc (fine.1) in
    (grind (arith, nat_tests, few.0), subst (λ x. Passes kinds before x) same (passes kinds before _ fine.0))

-- what is known of a program that is read
record IsRead (kinds : List Kind) (ops : List Op) : Type 0 where
  all : AllPass kinds ops
  few : length ops ≤ MAX_OPS
  free : same_holds (length kinds) ops [] ≡ true

ops_from-read : (kinds : List Kind) (before : List Op) (words : List (List ℕ)) (ops : List Op) → ops_from kinds before words ≡ Ok ops → AllPass kinds before → length before ≤ 64 → IsRead kinds ops
ops_from-read kinds before [] ops is all few =
    let free = if-ok (same_holds (length kinds) before []) (Ok before) (Bad StillHeld) ops is in
    let same : before ≡ ops = cc (free.1) in
    subst (λ x. IsRead kinds x) same (record { all = all; few = few; free = free.0 })
ops_from-read kinds before (verb ∷ []) ops is all few =
    let o = and_then-ok (op_of kinds before verb []) (λ o. Ok before) ops is in
    no_lock (nat_le MAX_OPS (length before)) (or_fault UnknownWord (verb_of verb)) o.1
  where
    no_lock : (b : Bool) (v : Result Verb LineRefusal) {o : Op} → (if b then Err (Limit Words) else and_then v (λ v. and_then (lock_word []) (λ l. checked_op kinds before (record { verb = v; lock = l })))) ≡ Ok o → IsRead kinds ops
    no_lock true v h = cc
    no_lock false (Ok v) h = cc
    no_lock false (Err why) h = cc
ops_from-read kinds before (verb ∷ lock ∷ words) ops is all few =
    let o = and_then-ok (op_of kinds before verb (lock ∷ words)) (λ o. ops_from kinds (before ++ o ∷ []) words) ops is in
    let pass = op_of-passes kinds before verb (lock ∷ words) o.0 o.1 in
    ops_from-read kinds (before ++ o.0 ∷ []) words ops o.2 (all_pass-push kinds before o.0 all pass.1) (omega (arith, length-append before (o.0 ∷ []), pass.0))

ops_of-read : (kinds : List Kind) (words : List (List ℕ)) (ops : List Op) → ops_of kinds words ≡ Ok ops → IsRead kinds ops
ops_of-read kinds [] ops is = cc
ops_of-read kinds (word ∷ words) ops is = ops_from-read kinds [] (word ∷ words) ops is (λ n d below. absurd (omega arith)) (omega arith)

-- holds at positions

way_from-take : (ops : List Op) (n lock : ℕ) (way : Option Manner) → way_from (take n ops) (length (take n ops)) lock way ≡ way_from ops n lock way
way_from-take ops zero lock way = refl
way_from-take [] (suc n) lock way = refl
way_from-take (o ∷ ops) (suc n) lock way = way_from-take ops n lock (op_way o lock way)

way_at-take : (ops : List Op) (n lock : ℕ) → way_after_all (take n ops) lock ≡ way_at ops n lock
way_at-take ops n lock = way_from-take ops n lock None

-- a lock that no operation names is not held
unnamed : (ops : List Op) (locks n lock : ℕ) → locks ≤ lock → ((k : ℕ) (d : Op) → k < length ops → (get_or ops k d).lock < locks) → way_from ops n lock None ≡ None
unnamed ops locks zero lock above all = refl
unnamed [] locks (suc n) lock above all = refl
unnamed (o ∷ ops) locks (suc n) lock above all =
    let below : o.lock < locks = all 0 o (omega arith) in
    let other : (o.lock == lock) ≡ false = grind (arith, nat_tests, below) in
    rw other (unnamed ops locks n lock above (λ k d less. all (suc k) d (omega arith)))

same_holds-at : (n lock : ℕ) (ops others : List Op) → same_holds n ops others ≡ true → lock < n → way_after_all ops lock ≡ way_after_all others lock
same_holds-at zero lock ops others same below = absurd (omega arith)
same_holds-at (suc n) lock ops others same below = by_place (eq-or-lt_of_le within) (λ less. same_holds-at n lock ops others parts.1 less)
  where
    within : lock ≤ n
    within = omega arith

    parts : (same_way (way_after_all ops n) (way_after_all others n) ≡ true) × (same_holds n ops others ≡ true)
    parts = and_split _ _ same

    by_place : (lock ≡ n) ⊎ (lock < n) → (lock < n → way_after_all ops lock ≡ way_after_all others lock) → way_after_all ops lock ≡ way_after_all others lock
    by_place (inl is) later = rw is (same_way-is _ _ parts.0)
    by_place (inr less) later = later less

-- the try

-- how a lock is held after a taking verb, and that it is
held_after : (verb : Verb) → is_try verb ≡ true → is_some (way_after verb) ≡ true
held_after Try h = refl
held_after TryRead h = refl
held_after TryWrite h = refl
held_after Lock h = cc
held_after Unlock h = cc
held_after Read h = cc
held_after RUnlock h = cc
held_after Write h = cc
held_after WUnlock h = cc

module _ (kinds : List Kind) (ops : List Op) (read : IsRead kinds ops) (lock n : ℕ) (declared : lock < length kinds) where
  -- what is left of the program, behind a front that holds the lock since the try at n
  record IsTried (front rest : List Op) : Type 0 where
    whole : ops ≡ front ++ rest
    held : is_some (way_after_all front lock) ≡ true
    since : try_at front lock ≡ Some n
    within : n ≤ length front

  -- the program holds at its release of the lock what it held before the try
  abbrev Restores : List Op → List Op → Type 0
  Restores front rest = same_holds (length kinds) (take n ops) (take (length front + to_release rest lock) ops) ≡ true

  pass_at : (front rest : List Op) (r : Op) → ops ≡ front ++ r ∷ rest → Passes kinds front r
  pass_at front rest r whole =
      let below : length front < length ops = rw whole (omega (arith, length-append front (r ∷ rest))) in
      let pass = read.all (length front) r below in
      rw (whole, take-append_seam front (r ∷ rest), get_or-append_seam front r rest r) at pass

  -- the lock is held in front of what is left
  some_held : (way : Option Manner) → is_some way ≡ true → way ≡ None → ⊥
  some_held way held none = cc

  -- the release of the lock
  at_release : (front rest : List Op) (r : Op) → IsTried front (r ∷ rest) → is_release r.verb ≡ true → r.lock ≡ lock
      → same_holds (length kinds) (take n ops) (take (length front + 1) ops) ≡ true
  at_release front rest r tried release same =
      let straight = (pass_at front rest r tried.whole).uncrossed release in
      let since : try_at front r.lock ≡ Some n = subst (λ l. try_at front l ≡ Some n) (sym same) tried.since in
      let kept = not-false _ (rw since at straight) in
      let before : take n ops ≡ take n front = rw tried.whole (take-append-le n front (r ∷ rest) tried.within) in
      let behind : take (length front + 1) ops ≡ front ++ r ∷ [] = rw tried.whole (take-append-add front (r ∷ rest) 1) in
      rw (before, behind) kept

  -- no operation takes a lock that is held
  no_take : (front rest : List Op) (r : Op) → IsTried front (r ∷ rest) → is_release r.verb ≡ false → r.lock ≡ lock → ⊥
  no_take front rest r tried takes same =
      let free = (pass_at front rest r tried.whole).fits ∙ takes_free r.verb takes in
      some_held (way_after_all front lock) tried.held (rw same at free)

  -- an operation on another lock
  past_other : (front rest : List Op) (r : Op) → IsTried front (r ∷ rest) → (r.lock == lock) ≡ false → IsTried (front ++ r ∷ []) rest
  past_other front rest r tried other = record {
    whole = tried.whole ∙ sym (append_assoc front (r ∷ []) rest);
    held = rw (way_after_all-push front r lock, other) tried.held;
    since = rw (try_at-push front r lock, other) tried.since;
    within = omega (arith, length-append front (r ∷ []), tried.within);
  }

  restores : (front rest : List Op) → IsTried front rest → Restores front rest
  restores front [] tried =
      let free = same_holds-at (length kinds) lock ops [] read.free declared in
      let all : ops ≡ front = tried.whole ∙ append-nil front in
      absurd (some_held (way_after_all front lock) tried.held (rw all at free))
  restores front (r ∷ rest) tried = by_tests (is_release r.verb) (r.lock == lock) refl refl (λ other. restores (front ++ r ∷ []) rest (past_other front rest r tried other))
    where
      same : (r.lock == lock) ≡ true → r.lock ≡ lock
      same h = grind (arith, nat_tests, h)

      later : Restores (front ++ r ∷ []) rest → same_holds (length kinds) (take n ops) (take (length front + suc (to_release rest lock)) ops) ≡ true
      later rest_restores =
          let place : length (front ++ r ∷ []) + to_release rest lock ≡ length front + suc (to_release rest lock) = omega (arith, length-append front (r ∷ [])) in
          rw place at rest_restores

      by_tests : (b c : Bool) → is_release r.verb ≡ b → (r.lock == lock) ≡ c → ((r.lock == lock) ≡ false → Restores (front ++ r ∷ []) rest)
          → same_holds (length kinds) (take n ops) (take (length front + (if b && c then 1 else suc (to_release rest lock))) ops) ≡ true
      by_tests true true release on next = at_release front rest r tried release (same on)
      by_tests false true takes on next = absurd (no_take front rest r tried takes (same on))
      by_tests true false release off next = later (next off)
      by_tests false false takes off next = later (next off)

-- the law

-- no operation names a lock that is not declared
names_declared : (kinds : List Kind) (ops : List Op) → IsRead kinds ops → (k : ℕ) (d : Op) → k < length ops → (get_or ops k d).lock < length kinds
names_declared kinds ops read k d below = slice_get_within kinds _ _ (read.all k d below).declared

-- a lock is held at every position as it is at another one, where it is so for each declared lock
same_at : (kinds : List Kind) (ops : List Op) → IsRead kinds ops → (m n : ℕ) → same_holds (length kinds) (take n ops) (take m ops) ≡ true → (lock : ℕ) → way_at ops m lock ≡ way_at ops n lock
same_at kinds ops read m n same lock = by_place (cases_lt lock (length kinds))
  where
    by_place : (lock < length kinds) ⊎ (length kinds ≤ lock) → way_at ops m lock ≡ way_at ops n lock
    by_place (inl declared) = sym (way_at-take ops m lock) ∙ sym (same_holds-at (length kinds) lock (take n ops) (take m ops) same declared) ∙ way_at-take ops n lock
    by_place (inr above) = unnamed ops (length kinds) m lock above (names_declared kinds ops read) ∙ sym (unnamed ops (length kinds) n lock above (names_declared kinds ops read))

tried_restores : (kinds : List Kind) (ops : List Op) → IsRead kinds ops → (n : ℕ) (o : Op) → slice_get ops n ≡ Some o → is_try o.verb ≡ true
    → same_holds (length kinds) (take n ops) (take (n + 1 + to_release (drop (n + 1) ops) o.lock) ops) ≡ true
tried_restores kinds ops read n o here tries =
    let below : n < length ops = slice_get_within ops n o here in
    let is : get_or ops n o ≡ o = get_or_from_slice_get ops n o o here in
    let front : take (n + 1) ops ≡ take n ops ++ o ∷ [] = take_more ops n o below ∙ ap (λ x. take n ops ++ x ∷ []) is in
    let count : length (take n ops) ≡ n = length-take-le n ops (omega arith) in
    let counted : length (take (n + 1) ops) ≡ n + 1 = length-take-le (n + 1) ops (omega arith) in
    let declared : o.lock < length kinds = rw is at (names_declared kinds ops read n o below) in
    let on : (o.lock == o.lock) ≡ true = grind (arith, nat_tests) in
    let tried : IsTried kinds ops read o.lock n declared (take (n + 1) ops) (drop (n + 1) ops) = record {
      whole = sym (take-append-drop (n + 1) ops);
      held = rw (front, way_after_all-push (take n ops) o o.lock, on) (held_after o.verb tries);
      since = rw (front, try_at-push (take n ops) o o.lock, on, tries, count) refl;
      within = rw counted (omega arith);
    } in
    rw counted at (restores kinds ops read o.lock n declared (take (n + 1) ops) (drop (n + 1) ops) tried)

ends_free : (kinds : List Kind) (ops : List Op) → IsRead kinds ops → (lock : ℕ) → way_at ops (length ops) lock ≡ None
ends_free kinds ops read lock = by_place (cases_lt lock (length kinds))
  where
    by_place : (lock < length kinds) ⊎ (length kinds ≤ lock) → way_at ops (length ops) lock ≡ None
    by_place (inl declared) = same_holds-at (length kinds) lock ops [] read.free declared
    by_place (inr above) = unnamed ops (length kinds) (length ops) lock above (names_declared kinds ops read)

-- a program that is read is lawful, and has not too many operations
pub lawful_program : (kinds : List Kind) (words : List (List ℕ)) (ops : List Op) → ops_of kinds words ≡ Ok ops → IsLawfulProgram kinds ops × (length ops ≤ MAX_OPS)
lawful_program kinds words ops is =
    let read = ops_of-read kinds words ops is in (
      record {
        declared = λ n o here. rw (get_or_from_slice_get ops n o o here) at (read.all n o (slice_get_within ops n o here)).declared;
        fits = λ n o here. sym (way_at-take ops n o.lock) ∙ (rw (get_or_from_slice_get ops n o o here) at (read.all n o (slice_get_within ops n o here)).fits);
        tried = λ n o here tries lock. same_at kinds ops read _ n (tried_restores kinds ops read n o here tries) lock;
        ends = ends_free kinds ops read;
      },
      read.few,
    )
