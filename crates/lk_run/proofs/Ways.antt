-- What a step of a processor does to a call that waits: it goes on, looks, or has the lock for which it
-- queued.
use Rattle.std.proofs.Common.{◌≡◌, inl, inr, ℕ, ◌+◌, List, [], ◌∷◌, ◌++◌, Option, Some, None, Bool}
use Rattle.std.proofs.Common.{true, false, eqb, refl, sym, ap, ◌∙◌, subst, arith, ◌||◌}
use Rattle.std.proofs.Common.{if◌then◌else◌, ◌&&◌, not}
use Rattle.lk_run.proofs.Names.{Spins, LockName, Mode, wait_name, target, Frame, Pc, G1, Verb, Lock}
use Rattle.lk_run.proofs.Names.{Read, Write, if-false, if-true, is_rw_row, Met, Number, held_lock}
use Rattle.lk_run.proofs.Names.{after_wait, is_taking, Calls, Mark, Outlook, Running, Takes}
use Rattle.lk_run.proofs.Names.{Unchanged, holds_in, lock_name, mark, row_of, sight_of, terms_of}
use Rattle.lk_run.proofs.Names.{waits_in, Ledger, turned, readies, Any, Passes, is_busy, next_frame}
use Rattle.lk_run.proofs.Names.{row_grip, rowed, is_swap, is_watch, looks_by, queues_up, takes_by}
use Rattle.lk_run.proofs.Names.{IsOf, KeepsRest, calls_of, ledger_of, view_of, Inside, IsOn}
use Rattle.lk_run.proofs.Names.{Outside, Stage, Cpu, Domain, View, HasPolled, Holds, OwesPoll}
use Rattle.lk_run.proofs.Names.{Start, newest, waiter, Acquires, GivesWay, HasStayed, NeverFalls}
use Rattle.lk_run.proofs.Names.{RisesBy}
use Rattle.lk_rows.specs.rows.Queue.{entry_row}
use Rattle.lk_law.specs.{Leads.course_of, Premises.IsThen}
use Rattle.lk_domain.specs.Calls.{read_at, grip_of, running, row_on, row_at, after, frames_after}
use Rattle.lk_domain.specs.{Calls.{taken_after, Grip}, Plays.{turned_of, turned_on, turned_at}}
use Rattle.lk_domain.specs.{Rows.is_patient, Standing.locks_at, Views.own_number}
use Rattle.lk_run.proofs.Polls.{rises_after, falls_after, stays_before, more_after, polled_by}
use Rattle.lk_run.proofs.{Polls.recount, Standing.grants as grants_it}
use Rattle.lk_run.proofs.Steps.{passes_none, passes_both, looked}
use Rattle.lk_run.specs.Phases.{Won, Queues, resumes}
use Rattle.lk_domain.proofs.Standing as path

-- where a row leads that goes on, and what its frame then is
pub record Leads (mode : Mode) (p : ℕ) (z : Outlook) (c : Pc) (f : Frame) (x : Met) (e : Pc) (Q : Frame → Type 0) : Type 0 where
  pub place : (next_frame mode p z c f x).place ≡ Some e
  pub grip : row_grip mode p z c f x ≡ Unchanged
  pub lock : (next_frame mode p z c f x).lock ≡ f.lock
  pub after : (next_frame mode p z c f x).then ≡ f.then
  pub has : Q (next_frame mode p z c f x)

-- one that takes the lock on which the frame acts
pub record Ends (mode : Mode) (p : ℕ) (z : Outlook) (c : Pc) (f : Frame) (x : Met) : Type 0 where
  pub place : (next_frame mode p z c f x).place ≡ (if f.lock.wait then f.then else None)
  pub grip : row_grip mode p z c f x ≡ Takes Spins
  pub own : held_lock (target c f) f ≡ f.lock
  pub lock : (next_frame mode p z c f x).lock ≡ f.lock
  pub after : (next_frame mode p z c f x).then ≡ f.then

-- no look begins with a wait lock
pub wait_turned : (g : Ledger) (n : LockName) (y : Grip) (t : List Mark) → n.wait ≡ true → turned g n y t ≡ g
wait_turned g n Unchanged t w = refl
wait_turned g n (Takes m) t w = if-false ((eqb n.index 0) && not n.wait) _ g (off (eqb n.index 0) n.wait w)
  where
    off : (a b : Bool) → b ≡ true → (a && not b) ≡ false
    off true true w = refl
    off false true w = refl
    off a false w = cc w
wait_turned g n Grip.Frees t w = if-false ((eqb n.index 0) && not n.wait) _ g (off (eqb n.index 0) n.wait w)
  where
    off : (a b : Bool) → b ≡ true → (a && not b) ≡ false
    off true true w = refl
    off false true w = refl
    off a false w = cc w

-- where a reader or a writer goes on is no row of a spinlock
pub resumes_else : (v : Verb) (c : Pc) → is_rw_row c ≡ false → resumes v ≡ c → ⊥
resumes_else v c spin e = let z : true ≡ false = sym (by v) ∙ (ap is_rw_row e ∙ spin) in cc z
  where
    by : (v : Verb) → is_rw_row (resumes v) ≡ true
    by Read = refl
    by Lock = refl
    by _ = refl

-- who queues takes, and goes on until it has the lock

pub not_is : (b : Bool) → not b ≡ true → b ≡ false
not_is false q = refl
not_is true q = absurd (cc q)

pub queues_taking : (v : Verb) (n : LockName) → Queues v n → is_taking v ≡ true
queues_taking Lock n q = refl
queues_taking Read n q = refl
queues_taking Write n q = refl
queues_taking _ n q = absurd (cc q)

pub queues_patient : (v : Verb) (n : LockName) → Queues v n → is_patient v ≡ true
queues_patient Lock n q = refl
queues_patient Read n q = refl
queues_patient Write n q = refl
queues_patient _ n q = absurd (cc q)

pub queues_inside : (v : Verb) (n : LockName) → Queues v n → n.wait ≡ queues_up v
queues_inside Lock n q = not_is n.wait q
queues_inside Read n q = q
queues_inside Write n q = q
queues_inside _ n q = absurd (cc q)

pub queues_looks : (v : Verb) (n : LockName) → Queues v n → (c : Pc) → is_watch c ≡ true → looks_by v c ≡ true
queues_looks Lock n q c h = h
queues_looks Read n q c h = h
queues_looks Write n q c h = h
queues_looks _ n q c h = absurd (cc q)

pub queues_swaps : (v : Verb) (n : LockName) → Queues v n → (c : Pc) → is_swap c ≡ true → takes_by v c ≡ true
queues_swaps Lock n q c h = h
queues_swaps Read n q c h = h
queues_swaps Write n q c h = h
queues_swaps _ n q c h = absurd (cc q)

pub next_is : (v : Verb) (n : LockName) → Queues v n → n.wait ≡ true → after_wait v ≡ Some (resumes v)
next_is Lock n q w = let z : true ≡ false = sym w ∙ not_is n.wait q in cc z
next_is Read n q w = refl
next_is Write n q w = refl
next_is _ n q w = absurd (cc q)

-- it knows where it goes on
pub then_is : (v : Verb) (n : LockName) (next : Option Pc) → Queues v n → (n.wait ≡ true → next ≡ after_wait v) → n.wait ≡ true → IsThen next
then_is Lock n next q after w = let z : true ≡ false = sym w ∙ not_is n.wait q in absurd (cc z)
then_is Read n next q after w = inl (after w)
then_is Write n next q after w = inr (after w)
then_is _ n next q after w = absurd (cc q)

-- what a processor sees, whose calls before its step were those of a
abbrev pub sees : Domain → Cpu → Cpu → Outlook
sees d a b = sight_of (terms_of d.plan) b.number (calls_of a).runs

-- the mark of a row of the newest of the calls `was`
abbrev pub marked : Domain → Cpu → Calls → Pc → Met → Mark
marked d b was c x = mark c x (read_at c (sight_of (terms_of d.plan) b.number was.runs))

-- a step by which the newest of the calls `was` makes its row at c, which meets x
module _ (d : Domain) (v : Verb) (n : LockName) (a b : Cpu) (rest : KeepsRest a b) (of : IsOf a d) (was : Calls) (x : Met)
    (step : view_of b ≡ rowed (view_of a) was x) (c : Pc) (P : Frame → Type 0) (stage : Stage) (old : Calls)
    (at : IsOn (terms_of d.plan) b.number v n c P stage old was) where
  abbrev mode : Mode
  mode = d.plan.mode

  abbrev f : Frame
  f = at.frame

  abbrev trail : List Mark
  trail = at.trail ++ marked d b was c x ∷ []

  -- what the processor sees
  abbrev z : Outlook
  z = sight_of (terms_of d.plan) b.number was.runs

  terms_are : terms_of (view_of a).who.plan ≡ terms_of d.plan
  terms_are = ap terms_of of.plan

  number_is : own_number (view_of a).who.number ≡ b.number
  number_is = ap own_number a.numbered ∙ sym rest.same.number

  pub calls : calls_of b ≡ row_of (terms_of d.plan) b.number was x
  calls = ap (λ (v : View). v.calls) step ∙ (λ i. row_of (terms_are i) (number_is i) was x)

  pub turns : ledger_of b ≡ turned (ledger_of a) (held_lock (target c f) f) (row_grip mode b.number z c f x) trail
  turns =
      ap (λ (v : View). v.ledger) step
      ∙ ((λ i. turned_of (terms_are i) (number_is i) was x (ledger_of a))
      ∙ (ap (λ (rs : List Running). turned_on mode b.number z rs x (ledger_of a)) at.frames
      ∙ ap (λ q. turned_at mode b.number z (running v f at.trail) x (ledger_of a) q) at.place))

  pub before : newest was.frames ≡ at.trail
  before = ap newest at.frames

  -- the trail of the call grows
  pub grows : (e : Pc) → (next_frame mode b.number z c f x).place ≡ Some e → newest (calls_of b).frames ≡ trail
  grows e place =
      ap (λ (z : Calls). newest z.frames) calls
      ∙ (ap (λ (xs : List Running). newest (row_on mode b.number z xs was x).frames) at.frames
      ∙ (ap (λ q. newest (row_at mode b.number z (running v f at.trail) old.frames was x q).frames) at.place
      ∙ ap (λ q. newest (frames_after v (next_frame mode b.number z c f x) trail old.frames q)) place))

  pub last_is : (next_frame mode b.number z c f x).place ≡ None → (calls_of b).last ≡ trail
  last_is place = path.last_is at x calls place

pub none_more : (m : ℕ) → m ≡ m + 0
none_more m = omega arith

-- and the call began so
module _ (d : Domain) (v : Verb) (n : LockName) (a b : Cpu) (rest : KeepsRest a b) (of : IsOf a d) (was : Calls) (x : Met)
    (step : view_of b ≡ rowed (view_of a) was x) (c : Pc) (P : Frame → Type 0) (stage : Stage) (s : Start)
    (at : IsOn (terms_of d.plan) b.number v n c P stage s.calls was) (told : Option ℕ)
    (passes : Passes ((eqb n.index 0) || is_busy s.calls) s.ledger (ledger_of a)) (falls : NeverFalls s.told told)
    (rises : (y : Met) (r k : ℕ) → HasStayed k (newest was.frames ++ mark c y r ∷ []) → RisesBy k s.told told)
    (once : Acquires s.nests (locks_at stage) s.calls was s.told told) where
  abbrev mode' : Mode
  mode' = d.plan.mode

  abbrev z' : Outlook
  z' = sight_of (terms_of d.plan) b.number was.runs

  abbrev f' : Frame
  f' = at.frame

  -- what is polled up to this row
  pub polls_over : {t : List Mark} → t ≡ at.trail ++ marked d b was c x ∷ [] → (k : ℕ) → HasStayed k t → RisesBy k s.told told
  polls_over last k h =
      rises x (read_at c z') k (subst (λ t. HasStayed k (t ++ marked d b was c x ∷ [])) (sym (before d v n a b rest of was x step c P stage s.calls at))
      (subst (HasStayed k) last h))

  -- what is polled where it goes on at another row
  pub polls : (e : Pc) → (e ≡ c → ⊥) → (next_frame mode' b.number z' c f' x).place ≡ Some e
      → (y : Met) (r k : ℕ) → HasStayed k (newest (calls_of b).frames ++ mark e y r ∷ []) → RisesBy k s.told told
  polls e other place y r k h =
      polls_over refl k
      (stays_before k at.trail (marked d b was c x) (mark e y r) other
      (subst (λ t. HasStayed k (t ++ mark e y r ∷ [])) (grows d v n a b rest of was x step c P stage s.calls at e place) h))

  -- how many locks it has taken after this row
  pub counts : (y : Grip) (m : ℕ) → row_grip mode' b.number z' c f' x ≡ y
      → taken_after y was.taken ≡ was.taken + m → Acquires s.nests (locks_at stage + m) s.calls (calls_of b) s.told told
  counts y m grip more =
      let now : (calls_of b).taken ≡ was.taken + m = path.count_after at x (calls d v n a b rest of was x step c P stage s.calls at) y grip ∙ more in
      recount s.nests (locks_at stage) (locks_at stage + m) s.calls was (calls_of b) s.told told once (λ e. omega (arith, now, e))

  -- the ledger of a row that begins and ends no look
  pub passed : row_grip mode' b.number z' c f' x ≡ Unchanged → Passes ((eqb n.index 0) || is_busy s.calls) s.ledger (ledger_of b)
  passed grip =
      passes_both ((eqb n.index 0) || is_busy s.calls) s.ledger (ledger_of a) (ledger_of b) passes
      (passes_none ((eqb n.index 0) || is_busy s.calls) (ledger_of a) (ledger_of b)
      (turns d v n a b rest of was x step c P stage s.calls at
      ∙ ap (λ y. turned (ledger_of a) (held_lock (target c f') f') y (at.trail ++ marked d b was c x ∷ [])) grip))

  goes_to : (e : Pc) (Q : Frame → Type 0) → Leads mode' b.number z' c f' x e Q → OwesPoll (waiter stage d v n) e Q s b told
  goes_to e Q leads =
      record {
        at = path.goes at x (calls d v n a b rest of was x step c P stage s.calls at) e Q leads.place leads.grip leads.lock leads.after leads.has;
        passes = passed leads.grip;
        falls = falls;
        stays = polls_over (grows d v n a b rest of was x step c P stage s.calls at e leads.place);
        once = subst (λ m. Acquires s.nests m s.calls (calls_of b) s.told told) (sym (none_more (locks_at stage)))
            (counts Unchanged 0 leads.grip (none_more was.taken));
      }

  -- the row leads back to itself
  pub looks : (Q : Frame → Type 0) → Leads mode' b.number z' c f' x c Q → OwesPoll (waiter stage d v n) c Q s b told
  looks Q leads = goes_to c Q leads

  -- it leads to another
  pub goes : (e : Pc) (Q : Frame → Type 0) → (e ≡ c → ⊥) → Leads mode' b.number z' c f' x e Q → HasPolled (waiter stage d v n) e Q s b told
  goes e Q other leads = record { looked = goes_to e Q leads; rises = polls e other leads.place }

-- it takes the lock for which it queued
module _ (d : Domain) (v : Verb) (n : LockName) (a b : Cpu) (rest : KeepsRest a b) (of : IsOf a d) (was : Calls) (x : Met)
    (step : view_of b ≡ rowed (view_of a) was x) (c : Pc) (P : Frame → Type 0) (s : Start)
    (at : IsOn (terms_of d.plan) b.number v n c P Outside s.calls was) (told : Option ℕ)
    (passes : Passes ((eqb n.index 0) || is_busy s.calls) s.ledger (ledger_of a)) (falls : NeverFalls s.told told)
    (rises : (y : Met) (r k : ℕ) → HasStayed k (newest was.frames ++ mark c y r ∷ []) → RisesBy k s.told told)
    (once : Acquires s.nests 0 s.calls was s.told told)
    (ends : Ends d.plan.mode b.number (sight_of (terms_of d.plan) b.number was.runs) c at.frame x) where
  wait_is : at.frame.lock.wait ≡ n.wait
  wait_is = ap (λ (z : LockName). z.wait) at.lock

  now : ledger_of b ≡ turned (ledger_of a) n (Takes Spins) (at.trail ++ marked d b was c x ∷ [])
  now =
      turns d v n a b rest of was x step c P Outside s.calls at
      ∙ (λ i. turned (ledger_of a) ((ends.own ∙ at.lock) i) (ends.grip i) (at.trail ++ marked d b was c x ∷ []))

  -- the lock itself
  takes : n.wait ≡ false → Holds d v n.index Spins s b told
  takes plain =
      let name : n ≡ lock_name n.index = λ i. record { index = n.index; wait = plain i } in
      let place : (next_frame d.plan.mode b.number (sight_of (terms_of d.plan) b.number was.runs) c at.frame x).place ≡ None =
      ends.place ∙ if-false at.frame.lock.wait at.frame.then None (wait_is ∙ plain) in
      let last = last_is d v n a b rest of was x step c P Outside s.calls at place in
      record {
        taken = path.takes at x (calls d v n a b rest of was x step c P Outside s.calls at) Spins place ends.grip (ends.own ∙ (at.lock ∙ name));
        look = looked n.index Spins s.calls (calls_of b).last s.ledger (ledger_of a) (ledger_of b) passes
            (now ∙ ((λ i. turned (ledger_of a) (name i) (Takes Spins) (at.trail ++ marked d b was c x ∷ []))
            ∙ ap (λ ms. turned (ledger_of a) (lock_name n.index) (Takes Spins) ms) (sym last)));
        polled = record {
          falls = falls;
          rises = polls_over d v n a b rest of was x step c P Outside s at told passes falls rises once last;
        };
        once = counts d v n a b rest of was x step c P Outside s at told passes falls rises once (Takes Spins) 1 ends.grip refl;
      }

  -- the wait lock
  grants : Queues v n → is_rw_row c ≡ false → n.wait ≡ true → HasPolled (waiter Inside d v (wait_name n.index)) (resumes v) Any s b told
  grants queues spin wait =
      let name : n ≡ wait_name n.index = λ i. record { index = n.index; wait = wait i } in
      let place : (next_frame d.plan.mode b.number (sight_of (terms_of d.plan) b.number was.runs) c at.frame x).place ≡ Some (resumes v) =
      ends.place ∙ (if-true at.frame.lock.wait at.frame.then None (wait_is ∙ wait) ∙ (at.after wait ∙ next_is v n queues wait)) in
      subst (λ (z : LockName). HasPolled (waiter Inside d v z) (resumes v) Any s b told) name (record {
        looked = record {
          at = grants_it at x (calls d v n a b rest of was x step c P Outside s.calls at) (resumes v) place ends.grip (ends.own ∙ at.lock) ends.lock ends.after;
          passes = passes_both ((eqb n.index 0) || is_busy s.calls) s.ledger (ledger_of a) (ledger_of b) passes
              (passes_none ((eqb n.index 0) || is_busy s.calls) (ledger_of a) (ledger_of b)
              (now ∙ wait_turned (ledger_of a) n (Takes Spins) (at.trail ++ marked d b was c x ∷ []) wait));
          falls = falls;
          stays = polls_over d v n a b rest of was x step c P Outside s at told passes falls rises once
              (grows d v n a b rest of was x step c P Outside s.calls at (resumes v) place);
          once = counts d v n a b rest of was x step c P Outside s at told passes falls rises once (Takes Spins) 1 ends.grip refl;
        };
        rises = polls d v n a b rest of was x step c P Outside s at told passes falls rises once (resumes v) (resumes_else v c spin) place;
      })

  pub wins : Queues v n → is_rw_row c ≡ false → Won n.wait d v n.index s b told
  wins queues spin = by n.wait refl
    where
      by : (w : Bool) → n.wait ≡ w → Won w d v n.index s b told
      by false e = takes e
      by true e = grants queues spin e

-- nested calls leave the call where it is, and it has polled
pub polled_at : (d : Domain) (v : Verb) (n : LockName) (c : Pc) (P : Frame → Type 0) (stage : Stage) (s : Start) (a b : Cpu) (nests : Bool)
    (before after : Option ℕ) → OwesPoll (waiter stage d v n) c P s a before → path.is_polled stage ≡ true
    → holds_in (calls_of a).holds 0 ≡ holds_in s.calls.holds 0 → GivesWay nests a before b after → s.nests ≡ nests
    → HasPolled (waiter stage d v n) c P s b after
polled_at d v n c P stage s a b nests before after looked is same gave nests_is =
    let at = looked.at in
    let busy : is_busy (calls_of a) ≡ ((eqb n.index 0) || is_busy s.calls) =
    (λ i. same i || waits_in (at.frames i) 0)
    ∙ (ap (λ (z : LockName). holds_in s.calls.holds 0 || (if eqb z.index 0 then true else waits_in s.calls.frames 0)) at.lock
    ∙ by (holds_in s.calls.holds 0) (eqb n.index 0) (waits_in s.calls.frames 0)) in
    record {
      looked = record {
        at = subst (λ (m : ℕ). IsOn (terms_of d.plan) m v n c P stage s.calls (calls_of b)) (sym gave.rest.same.number) (path.kept at is gave.calls);
        passes = passes_both ((eqb n.index 0) || is_busy s.calls) s.ledger (ledger_of a) (ledger_of b) looked.passes
            (subst (λ z. Passes z (ledger_of a) (ledger_of b)) busy gave.ledger);
        falls = falls_after s.told before after looked.falls gave.polls;
        stays = λ k h. more_after k s.told before after (looked.stays k (subst (λ xs. HasStayed k (newest xs)) gave.calls.frames h)) gave.polls;
        once = counted_by s.nests nests_is looked.once;
      };
      rises = λ y r k h. polled_by k (newest (calls_of a).frames) (mark c y r) s.told before after looked.stays gave.polls
          (subst (λ xs. HasStayed k (newest xs ++ mark c y r ∷ [])) gave.calls.frames h);
    }
  where
    by : (x y z : Bool) → (x || (if y then true else z)) ≡ (y || (x || z))
    by true true z = refl
    by true false z = refl
    by false true z = refl
    by false false z = refl

    counted_by : (q : Bool) → q ≡ nests → Acquires q (locks_at stage) s.calls (calls_of a) s.told before
        → Acquires q (locks_at stage) s.calls (calls_of b) s.told after
    counted_by true e once = inl (rises_after s.told before after looked.falls gave.polls)
    counted_by false e once = ap (λ (z : Calls). z.taken) (gave.quiet (sym e)) ∙ once

-- private stores before the row that takes a node change nothing of what the row does
pub ready_row : (n : ℕ) (m : View) (v : Verb) (f : Frame) (t : List Mark) (rs : List Running) (x : ℕ)
    → m.calls.frames ≡ running v f t ∷ rs → f.place ≡ Some G1
    → rowed (readies n m) (readies n m).calls (Number x) ≡ rowed m m.calls (Number x)
ready_row n m v f t rs x frames place = λ i. record m { calls = calls i; ledger = ledger i }
  where
    mode : Mode
    mode = m.who.plan.mode

    p : ℕ
    p = own_number m.who.number

    row : (z : Outlook) (c : Calls) → row_on mode p z m.calls.frames c (Number x)
        ≡ after v f (t ++ mark G1 (Number x) 0 ∷ []) rs c (target G1 f) (course_of (entry_row mode p x))
    row z c = ap (λ (xs : List Running). row_on mode p z xs c (Number x)) frames
        ∙ ap (λ q. row_at mode p z (running v f t) rs c (Number x) q) place

    turn : (z : Outlook) → turned_on mode p z m.calls.frames (Number x) m.ledger
        ≡ turned m.ledger (held_lock (target G1 f) f) (grip_of (target G1 f) (course_of (entry_row mode p x)))
        (t ++ mark G1 (Number x) 0 ∷ [])
    turn z = ap (λ (xs : List Running). turned_on mode p z xs (Number x) m.ledger) frames
        ∙ ap (λ q. turned_at mode p z (running v f t) (Number x) m.ledger q) place

    calls : row_of (terms_of m.who.plan) p (readies n m).calls (Number x) ≡ row_of (terms_of m.who.plan) p m.calls (Number x)
    calls = row (sight_of (terms_of m.who.plan) p None) (readies n m).calls ∙ sym (row (sight_of (terms_of m.who.plan) p m.calls.runs) m.calls)

    ledger : turned_of (terms_of m.who.plan) p (readies n m).calls (Number x) m.ledger ≡ turned_of (terms_of m.who.plan) p m.calls (Number x) m.ledger
    ledger = turn (sight_of (terms_of m.who.plan) p None) ∙ sym (turn (sight_of (terms_of m.who.plan) p m.calls.runs))
