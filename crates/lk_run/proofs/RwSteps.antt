-- What a step call on the word of a reader-writer lock asks of a call, and what it does to it.
use Rattle.std.proofs.Common.{◌≡◌, inl, inr, ℕ, ◌≢◌, List, length, Option, Some, None, Bool, true}
use Rattle.std.proofs.Common.{false, eqb, eq-eqb, ne_eqb, refl, ap, ◌∙◌, subst, arith}
use Rattle.std.proofs.Common.{if◌then◌else◌}
use Rattle.lk_run.proofs.Names.{Manner, LockName, first_place, wait_name, Frame, Pc, F1, R1, R2, U1}
use Rattle.lk_run.proofs.Names.{Wr2, Wr5, Verb, Read, TryRead, TryWrite, Write, if-true, Met}
use Rattle.lk_run.proofs.Names.{Shared, Word, after_wait, takes_wait, is_taking, Running, begin}
use Rattle.lk_run.proofs.Names.{held_in, lock_name, sight_of, terms_of, waits_in, Any, ActsIn}
use Rattle.lk_run.proofs.Names.{MadeBy, rowed, frees_by, queues_up, ActsFor, SharedBy, watches_at}
use Rattle.lk_run.proofs.Names.{IsOf, KeepsRest, calls_of, ledger_of, view_of, Inside, IsOn}
use Rattle.lk_run.proofs.Names.{Outside, Stage, Cpu, Domain, CameIn, HasPolled, Passed, StandsAs}
use Rattle.lk_run.proofs.Names.{Start, Waits, biased, starting, waiter}
use Rattle.lk_rows.specs.{Programs.kind_of, declared.parts.Pc.TheVariants.{R3, Y1, Y4}}
use Rattle.lk_law.specs.Premises.{IsThen}
use Rattle.lk_domain.proofs.{Acting.{acts_on, begins_on}, Ways.acts_first}
use Rattle.lk_domain.specs.{Plans.kind_at, Waits.MayTake}
use Rattle.lk_run.proofs.{Polls.falls_none, RwRows.{TakesBy, SetsOut, FreesIt}}
use Rattle.lk_run.proofs.{Steps.{seat_of, passes_none}, Ways.Leads}
use Rattle.lk_run.specs.PolledRead.{Alone, Nested, Began}
use Rattle.lk_domain.proofs.Standing as path
use Rattle.lk_run.proofs.Entered as enter
use Rattle.lk_run.proofs.Stepped as step
use Rattle.lk_run.proofs.Ways as way

-- what is asked of a call that begins
pub acts_begin : (kind : Pc → Bool) (d : Domain) (v : Verb) (l : ℕ) (a : Cpu) → IsOf a d → MayTake l (calls_of a)
    → is_taking v ≡ true → kind_at d.plan l ≡ kind_of v → kind (first_place d.plan.mode v) ≡ true → ActsFor kind (view_of a) v l
acts_begin kind d v l a of may takes fits is =
    record {
      inside = false;
      acts = acts_first kind d.plan a.number v l (view_of a) (seat_of d a of) takes may.fresh may.free may.few fits is;
    }

-- of one that goes on
module _ (d : Domain) (v : Verb) (n : LockName) (c : Pc) (P : Frame → Type 0) (stage : Stage) (a : Cpu) (w : StandsAs stage d v n c P a) where
  pub acts_for : (kind : Pc → Bool) → kind c ≡ true → ActsFor kind (view_of a) v n.index
  acts_for kind is =
      record {
        inside = n.wait;
        acts = record {
          row = c;
          is = is;
          stands = acts_on (calls_of a) v n c (path.stands w.1) (view_of a).who.plan.mode;
          begins = begins_on (calls_of a) v n c (path.stands w.1) (view_of a).who.plan;
        };
      }

  -- it waits for its lock
  pub waits_on : waits_in (calls_of a).frames n.index ≡ true
  waits_on =
      ap (λ (rs : List Running). waits_in rs n.index) w.1.frames
      ∙ if-true (eqb w.1.frame.lock.index n.index) true (waits_in w.0.frames n.index)
      (eq-eqb w.1.frame.lock.index n.index (ap (λ (z : LockName). z.index) w.1.lock))

-- a call that begins
module _ (d : Domain) (v : Verb) (l : ℕ) (a b : Cpu) (rest : KeepsRest a b) (of : IsOf a d) (takes : is_taking v ≡ true)
    {met : ℕ} (made : SharedBy v l a.seat.me met b.seat.me) (none : waits_in (calls_of a).frames l ≡ false) (nests : Bool) (told : Option ℕ) where
  abbrev row : Pc
  row = first_place d.plan.mode v

  abbrev x : Met
  x = Shared made.found

  is : view_of b ≡ rowed (view_of a) (begin d.plan.mode (calls_of a) v l) x
  is = step.first_shared d v (lock_name l) a b rest of made none

  free : takes_wait v ≡ true → held_in (calls_of a).holds (length (calls_of a).frames) (wait_name l) ≡ None
  free _ = made.outside (length (calls_of a).frames) (omega arith)

  at : IsOn (terms_of d.plan) b.number v (lock_name l) row Any Outside (calls_of a) (begin d.plan.mode (calls_of a) v l)
  at = (path.starts (terms_of d.plan) b.number v l (calls_of a) takes free).on

  pub first_enters : (m : Manner) → ((f : Frame) → TakesBy d.plan.mode b.number (sight_of (terms_of d.plan) b.number None) row f x m None) → CameIn d v l m (starting a nests told) b told
  first_enters m leads =
      enter.enters d v (lock_name l) a b rest of (begin d.plan.mode (calls_of a) v l) x is row Any (starting a nests told) at told
      (passes_none _ (ledger_of a) (ledger_of a) refl) (falls_none told)
      (step.none_yet d v l a b rest of takes free x is nests told) (step.none_taken d v l a b rest of takes free x is nests told) m (leads at.frame)

  pub first_sets_out : (e : Pc) → ((f : Frame) → SetsOut d.plan.mode b.number (sight_of (terms_of d.plan) b.number None) row f x e) → Some e ≡ after_wait v → (F1 ≡ row → ⊥)
      → Waits d v (wait_name l) F1 Any (starting a nests told) b told
  first_sets_out e leads next other =
      enter.sets_out d v l a b rest of (begin d.plan.mode (calls_of a) v l) x is row Any (starting a nests told) at told
      (passes_none _ (ledger_of a) (ledger_of a) refl) (falls_none told)
      (step.none_yet d v l a b rest of takes free x is nests told) (step.none_taken d v l a b rest of takes free x is nests told) e (leads at.frame) next other

  pub first_goes : (e : ℕ → Pc) → (e (length (calls_of a).frames) ≡ row → ⊥)
      → ((f : Frame) → Leads d.plan.mode b.number (sight_of (terms_of d.plan) b.number None) row f x (e f.ctx) Any)
      → Waits d v (lock_name l) (e (length (calls_of a).frames)) Any (starting a nests told) b told
  first_goes e other leads =
      way.goes d v (lock_name l) a b rest of (begin d.plan.mode (calls_of a) v l) x is row Any Outside (starting a nests told) at told
      (passes_none _ (ledger_of a) (ledger_of a) refl) (falls_none told)
      (step.none_yet d v l a b rest of takes free x is nests told) (step.none_taken d v l a b rest of takes free x is nests told) (e (length (calls_of a).frames)) Any other
      (subst (λ k. Leads d.plan.mode b.number (sight_of (terms_of d.plan) b.number None) row at.frame x (e k) Any) at.ctx (leads at.frame))

-- a call that goes on, without the wait lock
module _ (d : Domain) (v : Verb) (l : ℕ) (a b : Cpu) (rest : KeepsRest a b) (of : IsOf a d) (takes : is_taking v ≡ true)
    {met : ℕ} (made : SharedBy v l a.seat.me met b.seat.me) (c : Pc) (s : Start) (told : Option ℕ)
    (w : Waits d v (lock_name l) c Any s a told) where
  pub on_enters : (m : Manner) → ((f : Frame) → TakesBy d.plan.mode b.number (way.sees d a b) c f (Shared made.found) m None) → CameIn d v l m s b told
  on_enters m leads =
      let is = step.on_shared d v (lock_name l) a b rest of made w.looked.at in
      let at = step.here d v (lock_name l) a b rest of (Shared made.found) is c Any Outside s told w in
      enter.enters d v (lock_name l) a b rest of (calls_of a) (Shared made.found) is c Any s at told
      w.looked.passes w.looked.falls w.rises w.looked.once m (leads at.frame)

  pub on_sets_out : (e : Pc) → ((f : Frame) → SetsOut d.plan.mode b.number (way.sees d a b) c f (Shared made.found) e) → Some e ≡ after_wait v
      → (F1 ≡ c → ⊥) → Waits d v (wait_name l) F1 Any s b told
  on_sets_out e leads next other =
      let is = step.on_shared d v (lock_name l) a b rest of made w.looked.at in
      let at = step.here d v (lock_name l) a b rest of (Shared made.found) is c Any Outside s told w in
      enter.sets_out d v l a b rest of (calls_of a) (Shared made.found) is c Any s at told
      w.looked.passes w.looked.falls w.rises w.looked.once e (leads at.frame) next other

-- with it
module _ (d : Domain) (v : Verb) (l : ℕ) (a b : Cpu) (rest : KeepsRest a b) (of : IsOf a d) (takes : is_taking v ≡ true)
    {met : ℕ} (made : SharedBy v l a.seat.me met b.seat.me) (c : Pc) (s : Start) (told : Option ℕ)
    (w : HasPolled (waiter Inside d v (wait_name l)) c Any s a told) where
  pub on_passes : (m : Manner) → ((f : Frame) → TakesBy d.plan.mode b.number (way.sees d a b) c f (Shared made.found) m (Some U1)) → (U1 ≡ c → ⊥)
      → Passed d v l m s b told
  on_passes m leads other =
      let is = step.on_shared d v (wait_name l) a b rest of made w.looked.at in
      enter.passes d v l a b rest of (Shared made.found) is c s told w m
      (leads (enter.here d v l a b rest of (Shared made.found) is c s told w).frame) other

-- the wait lock is freed
pub on_ends : (d : Domain) (v : Verb) (l : ℕ) (m : Manner) (a b : Cpu) (rest : KeepsRest a b) (of : IsOf a d)
    → is_taking v ≡ true → {met : ℕ} → (made : MadeBy v l a.seat.me met b.seat.me) → (s : Start) (told : Option ℕ)
    → Passed d v l m s a told → takes_wait v ≡ true
    → ((f : Frame) → FreesIt d.plan.mode b.number (way.sees d a b) U1 f (Word made.found)) → CameIn d v l m s b told
on_ends d v l m a b rest of takes made s told w waits frees =
    let is = step.on_word d v (wait_name l) a b rest of made w.at in
    enter.ends d v l m a b rest of (Word made.found) is s told w waits
    (frees (enter.gone d v l m a b rest of (Word made.found) is s told w waits).at.frame)

-- what is asked of the release of the wait lock
pub acts_freeing : (d : Domain) (v : Verb) (l : ℕ) (m : Manner) (a : Cpu) (s : Start) (told : Option ℕ) → Passed d v l m s a told
    → takes_wait v ≡ true → ActsIn (frees_by v) (view_of a) v (wait_name l)
acts_freeing d v l m a s told w waits =
    record {
      acts = record {
        row = U1;
        is = by v waits;
        stands = acts_on (calls_of a) v (wait_name l) U1 (path.stands w.at) (view_of a).who.plan.mode;
        begins = begins_on (calls_of a) v (wait_name l) U1 (path.stands w.at) (view_of a).who.plan;
      };
      inside = within v waits;
      after = next v waits w.at.frame.then w.at.after;
    }
  where
    by : (v : Verb) → takes_wait v ≡ true → frees_by v U1 ≡ true
    by Read h = refl
    by Write h = refl
    by _ h = cc h

    within : (v : Verb) → takes_wait v ≡ true → true ≡ queues_up v
    within Read h = refl
    within Write h = refl
    within _ h = cc h

    next : (v : Verb) → takes_wait v ≡ true → (then' : Option Pc) → (true ≡ true → then' ≡ after_wait v) → true ≡ true → IsThen then'
    next Read h then' after e = inl (after e)
    next Write h then' after e = inr (after e)
    next _ h then' after e = absurd (cc h)

pub waits_taking : (v : Verb) → takes_wait v ≡ true → is_taking v ≡ true
waits_taking Read h = refl
waits_taking Write h = refl
waits_taking _ h = cc h

-- where a reader goes on is not where it began
pub biased_else : (k : ℕ) → biased k ≡ R1 → ⊥
biased_else k = by (eqb k 0)
  where
    by : (b : Bool) → (if b then R3 else R2) ≡ R1 → ⊥
    by true e = cc e
    by false e = cc e

-- a writer's looks do not depend on what waits besides

pub watches_Wr2 : (b : Bool) → watches_at b Write Wr2 ≡ true
watches_Wr2 true = refl
watches_Wr2 false = refl

pub watches_Wr5 : (b : Bool) → watches_at b Write Wr5 ≡ true
watches_Wr5 true = refl
watches_Wr5 false = refl

-- nor do those of tries

pub watches_Y1 : (b : Bool) → watches_at b TryRead Y1 ≡ true
watches_Y1 true = refl
watches_Y1 false = refl

pub watches_Y4 : (b : Bool) → watches_at b TryWrite Y4 ≡ true
watches_Y4 true = refl
watches_Y4 false = refl

-- a reader below which no call waits, and one that has interrupted another

pub biased_alone : (d : Domain) (l : ℕ) (s : Start) (a : Cpu) (told : Option ℕ)
    → Began d l s a told → length (calls_of a).frames ≡ 1 → Alone (Waits d Read (lock_name l) R3 Any) s a told
biased_alone d l s a told w one =
    let deep = ap (λ (rs : List Running). length rs) w.looked.at.frames in
    let none : length s.calls.frames ≡ 0 = omega (arith, deep, one) in
    (none, subst (λ k. Waits d Read (lock_name l) (biased k) Any s a told) none w)

pub biased_nested : (d : Domain) (l : ℕ) (s : Start) (a : Cpu) (told : Option ℕ)
    → Began d l s a told → length (calls_of a).frames ≢ 1 → Nested (Waits d Read (lock_name l) R2 Any) s a told
biased_nested d l s a told w more =
    let deep = ap (λ (rs : List Running). length rs) w.looked.at.frames in
    let some : length s.calls.frames ≢ 0 = λ e. more (omega (arith, deep, e)) in
    (some, subst (λ b. Waits d Read (lock_name l) (if b then R3 else R2) Any s a told) (ne_eqb (length s.calls.frames) 0 some) w)
