-- What a step of a processor does to a call of a reader or a writer.
use Rattle.std.proofs.Common.{◌≡◌, ◌≤◌, ℕ, ◌+◌, ◌-◌, [], ◌∷◌, ◌++◌, length, Option, Some, None}
use Rattle.std.proofs.Common.{true, eqb, refl, sym, ap, ◌∙◌, subst, arith, length-append, ◌||◌}
use Rattle.lk_run.proofs.Names.{Manner, LockName, Mode, wait_name, Frame, Pc, F1, U1, Verb, Met}
use Rattle.lk_run.proofs.Names.{after_wait, takes_wait, Calls, Frees, Takes, Unchanged, lock_name}
use Rattle.lk_run.proofs.Names.{mark, sight_of, terms_of, turned, Any, HasLooked, Passes, is_busy}
use Rattle.lk_run.proofs.Names.{rowed, IsOf, KeepsRest, calls_of, ledger_of, view_of, Inside, IsOn}
use Rattle.lk_run.proofs.Names.{Outside, Cpu, Domain, CameIn, HasPolled, Passed, Start, Waits}
use Rattle.lk_run.proofs.Names.{newest, waiter, Acquires, HasStayed, NeverFalls, RisesBy}
use Rattle.lk_domain.proofs.Standing.{count_after, path_to}
use Rattle.lk_domain.specs.{Calls.read_at, Standing.Entered}
use Rattle.lk_run.proofs.{Polls.{stays_before, recount}, RwRows.{TakesBy, SetsOut, FreesIt}}
use Rattle.lk_run.proofs.Steps.{looked}
use Rattle.lk_run.specs.Phases.{HasPassed}
use Rattle.lk_run.proofs.Standing as path
use Rattle.lk_run.proofs.Ways as way

-- the lock that a frame acts on is the one of its operation
own_name : (f : Frame) (n : LockName) → f.lock ≡ n → lock_name f.lock.index ≡ lock_name n.index
own_name f n e = ap (λ (z : LockName). lock_name z.index) e

-- a call that has no lock yet
module _ (d : Domain) (v : Verb) (n : LockName) (a b : Cpu) (rest : KeepsRest a b) (of : IsOf a d) (was : Calls) (x : Met)
    (step : view_of b ≡ rowed (view_of a) was x) (c : Pc) (P : Frame → Type 0) (s : Start)
    (at : IsOn (terms_of d.plan) b.number v n c P Outside s.calls was) (told : Option ℕ)
    (passes : Passes ((eqb n.index 0) || is_busy s.calls) s.ledger (ledger_of a)) (falls : NeverFalls s.told told)
    (rises : (y : Met) (r k : ℕ) → HasStayed k (newest was.frames ++ mark c y r ∷ []) → RisesBy k s.told told)
    (once : Acquires s.nests 0 s.calls was s.told told) where
  abbrev mode : Mode
  mode = d.plan.mode

  -- it enters its lock, and is over
  pub enters : (m : Manner) → TakesBy mode b.number (sight_of (terms_of d.plan) b.number was.runs) c at.frame x m None → CameIn d v n.index m s b told
  enters m takes =
      let own = takes.own ∙ own_name at.frame n at.lock in
      let last = way.last_is d v n a b rest of was x step c P Outside s.calls at takes.place in
      let turns =
      way.turns d v n a b rest of was x step c P Outside s.calls at
      ∙ ((λ i. turned (ledger_of a) (own i) (takes.grip i) (at.trail ++ way.marked d b was c x ∷ []))
      ∙ ap (λ ms. turned (ledger_of a) (lock_name n.index) (Takes m) ms) (sym last)) in
      record {
        upto = (calls_of b).last;
        entered = path.enters_at_once at x (way.calls d v n a b rest of was x step c P Outside s.calls at) m takes.place takes.grip own;
        look = looked n.index m s.calls (calls_of b).last s.ledger (ledger_of a) (ledger_of b) passes turns;
        polled = record {
          falls = falls;
          rises = way.polls_over d v n a b rest of was x step c P Outside s at told passes falls rises once last;
        };
        once = subst (λ k. Acquires s.nests k s.calls (calls_of b) s.told told) (alone (length (calls_of b).last))
            (way.counts d v n a b rest of was x step c P Outside s at told passes falls rises once (Takes m) 1 takes.grip refl);
      }
    where
      alone : (k : ℕ) → 1 ≡ 1 + (k - k)
      alone k = omega arith

-- it goes to take the wait lock
module _ (d : Domain) (v : Verb) (l : ℕ) (a b : Cpu) (rest : KeepsRest a b) (of : IsOf a d) (was : Calls) (x : Met)
    (step : view_of b ≡ rowed (view_of a) was x) (c : Pc) (P : Frame → Type 0) (s : Start)
    (at : IsOn (terms_of d.plan) b.number v (lock_name l) c P Outside s.calls was) (told : Option ℕ)
    (passes : Passes ((eqb l 0) || is_busy s.calls) s.ledger (ledger_of a)) (falls : NeverFalls s.told told)
    (rises : (y : Met) (r k : ℕ) → HasStayed k (newest was.frames ++ mark c y r ∷ []) → RisesBy k s.told told)
    (once : Acquires s.nests 0 s.calls was s.told told) where
  pub sets_out : (e : Pc) → SetsOut d.plan.mode b.number (sight_of (terms_of d.plan) b.number was.runs) c at.frame x e → Some e ≡ after_wait v → (F1 ≡ c → ⊥)
      → Waits d v (wait_name l) F1 Any s b told
  sets_out e out next other =
      record {
        looked = record {
          at = path.queues at x (way.calls d v (lock_name l) a b rest of was x step c P Outside s.calls at) e out.frame out.grip next;
          passes = way.passed d v (lock_name l) a b rest of was x step c P Outside s at told passes falls rises once out.grip;
          falls = falls;
          stays = way.polls_over d v (lock_name l) a b rest of was x step c P Outside s at told passes falls rises once
              (way.grows d v (lock_name l) a b rest of was x step c P Outside s.calls at F1 (ap (λ (g : Frame). g.place) out.frame));
          once = way.counts d v (lock_name l) a b rest of was x step c P Outside s at told passes falls rises once Unchanged 0 out.grip
              (way.none_more was.taken);
        };
        rises = way.polls d v (lock_name l) a b rest of was x step c P Outside s at told passes falls rises once F1 other
            (ap (λ (g : Frame). g.place) out.frame);
      }

-- a call that has the wait lock enters its lock
module _ (d : Domain) (v : Verb) (l : ℕ) (a b : Cpu) (rest : KeepsRest a b) (of : IsOf a d) (x : Met)
    (step : view_of b ≡ rowed (view_of a) (calls_of a) x) (c : Pc) (s : Start) (told : Option ℕ)
    (w : HasPolled (waiter Inside d v (wait_name l)) c Any s a told) where
  pub here : IsOn (terms_of d.plan) b.number v (wait_name l) c Any Inside s.calls (calls_of a)
  here = subst (λ (m : ℕ). IsOn (terms_of d.plan) m v (wait_name l) c Any Inside s.calls (calls_of a)) (sym rest.same.number) w.looked.at

  pub passes : (m : Manner) → TakesBy d.plan.mode b.number (way.sees d a b) c here.frame x m (Some U1) → (U1 ≡ c → ⊥) → Passed d v l m s b told
  passes m takes other =
      let at = here in
      let is = way.calls d v (wait_name l) a b rest of (calls_of a) x step c Any Inside s.calls at in
      let own = takes.own ∙ own_name at.frame (wait_name l) at.lock in
      let turns =
      way.turns d v (wait_name l) a b rest of (calls_of a) x step c Any Inside s.calls at
      ∙ (λ i. turned (ledger_of a) (own i) (takes.grip i) (at.trail ++ way.marked d b (calls_of a) c x ∷ [])) in
      let count : (calls_of b).taken ≡ (calls_of a).taken + 1 = count_after at x is (Takes m) takes.grip in
      let least : s.calls.taken + 1 ≤ (calls_of a).taken = at.taken in
      let before = way.before d v (wait_name l) a b rest of (calls_of a) x step c Any Inside s.calls at in
      record {
        at = path.enters at x is m takes.place takes.grip own takes.lock takes.after;
        takes = path_to at x is (Takes m) takes.grip;
        taken = omega (arith, count, least);
        look = looked l m s.calls (at.trail ++ way.marked d b (calls_of a) c x ∷ []) s.ledger (ledger_of a) (ledger_of b) w.looked.passes turns;
        falls = w.looked.falls;
        rises = λ y r k h. w.rises x (read_at c (way.sees d a b)) k (subst (λ t. HasStayed k (t ++ way.marked d b (calls_of a) c x ∷ [])) (sym before)
            (stays_before k at.trail (way.marked d b (calls_of a) c x) (mark U1 y r) other h));
        once = recount s.nests 1 2 s.calls (calls_of a) (calls_of b) s.told told w.looked.once (λ e. omega (arith, count, e));
      }

-- and frees the wait lock
module _ (d : Domain) (v : Verb) (l : ℕ) (m : Manner) (a b : Cpu) (rest : KeepsRest a b) (of : IsOf a d) (x : Met)
    (step : view_of b ≡ rowed (view_of a) (calls_of a) x) (s : Start) (told : Option ℕ) (w : Passed d v l m s a told)
    (waits : takes_wait v ≡ true) where
  pub gone : HasPassed (terms_of d.plan) b.number v l m s (calls_of a) (ledger_of a) told
  gone = subst (λ (p : ℕ). HasPassed (terms_of d.plan) p v l m s (calls_of a) (ledger_of a) told) (sym rest.same.number) w

  pub ends : FreesIt d.plan.mode b.number (way.sees d a b) U1 gone.at.frame x → CameIn d v l m s b told
  ends free =
      let at = gone.at in
      let is = way.calls d v (wait_name l) a b rest of (calls_of a) x step U1 Any (Entered m) s.calls at in
      let same : ledger_of b ≡ ledger_of a =
      way.turns d v (wait_name l) a b rest of (calls_of a) x step U1 Any (Entered m) s.calls at
      ∙ ((λ i. turned (ledger_of a) ((free.own ∙ at.lock) i) (free.grip i) (at.trail ++ mark U1 x 0 ∷ []))
      ∙ way.wait_turned (ledger_of a) (wait_name l) Frees (at.trail ++ mark U1 x 0 ∷ []) refl) in
      let last = way.last_is d v (wait_name l) a b rest of (calls_of a) x step U1 Any (Entered m) s.calls at free.place in
      let long : length (calls_of b).last ≡ length at.trail + 1 = ap length last ∙ length-append at.trail (mark U1 x 0 ∷ []) in
      let count : (calls_of b).taken ≡ (calls_of a).taken = count_after at x is Frees free.grip in
      record {
        upto = at.trail;
        entered = path.leaves at x is free.place free.grip free.own waits gone.takes gone.taken;
        look = subst (λ g. HasLooked l m s.calls at.trail s.ledger g) (sym same) gone.look;
        polled = record { falls = gone.falls; rises = λ k h. gone.rises x 0 k (subst (HasStayed k) last h) };
        once = recount s.nests 2 (1 + (length (calls_of b).last - length at.trail)) s.calls (calls_of a) (calls_of b) s.told told gone.once (λ e. omega (arith, e, long, count));
      }
