-- A call of a reader or the writer from stage to stage.
use Rattle.std.proofs.Common.{◌≡◌, ◌≤◌, inl, inr, ℕ, ◌+◌, ◌<◌, List, [], ◌∷◌, length, Some, None}
use Rattle.std.proofs.Common.{Bool, true, false, append-nil, eqb, eqb-true, eq-eqb, refl, sym, ap}
use Rattle.std.proofs.Common.{◌∙◌, arith, ◌&&◌}
use Rattle.std.proofs.lemmas.Bool.{cases_Bool}
use Rattle.lk_run.proofs.Names.{same_lock, Manner, Spins, LockName, wait_name, target, Frame, Pc}
use Rattle.lk_run.proofs.Names.{F1, U1, Verb, if-false, if-true, Met, held_lock, after_wait}
use Rattle.lk_run.proofs.Names.{takes_wait, Calls, Frees, Takes, Terms, Unchanged, held_in}
use Rattle.lk_run.proofs.Names.{lock_name, mark, row_of, sight_of, Any, next_frame, row_grip}
use Rattle.lk_run.proofs.Names.{Inside, IsOn, Outside}
use Rattle.lk_rows.specs.Moves.{waiting}
use Rattle.lk_law.proofs.{common.Puts.not-true, common.Sames.{same_lock-self, same_lock-true}}
use Rattle.lk_domain.proofs.Stacks.{and_parts}
use Rattle.lk_domain.proofs.Standing.{holds_is, count_after, takes_is, frames_off, last_is, leads}
use Rattle.lk_domain.proofs.Standing.{path_is, path_upto, takes, more_taken}
use Rattle.lk_domain.specs.{Calls.{Hold, hold, begun, holds_after, Grip, free_of}, Paths.PathTo}
use Rattle.lk_domain.specs.Standing.{Entered}
use Rattle.lk_run.specs.Entering.{HasEntered}

-- a call that has no lock yet
module _ {t : Terms} {p : ℕ} {v : Verb} {n : LockName} {pl : Pc} {P : Frame → Type 0} {old c d : Calls}
    (at : IsOn t p v n pl P Outside old c) (x : Met) (is : d ≡ row_of t p c x) where
  abbrev next : Frame
  next = next_frame t.mode p (sight_of t p c.runs) pl at.frame x

  abbrev grips : Grip → Type 0
  grips y = row_grip t.mode p (sight_of t p c.runs) pl at.frame x ≡ y

  -- it takes its lock, and is over
  pub enters_at_once : (m : Manner) → next.place ≡ None → grips (Takes m) → held_lock (target pl at.frame) at.frame ≡ lock_name n.index
      → HasEntered t p v n.index m d.last old d
  enters_at_once m place grip own =
      let taken = takes at x is m place grip own in
      record {
        takes = path_upto taken.path;
        over = (Takes m, taken.path);
        behind = [];
        last = sym (append-nil d.last);
        release = inl refl;
        frames = taken.frames;
        holds = taken.holds;
        taken = taken.taken;
      }

  -- it takes the wait lock, and goes on
  pub grants : (e : Pc) → next.place ≡ Some e → grips (Takes Spins) → held_lock (target pl at.frame) at.frame ≡ n
      → next.lock ≡ at.frame.lock → next.then ≡ at.frame.then → IsOn t p v n e Any Inside old d
  grants e place grip own lock then' =
      let more = more_taken at x is Spins grip in
      let taken : old.taken + 1 ≤ d.taken = omega (arith, more) in
      leads at x is Inside n.wait old.holds e Any place (lock ∙ at.lock) (λ w. then' ∙ at.after w)
      (d.taken, takes_is at x is Spins n grip own ∙ ap (λ hs. hold (length old.frames) n Spins d.taken ∷ hs) at.holds)
      taken at.free tt

-- it goes to take the wait lock
module _ {t : Terms} {p : ℕ} {v : Verb} {l : ℕ} {pl : Pc} {P : Frame → Type 0} {old c d : Calls}
    (at : IsOn t p v (lock_name l) pl P Outside old c) (x : Met) (is : d ≡ row_of t p c x) where
  pub queues : (e : Pc) → next_frame t.mode p (sight_of t p c.runs) pl at.frame x ≡ waiting at.frame e
      → row_grip t.mode p (sight_of t p c.runs) pl at.frame x ≡ Unchanged → Some e ≡ after_wait v
      → IsOn t p v (wait_name l) F1 Any Outside old d
  queues e to grip resumes =
      let same : d.taken ≡ c.taken = count_after at x is Unchanged grip in
      leads at x is Outside true old.holds F1 Any (ap (λ (g : Frame). g.place) to)
      (ap (λ (g : Frame). g.lock) to ∙ ap (λ (z : LockName). wait_name z.index) at.lock) (λ _. ap (λ (g : Frame). g.then) to ∙ resumes)
      (holds_is at x is Unchanged (held_lock (target pl at.frame) at.frame) grip refl ∙ at.holds)
      (let b = at.taken in omega (arith, same, b)) at.free tt

-- one that has the wait lock takes its lock, and goes on to free that
module _ {t : Terms} {p : ℕ} {v : Verb} {n : LockName} {pl : Pc} {P : Frame → Type 0} {old c d : Calls}
    (at : IsOn t p v n pl P Inside old c) (x : Met) (is : d ≡ row_of t p c x) where
  abbrev next' : Frame
  next' = next_frame t.mode p (sight_of t p c.runs) pl at.frame x

  abbrev pub enters : (m : Manner) → next'.place ≡ Some U1 → row_grip t.mode p (sight_of t p c.runs) pl at.frame x ≡ Takes m
      → held_lock (target pl at.frame) at.frame ≡ lock_name n.index → next'.lock ≡ at.frame.lock → next'.then ≡ at.frame.then
      → IsOn t p v n U1 Any (Entered m) old d
  enters m place grip own lock then' =
      let count : d.taken ≡ c.taken + 1 = count_after at x is (Takes m) grip in
      let least : old.taken + 1 ≤ c.taken = at.taken in
      let taken : old.taken + 2 ≤ d.taken = omega (arith, count, least) in
      leads at x is (Entered m) n.wait old.holds U1 Any place (lock ∙ at.lock) (λ w. then' ∙ at.after w) (
        at.holds.0,
        takes_is at x is m (lock_name n.index) grip own ∙ ap (λ hs. hold (length old.frames) (lock_name n.index) m d.taken ∷ hs) at.holds.1,
      )
      taken at.free tt

-- it frees the wait lock, and is over

other_lock : (l : ℕ) → same_lock (lock_name l) (wait_name l) ≡ false
other_lock l = by (eqb l l)
  where
    by : (b : Bool) → (b && false) ≡ false
    by true = refl
    by false = refl

freed_one : (k l a b : ℕ) (m : Manner) (hs : List Hold) → free_of k (wait_name l) hs ≡ hs
    → free_of k (wait_name l) (hold k (lock_name l) m a ∷ hold k (wait_name l) Spins b ∷ hs) ≡ hold k (lock_name l) m a ∷ hs
freed_one k l a b m hs none =
    if-false ((eqb k k) && same_lock (lock_name l) (wait_name l)) (free_of k (wait_name l) (hold k (wait_name l) Spins b ∷ hs))
    (hold k (lock_name l) m a ∷ free_of k (wait_name l) (hold k (wait_name l) Spins b ∷ hs)) (ap (λ t. (eqb k k) && t) (other_lock l) ∙ no (eqb k k))
    ∙ ap (λ z. hold k (lock_name l) m a ∷ z)
    (if-true ((eqb k k) && same_lock (wait_name l) (wait_name l)) (free_of k (wait_name l) hs)
    (hold k (wait_name l) Spins b ∷ free_of k (wait_name l) hs) (λ i. eq-eqb k k refl i && same_lock-self (wait_name l) i) ∙ none)
  where
    no : (b : Bool) → (b && false) ≡ false
    no true = refl
    no false = refl

-- of what a context does not hold nothing is freed
pub none_freed : (k : ℕ) (n : LockName) (hs : List Hold) → held_in hs k n ≡ None → free_of k n hs ≡ hs
none_freed k n [] e = refl
none_freed k n (h ∷ hs) e =
    elim (cases_Bool ((eqb k h.ctx) && same_lock n h.lock)) [
      | inl t ↦ (let z : Some h.manner ≡ None = sym (if-true ((eqb k h.ctx) && same_lock n h.lock) (Some h.manner) (held_in hs k n) t) ∙ e in cc z)
      | inr t ↦
          if-false ((eqb h.ctx k) && same_lock h.lock n) (free_of k n hs) (h ∷ free_of k n hs)
          (not-true ((eqb h.ctx k) && same_lock h.lock n) (λ q. other h t (and_parts (eqb h.ctx k) (same_lock h.lock n) q)))
          ∙ ap (λ z. h ∷ z)
          (none_freed k n hs (sym (if-false ((eqb k h.ctx) && same_lock n h.lock) (Some h.manner) (held_in hs k n) t) ∙ e))
    ]
  where
    other : (h : Hold) → ((eqb k h.ctx) && same_lock n h.lock) ≡ false
        → (eqb h.ctx k ≡ true) × (same_lock h.lock n ≡ true) → ⊥
    other h t q =
        let a = eq-eqb k h.ctx (sym (eqb-true h.ctx k q.0)) in
        let b : same_lock n h.lock ≡ true = ap (λ (z : LockName). same_lock z h.lock) (sym (same_lock-true h.lock n q.1)) ∙ same_lock-self h.lock in
        let z : true ≡ false = sym (λ i. a i && b i) ∙ t in
        cc z

module _ {t : Terms} {p : ℕ} {v : Verb} {l : ℕ} {m : Manner} {old c d : Calls}
    (at : IsOn t p v (wait_name l) U1 Any (Entered m) old c) (x : Met) (is : d ≡ row_of t p c x) where
  pub leaves : (next_frame t.mode p (sight_of t p c.runs) U1 at.frame x).place ≡ None
      → row_grip t.mode p (sight_of t p c.runs) U1 at.frame x ≡ Frees → held_lock (target U1 at.frame) at.frame ≡ at.frame.lock
      → takes_wait v ≡ true → PathTo t p (begun t.mode (length old.frames) v l) at.trail (Takes m) → old.taken < c.taken
      → HasEntered t p v l m at.trail old d
  leaves place grip own waits takes more =
      let same : d.taken ≡ c.taken = count_after at x is Frees grip in
      record {
        takes = takes;
        over = (Frees, path_is at x is Frees place grip);
        behind = mark U1 x 0 ∷ [];
        last = last_is at x is place;
        release = inr (x, refl);
        frames = frames_off at x is place;
        holds = holds_is at x is Frees (wait_name l) grip (own ∙ at.lock)
            ∙ (ap (λ hs. holds_after Frees (length old.frames) (wait_name l) (c.taken + 1) hs) at.holds.1
            ∙ (freed_one (length old.frames) l c.taken at.holds.0 m old.holds (none_freed (length old.frames) (wait_name l) old.holds (at.free waits))
            ∙ ap (λ j. hold (length old.frames) (lock_name l) m j ∷ old.holds) (sym same)));
        taken = (let a = more in omega (arith, a, same));
      }
