-- A row's change of what its frame holds is the change that the world makes: of the lock on which
-- it acts, or of the lock of its operation.
use Rattle.std.proofs.Common.{◌≡◌, ◌≢◌, ℕ, zero, suc, ◌+◌, Option, Some, None, Bool, true, false}
use Rattle.std.proofs.Common.{List, [], ◌∷◌, slice_get, inl, inr, ap, refl, sym, ◌∙◌, add-one}
use Rattle.std.proofs.Common.{if◌then◌else◌, ◌==◌, ◌&&◌}
use Rattle.std.proofs.{lemmas.Bool.{eq-eqb, ne_eqb}, lemmas.Option.same_Some}
use Rattle.lk_law.proofs.Names.{same_lock, Manner, Spins, LockName, rw_name, wait_name, Frame, Op}
use Rattle.lk_law.proofs.Names.{RwPhase, is_inner, rw_phase_of}
use Rattle.lk_rows.specs.Programs.{way_at, way_from, op_way, way_after}
use Rattle.lk_law.proofs.{common.Cases.lock_cases, common.Puts.{same_lock-else, if-true, if-false}}
use Rattle.lk_law.proofs.common.Sames.{same_lock-self}
use Rattle.lk_law.specs.Sound.{is_over, held_in}

pub way_suc : (os : List Op) (n i : ℕ) (w : Option Manner) (o : Op) → slice_get os n ≡ Some o
    → way_from os (suc n) i w ≡ op_way o i (way_from os n i w)
way_suc [] n i w o e = cc
way_suc (a ∷ os) zero i w o e = ap (λ (x : Op). op_way x i w) (same_Some a o e)
way_suc (a ∷ os) (suc n) i w o e = way_suc os n i (op_way a i w) o e

pub way_next : (os : List Op) (n i : ℕ) (o : Op) → slice_get os n ≡ Some o
    → way_at os (n + 1) i ≡ op_way o i (way_at os n i)
way_next os n i o e = rw add-one (way_suc os n i None o e)

-- what a frame holds depends on its phase, on whether its operation is over, on its lock's index
-- and its position
pub record Stance (f : Frame) (r : RwPhase) (v : Bool) (i n : ℕ) : Type 0 where
  pub phase : rw_phase_of f ≡ r
  pub over : is_over f ≡ v
  pub index : f.lock.index ≡ i
  pub position : f.«at» ≡ n

abbrev stance_held : List Op → RwPhase → Bool → ℕ → ℕ → LockName → Option Manner
stance_held ops r v i n l =
    if l.wait then (if is_inner r && (i == l.index) then Some Spins else None) else way_at ops
    (if v then n + 1 else n) l.index

held_by : (ops : List Op) (f : Frame) {r : RwPhase} {v : Bool} {i n : ℕ} → Stance f r v i n
    → (l : LockName) → held_in ops f l ≡ stance_held ops r v i n l
held_by ops f {r = r} {v = v} {i = i} {n = n} s l =
    ap (λ q. stance_held ops q (is_over f) f.lock.index f.«at» l) s.phase
    ∙ ap (λ b. stance_held ops r b f.lock.index f.«at» l) s.over
    ∙ ap (λ j. stance_held ops r v j f.«at» l) s.index
    ∙ ap (λ k. stance_held ops r v i k l) s.position

-- only the lock k is held otherwise, and so
abbrev pub HoldsThen : List Op → Frame → Frame → LockName → Option Manner → Type 0
HoldsThen ops f g k way =
    (l : LockName) → held_in ops g l ≡ (if same_lock l k then way else held_in ops f l)

-- to say so it is enough to say it of phases
by_stance : (ops : List Op) (f g : Frame) {r r' : RwPhase} {v v' : Bool} {i n n' : ℕ}
    → Stance f r v i n → Stance g r' v' i n' → (k : LockName) (way : Option Manner)
    → stance_held ops r' v' i n' k ≡ way
    → ((l : LockName) → l ≢ k → stance_held ops r' v' i n' l ≡ stance_held ops r v i n l)
    → HoldsThen ops f g k way
by_stance ops f g {r = r} {r' = r'} {v = v} {v' = v'} {i = i} {n = n} {n' = n'} s s' k way here
    other l =
    elim (lock_cases l k) [
      | inl e ↦ held_by ops g s' l ∙ ap (λ (q : LockName). stance_held ops r' v' i n' q) e ∙ here
          ∙ sym (if-true (same_lock l k) way (held_in ops f l)
          (ap (λ q. same_lock q k) e ∙ same_lock-self k))
      | inr ne ↦ held_by ops g s' l ∙ other l ne ∙ sym (held_by ops f s l)
          ∙ sym (if-false (same_lock l k) way (held_in ops f l) (same_lock-else l k ne))
    ]

module _ (ops : List Op) (f g : Frame) {r r' : RwPhase} {v v' : Bool} {i n : ℕ}
    (s : Stance f r v i n) where
  -- it goes on within its operation, and has the wait lock as before
  pub held_goes : Stance g r' v' i n → is_inner r' ≡ is_inner r → v' ≡ v → (l : LockName)
      → held_in ops g l ≡ held_in ops f l
  held_goes s' inner free l = held_by ops g s' l ∙ rw (inner, free) refl ∙ sym (held_by ops f s l)

  -- it is granted the wait lock
  pub held_granted : Stance g r' v' i n → is_inner r ≡ false → v ≡ false → is_inner r' ≡ true
      → v' ≡ false → HoldsThen ops f g (wait_name i) (Some Spins)
  held_granted s' outer off inner off' =
      by_stance ops f g s s' (wait_name i) (Some Spins) (rw (inner, eq-eqb i i refl) refl)
      (λ l ne. other l l.wait refl ne)
    where
      other : (l : LockName) (b : Bool) → l.wait ≡ b → l ≢ wait_name i
          → stance_held ops r' v' i n l ≡ stance_held ops r v i n l
      other l false e ne = rw (e, off, off') refl
      other l true e ne = let far : i ≢ l.index =
          (λ q. ne (λ j. record { index = sym q j; wait = e j })) in
          rw (e, inner, outer, ne_eqb i l.index far) refl

  -- it has taken the lock of its operation, and goes to free the wait lock
  pub held_frees : (o : Op) → slice_get ops n ≡ Some o → o.lock ≡ i → Stance g r' v' i n
      → is_inner r ≡ true → v ≡ false → is_inner r' ≡ true → v' ≡ true
      → HoldsThen ops f g (rw_name i) (way_after o.verb)
  held_frees o is lock s' inner off inner' on =
      by_stance ops f g s s' (rw_name i) (way_after o.verb)
      (rw on (way_next ops n i o is
      ∙ if-true (o.lock == i) (way_after o.verb) (way_at ops n i) (eq-eqb o.lock i lock)))
      (λ l ne. other l l.wait refl ne)
    where
      other : (l : LockName) (b : Bool) → l.wait ≡ b → l ≢ rw_name i
          → stance_held ops r' v' i n l ≡ stance_held ops r v i n l
      other l true e ne = rw (e, inner, inner') refl
      other l false e ne =
          let far : o.lock ≢ l.index =
          (λ q. ne (λ j. record { index = (sym q ∙ lock) j; wait = e j })) in
          rw (e, on, off)
          (way_next ops n l.index o is
          ∙ if-false (o.lock == l.index) (way_after o.verb) (way_at ops n l.index)
          (ne_eqb o.lock l.index far))

  -- the lock of its operation is freed, and a kick is owed
  pub held_yields : (o : Op) → slice_get ops n ≡ Some o → o.lock ≡ i → Stance g r' v' i n
      → is_inner r ≡ false → v ≡ false → is_inner r' ≡ false → v' ≡ true
      → HoldsThen ops f g (rw_name i) (way_after o.verb)
  held_yields o is lock s' outer off outer' on =
      by_stance ops f g s s' (rw_name i) (way_after o.verb)
      (rw on (way_next ops n i o is
      ∙ if-true (o.lock == i) (way_after o.verb) (way_at ops n i) (eq-eqb o.lock i lock)))
      (λ l ne. other l l.wait refl ne)
    where
      other : (l : LockName) (b : Bool) → l.wait ≡ b → l ≢ rw_name i
          → stance_held ops r' v' i n l ≡ stance_held ops r v i n l
      other l true e ne = rw (e, outer, outer') refl
      other l false e ne =
          let far : o.lock ≢ l.index =
          (λ q. ne (λ j. record { index = (sym q ∙ lock) j; wait = e j })) in
          rw (e, on, off)
          (way_next ops n l.index o is
          ∙ if-false (o.lock == l.index) (way_after o.verb) (way_at ops n l.index)
          (ne_eqb o.lock l.index far))

  -- its wait lock is freed, and a kick is owed
  pub held_gives : Stance g r' v' i n → is_inner r ≡ true → v ≡ true → is_inner r' ≡ false
      → v' ≡ true → HoldsThen ops f g (wait_name i) None
  held_gives s' inner on outer on' =
      by_stance ops f g s s' (wait_name i) None (rw outer refl) (λ l ne. other l l.wait refl ne)
    where
      other : (l : LockName) (b : Bool) → l.wait ≡ b → l ≢ wait_name i
          → stance_held ops r' v' i n l ≡ stance_held ops r v i n l
      other l false e ne = rw (e, on, on') refl
      other l true e ne = let far : i ≢ l.index =
          (λ q. ne (λ j. record { index = sym q j; wait = e j })) in
          rw (e, inner, outer, ne_eqb i l.index far) refl
