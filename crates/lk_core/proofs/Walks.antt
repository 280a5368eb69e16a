-- How a program holds its locks from one position to the next; and what a row's lead asks of its
-- operation, so that the hold after it is the walk's.
use Rattle.std.proofs.Common.{◌≡◌, ◌≢◌, ℕ, suc, Option, Some, None, Bool, true, false, List, []}
use Rattle.std.proofs.Common.{◌∷◌, inl, inr, arith, ap, ◌≤◌, ◌+◌, refl, sym, ◌∙◌, subst, slice_get}
use Rattle.std.proofs.Common.{length, drop, if◌then◌else◌, ◌==◌, ◌&&◌}
use Rattle.std.proofs.lemmas.List.{length-drop}
use Rattle.lk_core.proofs.Names.{cases_Bool, cases_eq, eq-eqb, ne_eqb, none-some, same_Some}
use Rattle.lk_core.proofs.Names.{slice_get_within, NodeName, same_lock, Manner, Spins, Kind}
use Rattle.lk_core.proofs.Names.{LockName, Mode, Pv, rw_name, wait_name, is_try, way_after, way_at}
use Rattle.lk_core.proofs.Names.{Change, Done, Enters, Freed, Goes, Granted, Lead, Leaves, Missed}
use Rattle.lk_core.proofs.Names.{Prev, TakesWait, TargetIs, Yields, changed_all, Frame, U5, Op}
use Rattle.lk_core.proofs.Names.{Verb, Unlock, lock_cases, if-true, same_lock-else, same_lock-self}
use Rattle.lk_core.proofs.Names.{is_inner, BelongsTo, held_idle, held_in, is_over, rw_phase_of}
use Rattle.lk_rows.specs.Programs.{IsLawfulProgram, op_way, is_release, to_release}
use Rattle.lk_rows.specs.Row.{with_change}
use Rattle.lk_law.proofs.common.HeldAfter.{way_next}

to_release-le : (os : List Op) (i : ℕ) → to_release os i ≤ length os
to_release-le [] i = omega arith
to_release-le (o ∷ os) i = go (is_release o.verb && (o.lock == i)) (to_release-le os i)
  where
    go : (b : Bool) → to_release os i ≤ length os
        → (if b then 1 else suc (to_release os i)) ≤ suc (length os)
    go true r = omega arith
    go false r = omega arith

-- behind the release that would have ended a try, the program has not ended, or has just ended
pub skip_within : (os : List Op) (n i : ℕ) (o : Op) → slice_get os n ≡ Some o
    → n + suc (to_release (drop (n + 1) os) i) ≤ length os
skip_within os n i o e =
    let w = slice_get_within os n o e in
    let r = to_release-le (drop (n + 1) os) i in
    let d = length-drop (n + 1) os in
    omega arith

-- what a row's lead asks of the verb of its operation, where a node that is taken is within R
abbrev pub LeadFits : (NodeName → Type 0) → Mode → Verb → Lead → Type 0
LeadFits R mode v (Goes c cs) = BelongsTo mode v c
LeadFits R mode v (Enters None c) = BelongsTo mode v c
LeadFits R mode v (Enters (Some n) c) = BelongsTo mode v c × R n
LeadFits R mode v Granted = way_after v ≡ Some Spins
LeadFits R mode v Freed = way_after v ≡ None
LeadFits R mode v Missed = is_try v ≡ true
LeadFits R mode v Leaves = way_after v ≡ Some Spins
LeadFits R mode v Done = ⊥
LeadFits R mode v (Yields c cs) = (mode ≡ Pv) × (v ≡ Unlock) × (c ≡ U5)
LeadFits R mode v (TakesWait c) = ⊥

-- the nodes that a row gives to registers of its frame are within R

abbrev pub ChangesIn : (NodeName → Type 0) → List Change → Type 0
ChangesIn R [] = Unit {0}
ChangesIn R (Prev (Some n) ∷ cs) = R n × ChangesIn R cs
ChangesIn R (TargetIs (Some n) ∷ cs) = R n × ChangesIn R cs
ChangesIn R (_ ∷ cs) = ChangesIn R cs

abbrev pub LeadIn : (NodeName → Type 0) → Lead → Type 0
LeadIn R (Goes c cs) = ChangesIn R cs
LeadIn R (Yields c cs) = ChangesIn R cs
LeadIn R _ = Unit {0}

-- the nodes before the frame's own, and whose processor it kicks, are within R
pub record NodesIn (R : NodeName → Type 0) (f : Frame) : Type 0 where
  pub prev : (n : NodeName) → f.prev ≡ Some n → R n
  pub target : (n : NodeName) → f.target ≡ Some n → R n

pub nodes_changes : (R : NodeName → Type 0) (f : Frame) (cs : List Change) → ChangesIn R cs
    → NodesIn R f → NodesIn R (changed_all f cs)
nodes_changes R f [] fits was = was
nodes_changes R f (Prev None ∷ cs) fits was =
    nodes_changes R (with_change f (Prev None)) cs fits
    (record { prev = λ n e. absurd (none-some n e); target = was.target })
nodes_changes R f (Prev (Some k) ∷ cs) fits was =
    nodes_changes R (with_change f (Prev (Some k))) cs fits.1
    (record { prev = λ n e. subst R (same_Some k n e) fits.0; target = was.target })
nodes_changes R f (TargetIs None ∷ cs) fits was =
    nodes_changes R (with_change f (TargetIs None)) cs fits
    (record { prev = was.prev; target = λ n e. absurd (none-some n e) })
nodes_changes R f (TargetIs (Some k) ∷ cs) fits was =
    nodes_changes R (with_change f (TargetIs (Some k))) cs fits.1
    (record { prev = was.prev; target = λ n e. subst R (same_Some k n e) fits.0 })
nodes_changes R f (c ∷ cs) fits was =
    nodes_changes R (with_change f c) cs fits (record { prev = was.prev; target = was.target })

-- between two operations the frame h holds what f holds, but the lock k in this way
abbrev pub HoldsNow : List Op → Frame → Frame → LockName → Option Manner → Type 0
HoldsNow ops f h k way =
    (l : LockName) → held_idle ops h l ≡ (if same_lock l k then way else held_in ops f l)

-- the frame has no wait lock, and what its operation is for is not done
pub record IsOuter (f : Frame) : Type 0 where
  pub inner : is_inner (rw_phase_of f) ≡ false
  pub over : is_over f ≡ false

pub outer_held : (ops : List Op) (f : Frame) → IsOuter f → (l : LockName)
    → held_in ops f l ≡ held_idle ops f l
outer_held ops f o l = rw (o.inner, o.over) refl

module _ (ops : List Op) (f h : Frame) (op : Op) (is : slice_get ops f.«at» ≡ Some op)
    (idx : f.lock.index ≡ op.lock) where
  abbrev k : LockName
  k = rw_name f.lock.index

  -- the hold of every lock from that of the locks that are no wait locks
  by_index : IsOuter f → (way : Option Manner)
      → ((i : ℕ) → way_at ops h.«at» i ≡ (if i == f.lock.index then way else way_at ops f.«at» i))
      → HoldsNow ops f h k way
  by_index outer way each l =
      elim (cases_Bool l.wait) [
        | inl e ↦
            let other : l ≢ k =
            (λ q. let z = ap (λ (j : LockName). j.wait) q in grind (arith, e, z)) in
            rw (outer_held ops f outer l, same_lock-else l k other, e) refl
        | inr e ↦ elim (lock_cases l k) [
          | inl same ↦
              let is : same_lock l k ≡ true =
              ap (λ (j : LockName). same_lock j k) same ∙ same_lock-self k in
              let at : (if l.index == f.lock.index then way else way_at ops f.«at» l.index) ≡ way =
              rw (eq-eqb l.index f.lock.index (ap (λ (j : LockName). j.index) same)) refl in
              rw (is, e) (each l.index ∙ at)
          | inr ne ↦
              let far : l.index ≢ f.lock.index =
              (λ q. ne (λ i. record { index = q i; wait = e i })) in
              let at : (if l.index == f.lock.index then way else way_at ops f.«at» l.index) ≡ way_at
              ops f.«at» l.index = rw (ne_eqb l.index f.lock.index far) refl in
              rw (outer_held ops f outer l, same_lock-else l k ne, e) (each l.index ∙ at)
        ]
      ]

  -- the operation is done
  pub holds_done : IsOuter f → h.«at» ≡ f.«at» + 1 → HoldsNow ops f h k (way_after op.verb)
  holds_done outer at =
      by_index outer (way_after op.verb)
      (λ i. ap (λ (n : ℕ). way_at ops n i) at ∙ way_next ops f.«at» i op is ∙ turned i)
    where
      turned : (i : ℕ)
          → op_way op i (way_at ops f.«at» i)
          ≡ (if i == f.lock.index then way_after op.verb else way_at ops f.«at» i)
      turned i =
          elim (cases_eq i op.lock) [
            | inl e ↦ rw (eq-eqb op.lock i (sym e), eq-eqb i f.lock.index (e ∙ sym idx)) refl
            | inr ne ↦
                rw (
                  ne_eqb op.lock i (λ q. ne (sym q)),
                  ne_eqb i f.lock.index (λ q. ne (q ∙ idx)),
                ) refl
          ]

  -- the try has failed
  pub holds_missed : IsOuter f → (kinds : List Kind) → IsLawfulProgram kinds ops
      → is_try op.verb ≡ true
      → h.«at» ≡ f.«at» + suc (to_release (drop (f.«at» + 1) ops) f.lock.index)
      → HoldsNow ops f h k (held_in ops f k)
  holds_missed outer kinds lawful tries at =
      by_index outer (held_in ops f k)
      (λ i. ap (λ (n : ℕ). way_at ops n i) behind ∙ lawful.tried f.«at» op is tries i ∙ turned i)
    where
      behind : h.«at» ≡ f.«at» + 1 + to_release (drop (f.«at» + 1) ops) op.lock
      behind = let e = ap (λ (i : ℕ). to_release (drop (f.«at» + 1) ops) i) idx in omega arith

      turned : (i : ℕ)
          → way_at ops f.«at» i
          ≡ (if i == f.lock.index then held_in ops f k else way_at ops f.«at» i)
      turned i =
          elim (cases_eq i f.lock.index) [
            | inl e ↦
                rw (eq-eqb i f.lock.index e, outer.over) (ap (λ (j : ℕ). way_at ops f.«at» j) e)
            | inr ne ↦ rw (ne_eqb i f.lock.index ne) refl
          ]

  -- the wait lock is freed, and the operation done
  pub holds_freed : is_inner (rw_phase_of f) ≡ true → is_over f ≡ true → h.«at» ≡ f.«at» + 1
      → HoldsNow ops f h (wait_name f.lock.index) None
  holds_freed inner over at l =
      elim (lock_cases l (wait_name f.lock.index)) [
        | inl same ↦
            let is : same_lock l (wait_name f.lock.index) ≡ true =
            ap (λ (j : LockName). same_lock j (wait_name f.lock.index)) same
            ∙ same_lock-self (wait_name f.lock.index) in
            let e : l.wait ≡ true = ap (λ (j : LockName). j.wait) same in
            rw (is, e) refl
        | inr ne ↦ rw (same_lock-else l (wait_name f.lock.index) ne) (elim (cases_Bool l.wait) [
          | inl e ↦ let far : f.lock.index ≢ l.index =
              (λ q. ne (λ i. record { index = sym q i; wait = e i })) in
              rw (e, inner, ne_eqb f.lock.index l.index far) refl
          | inr e ↦ rw (e, over, at) refl
        ])
      ]

  -- the kick is made, and the operation done; its lock was freed before
  pub holds_kicked : is_inner (rw_phase_of f) ≡ false → is_over f ≡ true
      → (f.lock.wait ≡ false → way_after op.verb ≡ None) → h.«at» ≡ f.«at» + 1
      → HoldsNow ops f h f.lock None
  holds_kicked inner over none at l =
      elim (lock_cases l f.lock) [
        | inl same ↦
            let is : same_lock l f.lock ≡ true =
            ap (λ (j : LockName). same_lock j f.lock) same ∙ same_lock-self f.lock in
            elim (cases_Bool l.wait) [
              | inl e ↦ rw (is, e) refl
              | inr e ↦
                  rw (is, e) (ap (λ (n : ℕ). way_at ops n l.index) at
                  ∙ way_next ops f.«at» l.index op is_op
                  ∙ if-true (op.lock == l.index) (way_after op.verb) (way_at ops f.«at» l.index)
                  (eq-eqb op.lock l.index (sym idx ∙ ap (λ (j : LockName). j.index) (sym same)))
                  ∙ none (ap (λ (j : LockName). j.wait) (sym same) ∙ e))
            ]
        | inr ne ↦ rw (same_lock-else l f.lock ne)
            (elim (cases_Bool l.wait) [
              | inl e ↦ rw (e, inner) refl
              | inr e ↦ rw (e, over, at) refl
            ])
      ]
    where
      is_op : slice_get ops f.«at» ≡ Some op
      is_op = is
