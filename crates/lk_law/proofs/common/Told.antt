-- What one event says of the lock that it is on, and of the others; and who holds a lock after it.
use Rattle.std.proofs.Common.{◌≡◌, ◌≢◌, Option, Some, None, true, [], arith, ap, refl, sym, ◌∙◌}
use Rattle.std.proofs.Common.{subst}
use Rattle.lk_law.proofs.Names.{cases_Bool, LockHistory, changed, lock_of, told, with_holder}
use Rattle.lk_law.proofs.Names.{without, without_holder, same_lock, Event, Miss, Spins, LockName}
use Rattle.lk_law.proofs.Names.{Waiter, LockAgrees, SnapshotAgrees, sole, Snapshot}
use Rattle.lk_law.proofs.common.Sames.{same_lock-self, same_lock-true, same_waiter-self}

pub told_here : (l : LockName) (h : LockHistory) (e : Event) → lock_of e.what ≡ Some l
    → told l h e ≡ changed h e.by e.what
told_here l h e p = grind (arith, same_lock-self l, p)

pub told_else : (k l : LockName) (h : LockHistory) (e : Event) → k ≢ l → lock_of e.what ≡ Some l
    → told k h e ≡ h
told_else k l h e ne p =
    let f : same_lock l k ≡ true → ⊥ = (λ q. ne (sym (same_lock-true l k q))) in
    grind (arith, p, f)

-- The lock of the event agrees with its history told on.
pub told_lock : {s : Snapshot} {l : LockName} (h : LockHistory) (e : Event)
    → lock_of e.what ≡ Some l → LockAgrees s (changed h e.by e.what) l → LockAgrees s (told l h e) l
told_lock {s = s} {l = l} h e p o =
    let P : LockHistory → Type 0 = λ t. LockAgrees s t l in subst P (sym (told_here l h e p)) o

-- The other locks' histories stay.
pub told_others : {l : LockName} (hs : LockName → LockHistory) (e : Event) → lock_of e.what ≡ Some l
    → (k : LockName) → k ≢ l → told k (hs k) e ≡ hs k
told_others {l = l} hs e p k ne = told_else k l (hs k) e ne p

-- A miss changes no history.
pub told_miss : (k l : LockName) (w : Waiter) (h : LockHistory)
    → told k h (record { by = w; what = Miss l }) ≡ h
told_miss k l w h = grind (arith, cases_Bool (same_lock l k))

pub law_miss : {s : Snapshot} {hs : LockName → LockHistory} (w : Waiter) (l : LockName)
    → SnapshotAgrees s hs → SnapshotAgrees s (λ k. told k (hs k) (record { by = w; what = Miss l }))
law_miss {s = s} {hs = hs} w l ok =
    let e : (λ k. told k (hs k) (record { by = w; what = Miss l })) ≡ hs =
    (λ i k. told_miss k l w (hs k) i) in
    subst (SnapshotAgrees s) (sym e) ok

-- A free lock is taken by one, and its holder releases it.

pub sole_taken : (h : LockHistory) (w : Waiter) (holder : Option Waiter) → h.holders ≡ sole holder
    → holder ≡ None → (with_holder h w Spins).holders ≡ sole (Some w)
sole_taken h w holder e n = rw (e ∙ ap sole n) refl

without_sole : (w : Waiter) → without w Spins (sole (Some w)) ≡ []
without_sole w = grind (arith, same_waiter-self w)

pub sole_freed : (h : LockHistory) (w : Waiter) (holder : Option Waiter) → h.holders ≡ sole holder
    → holder ≡ Some w → (without_holder h w Spins).holders ≡ sole None
sole_freed h w holder e m = ap (without w Spins) (e ∙ ap sole m) ∙ without_sole w
