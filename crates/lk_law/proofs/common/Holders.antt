-- Who holds a lock of which one waiter at most is the holder; and who stands in no queue.
use Rattle.std.proofs.Common.{Contains, ◌≡◌, ◌≢◌, ℕ, zero, suc, Option, Some, None, List, length}
use Rattle.std.proofs.Common.{slice_get, inl, inr, arith, ap, refl, sym, ◌∙◌, subst}
use Rattle.std.proofs.lemmas.Option.{slice_get_read}
use Rattle.lk_law.proofs.Names.{LockHistory, IsOutside, IsShared, Holder, Manner, Spins, Waiter}
use Rattle.lk_law.proofs.Names.{sole}
use Rattle.lk_names.specs.Lawful.{HoldsSo, Holds}

-- an element of a list stands at a place of it
pub contains_at : {A : Type 0} (xs : List A) (x : A) → Contains xs x
    → (i : ℕ) × (slice_get xs i ≡ Some x)
contains_at xs x c = (c.0, slice_get_read xs (length xs) c.0 x refl c.1 (sym c.2))

pub outside_is : (h : LockHistory) (w : Waiter) → ((i : ℕ) → slice_get h.main i ≢ Some w)
    → ((i : ℕ) → slice_get h.second i ≢ Some w) → IsOutside h w
outside_is h w away aside = (
  λ c. let p = contains_at h.main w c in away p.0 p.1,
  λ c.
      let p = contains_at h.second w c in aside p.0 p.1,
)

-- the one holder is who holds
sole_holds : (holder : Option Waiter) (w : Waiter) (m : Manner)
    → Contains (sole holder) (record { waiter = w; manner = m }) → holder ≡ Some w
sole_holds None w m c = absurd (grind (arith, c.1))
sole_holds (Some v) w m c =
    let p = contains_at (sole (Some v)) (record { waiter = w; manner = m }) c in go p.0 p.1
  where
    go : (k : ℕ) → slice_get (sole (Some v)) k ≡ Some (record { waiter = w; manner = m })
        → Some v ≡ Some w
    go zero e = grind arith
    go (suc k) e = cc

pub holds_is : (h : LockHistory) (w : Waiter) (holder : Option Waiter) → h.holders ≡ sole holder
    → Holds h w → holder ≡ Some w
holds_is h w holder e c =
    sole_holds holder w c.0
    (subst (λ (hs : List Holder). Contains hs (record { waiter = w; manner = c.0 })) e c.1)

pub holds_alone : (h : LockHistory) (w : Waiter) (holder : Option Waiter) → h.holders ≡ sole holder
    → holder ≡ Some w → HoldsSo h w Spins
holds_alone h w holder e m =
    subst (λ (hs : List Holder). Contains hs (record { waiter = w; manner = Spins }))
    (sym (e ∙ ap sole m)) (0, grind arith, refl)

-- a lock with one holder at most is shared with nobody
pub shared_sole : (holder : Option Waiter) → IsShared (sole holder)
shared_sole None = inl refl
shared_sole (Some w) = inr refl
