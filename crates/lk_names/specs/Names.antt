-- Tests of names, and the places of locks.
use Rattle.std.specs.Prelude.{ℕ, ◌+◌, ◌*◌, ◌/◌, ◌%◌, Bool, true, false, not, ◌==◌, ◌&&◌, List, [], ◌∷◌, if◌then◌else◌}
use Rattle.std.proofs.Common.{zero, suc}
use Rattle.lk_names.specs.declared.names.Waiter.{Waiter}
use Rattle.lk_names.specs.declared.names.LockName.{LockName}

-- whether both hold, or neither
abbrev pub same_bool : Bool → Bool → Bool
same_bool true b = b
same_bool false b = not b

-- whether two names are of one lock
abbrev pub same_lock : LockName → LockName → Bool
same_lock a b = (a.index == b.index) && same_bool a.wait b.wait

-- whether two names are of one waiter
abbrev pub same_waiter : Waiter → Waiter → Bool
same_waiter a b = (a.cpu == b.cpu) && (a.ctx == b.ctx)

-- the lock's number among all, of which each declared lock has two, its own and its wait lock's
abbrev pub place_of : LockName → ℕ
place_of l = l.index * 2 + (if l.wait then 1 else 0)

-- the lock of that number
abbrev pub lock_at : ℕ → LockName
lock_at n = record { index = n / 2; wait = n % 2 == 1 }

-- so many locks by their numbers, from this one on
abbrev pub locks_from : ℕ → ℕ → List LockName
locks_from n zero = []
locks_from n (suc count) = lock_at n ∷ locks_from (suc n) count
