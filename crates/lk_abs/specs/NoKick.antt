-- Which head is left asleep by a free lock, and is owed no kick.
use Rattle.std.specs.Prelude.{ℕ, Option, Some, None, Bool, not, ◌&&◌, ◌||◌, nat_lt, List, [], ◌∷◌, slice_get}
use Rattle.std.specs.Option.{option_or}
use Rattle.lk_names.specs.Names.{locks_from}
use Rattle.lk_names.specs.History.{LockHistory}
use Rattle.lk_names.specs.Kicks.{KickState}
use Rattle.lk_abs.specs.Breaches.{breach_if}
use Rattle.lk_names.specs.declared.holder.Holder.{Holder}
use Rattle.lk_names.specs.declared.names.Mode.{Mode}
use Rattle.lk_names.specs.declared.names.Mode.TheVariants.{Pv}
use Rattle.lk_names.specs.declared.names.Waiter.{Waiter}
use Rattle.lk_names.specs.declared.names.LockName.{LockName}
use Rattle.lk_names.specs.declared.events.Breach.{Breach}
use Rattle.lk_names.specs.declared.events.Breach.TheVariants.{NoKick}

-- whether the processor is owed a kick
abbrev pub is_owed : KickState → ℕ → Bool
is_owed s p = nat_lt (s.made p) (s.owing p) || s.kicked p

-- the first of this queue, where the lock has no holder
abbrev pub first_if_free : List Holder → List Waiter → Option Waiter
first_if_free [] main = slice_get main 0
first_if_free (x ∷ xs) main = None

-- the head of a lock that nobody holds
abbrev pub free_front : LockHistory → Option Waiter
free_front h = first_if_free h.holders h.main

-- whether the waiter sleeps while its processor is owed no kick
abbrev pub is_left : KickState → Waiter → Bool
is_left s w = s.asleep w && not (is_owed s w.cpu)

-- this waiter, if anyone, is left asleep by the lock
abbrev pub left_by : KickState → LockName → Option Waiter → Option Breach
left_by s l None = None
left_by s l (Some w) = breach_if (is_left s w) (NoKick l w)

-- the head of the lock is left asleep
abbrev pub left_asleep : KickState → LockName → LockHistory → Option Breach
left_asleep s l h = left_by s l (free_front h)

-- the first of these locks whose head is left asleep
abbrev pub no_kick : KickState → (LockName → LockHistory) → List LockName → Option Breach
no_kick s history [] = None
no_kick s history (l ∷ ls) = option_or (left_asleep s l (history l)) (no_kick s history ls)

-- in `pv`, the first of so many locks by number whose head is left asleep
abbrev pub unkicked : Mode → KickState → (LockName → LockHistory) → ℕ → Option Breach
unkicked Pv s history count = no_kick s history (locks_from 0 count)
unkicked _ s history count = None
