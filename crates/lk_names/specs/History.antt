-- What the events so far say of one lock: who holds it, and its two queues. These are folds over events, and know nothing of
-- words, nodes or registers. The two queues are those of Dice and Kogan's lock; the other families use the first alone.
use Rattle.std.specs.Prelude.{ℕ, Option, Some, None, Bool, true, false, List, [], ◌∷◌, ◌++◌, take, drop, map, replicate, ◌&&◌, if◌then◌else◌}
use Rattle.std.proofs.Common.{suc}
use Rattle.lk_names.specs.Names.{same_lock, same_waiter}
use Rattle.lk_names.specs.declared.holder.Manner.{Manner}
use Rattle.lk_names.specs.declared.holder.Manner.TheVariants.{Spins, Reads, Writes}
use Rattle.lk_names.specs.declared.holder.Holder.{Holder}
use Rattle.lk_names.specs.declared.names.Waiter.{Waiter}
use Rattle.lk_names.specs.declared.names.LockName.{LockName}
use Rattle.lk_names.specs.declared.events.Event.{Event}
use Rattle.lk_names.specs.declared.events.How.{How}
use Rattle.lk_names.specs.declared.events.How.TheVariants.{Head, Sole}
use Rattle.lk_names.specs.declared.events.What.{What}
use Rattle.lk_names.specs.declared.events.What.TheVariants.{Take, Miss, Release, Kick, Arrive, Pass, Flush, Promote, Leave, Halt, Wake, Int, Nudge, RTake, RRelease, WTake, WRelease}

-- the manner admits no other holder
abbrev pub is_writer : Manner → Bool
is_writer Reads = false
is_writer _ = true

-- whether two manners of holding are one
abbrev pub same_manner : Manner → Manner → Bool
same_manner Spins Spins = true
same_manner Reads Reads = true
same_manner Writes Writes = true
same_manner _ _ = false

-- whether a take by this way is one by the head of the queue
abbrev pub is_by_front : How → Bool
is_by_front Head = true
is_by_front Sole = true
is_by_front how = false

-- the holders, the earliest first; the main queue, its head first; the secondary queue; and for each waiter of the latter the
-- handoffs since its move
pub record LockHistory : Type 0 where
  pub holders : List Holder
  pub main : List Waiter
  pub second : List Waiter
  pub passes : List ℕ

-- before any event
abbrev pub no_history : LockHistory
no_history = record { holders = []; main = []; second = []; passes = [] }

-- the lock that an event is on
abbrev pub lock_of : What → Option LockName
lock_of (Take l how) = Some l
lock_of (Miss l) = Some l
lock_of (Release l owing) = Some l
lock_of (Kick p) = None
lock_of (Arrive l) = Some l
lock_of (Pass l to k) = Some l
lock_of (Flush l) = Some l
lock_of (Promote l) = Some l
lock_of (Leave l) = Some l
lock_of (Halt l) = Some l
lock_of (Wake l) = Some l
lock_of Int = None
lock_of Nudge = None
lock_of (RTake l how) = Some l
lock_of (RRelease l) = Some l
lock_of (WTake l how) = Some l
lock_of (WRelease l) = Some l

-- whether an event on that lock, if it is on one, is on this one
abbrev pub is_on : LockName → Option LockName → Bool
is_on l None = false
is_on l (Some k) = same_lock k l

-- the holder is this waiter, and holds in this manner
abbrev pub is_hold : Waiter → Manner → Holder → Bool
is_hold w m h = same_waiter h.waiter w && same_manner h.manner m

-- the holders without the earliest such hold
abbrev pub without : Waiter → Manner → List Holder → List Holder
without w m [] = []
without w m (h ∷ hs) = if is_hold w m h then hs else h ∷ without w m hs

-- the waiter takes the lock in this manner: it is the latest holder
abbrev pub with_holder : LockHistory → Waiter → Manner → LockHistory
with_holder h w m = record h { holders = h.holders ++ record { waiter = w; manner = m } ∷ [] }

-- the waiter releases the lock that it holds in this manner
abbrev pub without_holder : LockHistory → Waiter → Manner → LockHistory
without_holder h w m = record h { holders = without w m h.holders }

-- the head leaves
abbrev pub without_front : LockHistory → LockHistory
without_front h = record h { main = drop 1 h.main }

-- a spinlock is taken; who takes it alone in the queue leaves the queue
abbrev pub taken : LockHistory → Waiter → How → LockHistory
taken h w Sole = without_front (with_holder h w Spins)
taken h w _ = with_holder h w Spins

-- The head hands off: the k waiters behind it go aside, each waiter that stands aside has seen one handoff more, and the head
-- leaves.
abbrev pub passed : LockHistory → ℕ → LockHistory
passed h k =
    record h {
      main = drop (suc k) h.main;
      second = h.second ++ take k (drop 1 h.main);
      passes = map (λ n. suc n) (h.passes ++ replicate k 0);
    }

-- the secondary queue returns, right behind the head
abbrev pub rejoined : LockHistory → LockHistory
rejoined h = record h { main = take 1 h.main ++ (h.second ++ drop 1 h.main); second = []; passes = [] }

-- the history of the event's own lock after it
abbrev pub changed : LockHistory → Waiter → What → LockHistory
changed h w (Take l how) = taken h w how
changed h w (Release l owing) = without_holder h w Spins
changed h w (Arrive l) = record h { main = h.main ++ w ∷ [] }
changed h w (Pass l to k) = passed h k
changed h w (Flush l) = rejoined h
changed h w (Promote l) = rejoined h
changed h w (Leave l) = without_front h
changed h w (RTake l how) = with_holder h w Reads
changed h w (RRelease l) = without_holder h w Reads
changed h w (WTake l how) = with_holder h w Writes
changed h w (WRelease l) = without_holder h w Writes
changed h w _ = h

-- the history of a lock after one more event, which may be on another lock
abbrev pub told : LockName → LockHistory → Event → LockHistory
told l h e = if is_on l (lock_of e.what) then changed h e.by e.what else h

-- what these events say of a lock, where so much was said before
abbrev pub told_all : LockName → LockHistory → List Event → LockHistory
told_all l h [] = h
told_all l h (e ∷ es) = told_all l (told l h e) es

-- what a history says of a lock
abbrev pub history_of : LockName → List Event → LockHistory
history_of l es = told_all l no_history es
