-- The table of breaches: which clause of the laws an event on a lock breaks first, after what the events before it say of the
-- lock. A kick that is owed to a sleeper is no matter of one lock, and not in this table.
use Rattle.std.specs.Prelude.{ℕ, Option, Some, None, Bool, false, not, ◌&&◌, ◌||◌, nat_lt, List, [], ◌∷◌, if◌then◌else◌, slice_get}
use Rattle.std.proofs.Common.{suc}
use Rattle.std.specs.List.{list_any}
use Rattle.std.specs.Option.{option_or}
use Rattle.lk_names.specs.Names.{same_waiter}
use Rattle.lk_names.specs.History.{LockHistory, is_hold, is_by_front, changed}
use Rattle.lk_names.specs.declared.holder.Manner.{Manner}
use Rattle.lk_names.specs.declared.holder.Manner.TheVariants.{Spins, Reads, Writes}
use Rattle.lk_names.specs.declared.holder.Holder.{Holder}
use Rattle.lk_names.specs.Lawful.{Rules, writes, lawful_moves}
use Rattle.lk_names.specs.declared.names.Waiter.{Waiter}
use Rattle.lk_names.specs.declared.names.LockName.{LockName}
use Rattle.lk_names.specs.declared.events.What.{What}
use Rattle.lk_names.specs.declared.events.What.TheVariants.{Take, Release, Arrive, Pass, Flush, Promote, Leave, RTake, RRelease, WTake, WRelease}
use Rattle.lk_names.specs.declared.events.Breach.{Breach}
use Rattle.lk_names.specs.declared.events.Breach.TheVariants.{Beside, NotHolder, Twice, WrongHead, WrongMove, WrongNext, OverThreshold}

-- the breach, where the test says that there is one
abbrev pub breach_if : Bool → Breach → Option Breach
breach_if b x = if b then Some x else None

-- whether the waiter holds the lock in that manner
abbrev pub holds_so : LockHistory → Waiter → Manner → Bool
holds_so h w m = list_any (is_hold w m) h.holders

-- whether the waiter holds the lock, in whatever manner
abbrev pub holds : LockHistory → Waiter → Bool
holds h w = list_any (λ x. same_waiter x.waiter w) h.holders

-- whether the waiter is among these
abbrev pub is_among : List Waiter → Waiter → Bool
is_among us w = list_any (λ u. same_waiter u w) us

-- whether the waiter stands in a queue of the lock
abbrev pub is_queued : LockHistory → Waiter → Bool
is_queued h w = is_among h.main w || is_among h.second w

-- whether this, if anyone, is the waiter
abbrev pub is_waiter : Option Waiter → Waiter → Bool
is_waiter None w = false
is_waiter (Some u) w = same_waiter u w

-- the earliest holder, beside which the waiter would take
abbrev pub beside_first : LockName → List Holder → Waiter → Option Breach
beside_first l [] w = None
beside_first l (x ∷ xs) w = Some (Beside l x.waiter w)

-- a lock is taken that has a holder, or it is taken to read while it has a writer or the waiter itself holds it
abbrev pub beside : LockHistory → Waiter → What → Option Breach
beside h w (Take l how) = beside_first l h.holders w
beside h w (WTake l how) = beside_first l h.holders w
beside h w (RTake l how) = if list_any writes h.holders then beside_first l h.holders w else breach_if (holds h w) (Beside l w w)
beside h w _ = None

-- who releases does not hold the lock in that manner, or who passes, flushes, promotes or leaves does not hold it
abbrev pub not_holder : LockHistory → Waiter → What → Option Breach
not_holder h w (Release l owing) = breach_if (not (holds_so h w Spins)) (NotHolder l w)
not_holder h w (RRelease l) = breach_if (not (holds_so h w Reads)) (NotHolder l w)
not_holder h w (WRelease l) = breach_if (not (holds_so h w Writes)) (NotHolder l w)
not_holder h w (Pass l to k) = breach_if (not (holds h w)) (NotHolder l w)
not_holder h w (Flush l) = breach_if (not (holds h w)) (NotHolder l w)
not_holder h w (Promote l) = breach_if (not (holds h w)) (NotHolder l w)
not_holder h w (Leave l) = breach_if (not (holds h w)) (NotHolder l w)
not_holder h w _ = None

-- a holder arrives, or a waiter that stands in a queue arrives, releases or takes past the queue
abbrev pub twice : LockHistory → Waiter → What → Option Breach
twice h w (Arrive l) = breach_if (holds h w || is_queued h w) (Twice l w)
twice h w (Release l owing) = breach_if (is_queued h w) (Twice l w)
twice h w (Take l how) = breach_if (not (is_by_front how) && is_queued h w) (Twice l w)
twice h w _ = None

-- another than the head
abbrev pub not_front : LockHistory → LockName → Waiter → Option Breach
not_front h l w = breach_if (not (is_waiter (slice_get h.main 0) w)) (WrongHead l (slice_get h.main 0) w)

-- another than the head takes as the head, passes, flushes, promotes or leaves
abbrev pub wrong_head : LockHistory → Waiter → What → Option Breach
wrong_head h w (Take l how) = if is_by_front how then not_front h l w else None
wrong_head h w (Pass l to k) = not_front h l w
wrong_head h w (Flush l) = not_front h l w
wrong_head h w (Promote l) = not_front h l w
wrong_head h w (Leave l) = not_front h l w
wrong_head h w _ = None

-- a handoff moves more waiters aside than is lawful
abbrev pub wrong_move : Rules → LockHistory → What → Option Breach
wrong_move rules h (Pass l to k) = breach_if (nat_lt (lawful_moves rules h.main) k) (WrongMove l k (lawful_moves rules h.main))
wrong_move rules h _ = None

-- a handoff names another than the first of the main queue after it
abbrev pub wrong_next : LockHistory → What → Option Breach
wrong_next h (Pass l to k) = breach_if (not (is_waiter (slice_get h.main (suc k)) to)) (WrongNext l (slice_get h.main (suc k)) to)
wrong_next h _ = None

-- the earliest of these waiters that has seen more handoffs than the threshold
abbrev pub first_over : LockName → ℕ → List Waiter → List ℕ → Option Breach
first_over l threshold (u ∷ us) (n ∷ ns) = if nat_lt threshold n then Some (OverThreshold l u n) else first_over l threshold us ns
first_over l threshold _ _ = None

-- the first of the waiters that a handoff moves aside, where one handoff is too many
abbrev pub moved_over : LockName → ℕ → Option Waiter → ℕ → Option Breach
moved_over l threshold None k = None
moved_over l threshold (Some w) k = if nat_lt 0 k && nat_lt threshold 1 then Some (OverThreshold l w 1) else None

-- after the event a waiter that stands aside has seen more handoffs than the threshold
abbrev pub over_threshold : Rules → LockHistory → Waiter → What → Option Breach
over_threshold rules h w (Pass l to k) = first_over l rules.threshold (changed h w (Pass l to k)).second (changed h w (Pass l to k)).passes
over_threshold rules h w _ = None

-- the first clause of the table that the event breaks
abbrev pub first_breach : Rules → LockHistory → Waiter → What → Option Breach
first_breach rules h w what =
    option_or (beside h w what)
    (option_or (not_holder h w what)
    (option_or (twice h w what)
    (option_or (wrong_head h w what)
    (option_or (wrong_move rules h what)
    (option_or (wrong_next h what) (over_threshold rules h w what))))))
