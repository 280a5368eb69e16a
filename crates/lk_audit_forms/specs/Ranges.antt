-- Which events are of a setup, and how the line of one is refused.
use Rattle.std.specs.Prelude.{ℕ, ◌&&◌, not, nat_lt, nat_le, Bool, true, false, Option, None, Some, Result, Ok, Err, List, length, slice_get, if◌then◌else◌}
use Rattle.lk_names.specs.History.{lock_of}
use Rattle.lk_names.specs.declared.names.Kind.{Kind}
use Rattle.lk_names.specs.declared.names.Kind.TheVariants.{Spin, Rw}
use Rattle.lk_names.specs.declared.names.Waiter.{Waiter}
use Rattle.lk_names.specs.declared.names.LockName.{LockName}
use Rattle.lk_names.specs.declared.events.Event.{Event}
use Rattle.lk_names.specs.declared.events.What.{What}
use Rattle.lk_names.specs.declared.events.What.TheVariants as what
use Rattle.lk_rows.specs.declared.setup.Setup.{Setup}
use Rattle.lk_forms.specs.Grammar.{cpus_of}
use Rattle.lk_forms.specs.declared.limits.TheConstants.{MAX_ACTS}
use Rattle.lk_forms.specs.declared.answers.Fault.{Fault}
use Rattle.lk_forms.specs.declared.answers.Fault.TheVariants.{UnknownWord, OutOfRange, WrongLock}
use Rattle.lk_audit_forms.specs.EventLines.{event_told}

-- the number of an act comes after that of the last one, and is not too large
abbrev pub is_next_act : ℕ → ℕ → Bool
is_next_act last act = nat_lt last act && nat_le act MAX_ACTS

-- one of so many processors, and one of its six contexts
abbrev pub is_waiter_of : ℕ → Waiter → Bool
is_waiter_of cpus w = nat_lt w.cpu cpus && nat_lt w.ctx 6

-- a lock of the event, if it has one, is one of so many
abbrev pub is_lock_of : ℕ → Option LockName → Bool
is_lock_of locks None = true
is_lock_of locks (Some l) = nat_lt l.index locks

-- processors and contexts that an event names beside its own
abbrev pub names_of : ℕ → What → Bool
names_of cpus (what.Release l (Some p)) = nat_lt p cpus
names_of cpus (what.Kick p) = nat_lt p cpus
names_of cpus (what.Pass l to k) = is_waiter_of cpus to
names_of cpus _ = true

-- the setup has what the event names
abbrev pub is_in_setup : Setup → Event → Bool
is_in_setup s e =
    is_waiter_of (cpus_of s) e.by && names_of (cpus_of s) e.what
    && is_lock_of (length s.locks.items) (lock_of e.what)

-- a spinlock, or the wait lock of a reader-writer lock
abbrev pub is_spinning : Option Kind → Bool → Bool
is_spinning (Some Spin) wait = not wait
is_spinning (Some Rw) wait = wait
is_spinning None wait = false

-- a reader-writer lock itself
abbrev pub is_shared : Option Kind → Bool → Bool
is_shared (Some Rw) wait = not wait
is_shared _ wait = false

-- any but the wait lock of a spinlock
abbrev pub is_either : Option Kind → Bool → Bool
is_either (Some Rw) wait = true
is_either (Some Spin) wait = not wait
is_either None wait = false

-- the test of the kind that a lock has
abbrev pub of_kind : (Option Kind → Bool → Bool) → Setup → LockName → Bool
of_kind test s l = test (slice_get s.locks.items l.index) l.wait

-- the lock of the event is of the kind on which such an event happens
abbrev pub fits_lock : Setup → What → Bool
fits_lock s (what.Miss l) = of_kind is_either s l
fits_lock s (what.RTake l h) = of_kind is_shared s l
fits_lock s (what.RRelease l) = of_kind is_shared s l
fits_lock s (what.WTake l h) = of_kind is_shared s l
fits_lock s (what.WRelease l) = of_kind is_shared s l
fits_lock s (what.Take l h) = of_kind is_spinning s l
fits_lock s (what.Release l owing) = of_kind is_spinning s l
fits_lock s (what.Arrive l) = of_kind is_spinning s l
fits_lock s (what.Pass l to k) = of_kind is_spinning s l
fits_lock s (what.Flush l) = of_kind is_spinning s l
fits_lock s (what.Promote l) = of_kind is_spinning s l
fits_lock s (what.Leave l) = of_kind is_spinning s l
fits_lock s (what.Halt l) = of_kind is_spinning s l
fits_lock s (what.Wake l) = of_kind is_spinning s l
fits_lock s (what.Kick p) = true
fits_lock s what.Int = true
fits_lock s what.Nudge = true

-- An event that its line tells, in a history of which the last act so far has this number: its
-- numbers have to be in range, and then its lock of the right kind.
abbrev pub checked : Setup → ℕ → Option (ℕ × Event) → Result (ℕ × Event) Fault
checked s last None = Err UnknownWord
checked s last (Some told) =
    if is_next_act last told.0 && is_in_setup s told.1 then (
    if fits_lock s told.1.what then Ok told else Err WrongLock) else Err OutOfRange

-- the event that a line tells, or why it is refused
abbrev pub read_event : Setup → ℕ → List ℕ → Result (ℕ × Event) Fault
read_event s last line = checked s last (event_told line)
