-- The operations of a program, read from left to right.
use Rattle.std.specs.Prelude.{ℕ, ◌==◌, ◌&&◌, nat_le, not, Bool, true, false, List, [], ◌∷◌, ◌++◌, Option, None, Some, is_some, Result, Ok, Err, length, take, slice_get, codes, if◌then◌else◌}
use Rattle.std.proofs.Common.{zero, suc}
use Rattle.std.specs.Str.{bytes_eq}
use Rattle.lk_names.specs.History.{same_manner}
use Rattle.lk_names.specs.declared.holder.Manner.{Manner}
use Rattle.lk_names.specs.declared.names.Kind.{Kind}
use Rattle.lk_names.specs.declared.names.Kind.TheVariants.{Spin, Rw}
use Rattle.lk_rows.specs.Programs.{kind_of, is_try, is_release, way_at, way_before}
use Rattle.lk_rows.specs.declared.setup.Verb.{Verb}
use Rattle.lk_rows.specs.declared.setup.Verb.TheVariants.{Lock, Try, Unlock, Read, TryRead, RUnlock, Write, TryWrite, WUnlock}
use Rattle.lk_rows.specs.declared.setup.Op.{Op}
use Rattle.lk_text.specs.Numbers.{number_of}
use Rattle.lk_forms.specs.declared.limits.TheConstants.{MAX_OPS}
use Rattle.lk_forms.specs.declared.answers.Fault.{Fault}
use Rattle.lk_forms.specs.declared.answers.Fault.TheVariants.{UnknownWord, WordCount, BadNumber, WrongLock, Reheld, NotHeld, StillHeld, Crossed}
use Rattle.lk_forms.specs.declared.answers.Which.TheVariants.{Words}
use Rattle.lk_forms.specs.declared.answers.LineRefusal.{LineRefusal}
use Rattle.lk_forms.specs.declared.answers.LineRefusal.TheVariants.{Bad, Limit}

-- what follows a check that passed with this value
abbrev pub and_then : {A B : Type 0} → Result A LineRefusal → (A → Result B LineRefusal) → Result B LineRefusal
and_then (Ok a) next = next a
and_then (Err why) next = Err why

-- what follows a check that found nothing wrong
abbrev pub unless : {A : Type 0} → Option Fault → Result A LineRefusal → Result A LineRefusal
unless None next = next
unless (Some fault) next = Err (Bad fault)

-- the value, or this fault where there is none
abbrev pub or_fault : {A : Type 0} → Fault → Option A → Result A LineRefusal
or_fault fault None = Err (Bad fault)
or_fault fault (Some a) = Ok a

-- the verb that a word is, if it is one
abbrev pub verb_of : List ℕ → Option Verb
verb_of word =
    if bytes_eq word (codes "lock") then Some Lock
    else if bytes_eq word (codes "try") then Some Try
    else if bytes_eq word (codes "unlock") then Some Unlock
    else if bytes_eq word (codes "read") then Some Read
    else if bytes_eq word (codes "tryread") then Some TryRead
    else if bytes_eq word (codes "runlock") then Some RUnlock
    else if bytes_eq word (codes "write") then Some Write
    else if bytes_eq word (codes "trywrite") then Some TryWrite
    else if bytes_eq word (codes "wunlock") then Some WUnlock
    else None

-- what is held

-- how a lock is held after all these operations
abbrev pub way_after_all : List Op → ℕ → Option Manner
way_after_all ops lock = way_at ops (length ops) lock

-- a lock is held in one way both times, or neither time
abbrev pub same_way : Option Manner → Option Manner → Bool
same_way None None = true
same_way (Some m) (Some n) = same_manner m n
same_way _ _ = false

-- each lock below n is held in one way after these operations and after those
abbrev pub same_holds : ℕ → List Op → List Op → Bool
same_holds zero ops others = true
same_holds (suc n) ops others = same_way (way_after_all ops n) (way_after_all others n) && same_holds n ops others

-- where the last operation on the lock stands, if that is a try: in operations whose first has the number n, behind operations of
-- which that is `found`
abbrev pub try_from : List Op → ℕ → ℕ → Option ℕ → Option ℕ
try_from [] lock n found = found
try_from (o ∷ ops) lock n found = try_from ops lock (suc n) (if o.lock == lock then (if is_try o.verb then Some n else None) else found)

-- where the last operation on the lock stands, if that is a try
abbrev pub try_at : List Op → ℕ → Option ℕ
try_at ops lock = try_from ops lock 0 None

-- the checks of one operation

-- whether two kinds of lock are one
abbrev pub same_kind : Kind → Kind → Bool
same_kind Spin Spin = true
same_kind Rw Rw = true
same_kind _ _ = false

-- the lock is declared, and of the verb's kind
abbrev pub is_declared : Option Kind → Verb → Bool
is_declared None verb = false
is_declared (Some kind) verb = same_kind kind (kind_of verb)

-- the release of a lock that was taken by a try at this place leaves other holds than there were before the try
abbrev pub is_crossed_at : ℕ → List Op → Op → Option ℕ → Bool
is_crossed_at locks before o None = false
is_crossed_at locks before o (Some n) = not (same_holds locks (take n before) (before ++ o ∷ []))

-- the operation releases a lock that was taken by a try, and leaves other holds than before the try
abbrev pub is_crossed : ℕ → List Op → Op → Bool
is_crossed locks before o = is_crossed_at locks before o (try_at before o.lock)

-- what is wrong with an operation on a declared lock of its kind, behind these ones
abbrev pub fault_of_hold : ℕ → List Op → Op → Option Fault
fault_of_hold locks before o =
    if not (is_release o.verb) then (if is_some (way_after_all before o.lock) then Some Reheld else None)
    else if not (same_way (way_after_all before o.lock) (way_before o.verb)) then Some NotHeld
    else if is_crossed locks before o then Some Crossed
    else None

-- what is wrong with an operation behind these ones, for which there are declared locks of these kinds
abbrev pub fault_of_op : List Kind → List Op → Op → Option Fault
fault_of_op kinds before o = if is_declared (slice_get kinds o.lock) o.verb then fault_of_hold (length kinds) before o else Some WrongLock

-- the operation, if nothing is wrong with it behind these ones
abbrev pub checked_op : List Kind → List Op → Op → Result Op LineRefusal
checked_op kinds before o = unless (fault_of_op kinds before o) (Ok o)

-- the lock's number, in the words behind the verb
abbrev pub lock_word : List (List ℕ) → Result ℕ LineRefusal
lock_word [] = Err (Bad WordCount)
lock_word (word ∷ words) = or_fault BadNumber (number_of word)

-- the operation of a verb and of the words behind it
abbrev pub op_of : List Kind → List Op → List ℕ → List (List ℕ) → Result Op LineRefusal
op_of kinds before verb rest =
    if nat_le MAX_OPS (length before) then Err (Limit Words)
    else and_then (or_fault UnknownWord (verb_of verb)) (λ v. and_then (lock_word rest) (λ l. checked_op kinds before (record { verb = v; lock = l })))

-- the whole program

-- the program is these operations, where nothing is held after them
abbrev pub closed : List Kind → List Op → Result (List Op) LineRefusal
closed kinds ops = if same_holds (length kinds) ops [] then Ok ops else Err (Bad StillHeld)

-- the program that begins with these operations and goes on with those of these words
abbrev pub ops_from : List Kind → List Op → List (List ℕ) → Result (List Op) LineRefusal
ops_from kinds before [] = closed kinds before
ops_from kinds before (verb ∷ []) = and_then (op_of kinds before verb []) (λ o. Ok before)
ops_from kinds before (verb ∷ lock ∷ words) = and_then (op_of kinds before verb (lock ∷ words)) (λ o. ops_from kinds (before ++ o ∷ []) words)

-- the program of these words, which has at least one operation
abbrev pub ops_of : List Kind → List (List ℕ) → Result (List Op) LineRefusal
ops_of kinds [] = Err (Bad WordCount)
ops_of kinds (word ∷ words) = ops_from kinds [] (word ∷ words)
