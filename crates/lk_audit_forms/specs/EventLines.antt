-- What the line of an event tells, by its words.
use Rattle.std.specs.Prelude.{ℕ, ◌==◌, true, false, List, [], ◌∷◌, Option, None, Some, codes, if◌then◌else◌}
use Rattle.std.specs.Str.{bytes_eq}
use Rattle.lk_names.specs.declared.names.Waiter.{Waiter}
use Rattle.lk_names.specs.declared.names.LockName.{LockName}
use Rattle.lk_names.specs.declared.events.Event.{Event}
use Rattle.lk_names.specs.declared.events.How.{How}
use Rattle.lk_names.specs.declared.events.How.TheVariants as how
use Rattle.lk_names.specs.declared.events.RwHow.{RwHow}
use Rattle.lk_names.specs.declared.events.RwHow.TheVariants as rw
use Rattle.lk_names.specs.declared.events.What.{What}
use Rattle.lk_names.specs.declared.events.What.TheVariants as what
use Rattle.lk_audit_forms.specs.Parts.{parts, spaced, if_some, one_word, two_words, plain_number, small_number}

-- how a spinlock was taken
abbrev pub how_named : List ℕ → Option How
how_named word =
    if bytes_eq word (codes "fast") then Some how.Fast
    else if bytes_eq word (codes "head") then Some how.Head
    else if bytes_eq word (codes "sole") then Some how.Sole
    else if bytes_eq word (codes "pending") then Some how.Pending
    else if bytes_eq word (codes "steal") then Some how.Steal
    else if bytes_eq word (codes "try") then Some how.Try
    else if bytes_eq word (codes "virt") then Some how.Virt
    else if bytes_eq word (codes "retry") then Some how.Retry
    else if bytes_eq word (codes "nonode") then Some how.NoNode
    else None

-- how a writer took
abbrev pub writer_named : List ℕ → Option RwHow
writer_named word =
    if bytes_eq word (codes "fast") then Some rw.Fast
    else if bytes_eq word (codes "queued") then Some rw.Queued
    else if bytes_eq word (codes "try") then Some rw.Try
    else None

-- how a reader took: as a writer does, or in an interrupt
abbrev pub reader_named : List ℕ → Option RwHow
reader_named word = if bytes_eq word (codes "irq") then Some rw.Irq else writer_named word

-- `cpu.ctx`
abbrev pub waiter_of_parts : List (List ℕ) → Option Waiter
waiter_of_parts (cpu ∷ ctx ∷ []) =
    if_some (small_number cpu) (λ p. if_some (small_number ctx) (λ c. Some (record { cpu = p; ctx = c })))
waiter_of_parts _ = None

abbrev pub waiter_named : List ℕ → Option Waiter
waiter_named word = waiter_of_parts (parts 46 word)

-- `i`, or `iw` for a wait lock: at the mark `w` that falls into its number alone, or into its
-- number and an empty part
abbrev pub lock_of_parts : List (List ℕ) → Option LockName
lock_of_parts (index ∷ []) = if_some (small_number index) (λ i. Some (record { index = i; wait = false }))
lock_of_parts (index ∷ [] ∷ []) = if_some (small_number index) (λ i. Some (record { index = i; wait = true }))
lock_of_parts _ = None

abbrev pub lock_named : List ℕ → Option LockName
lock_named word = lock_of_parts (parts 119 word)

-- Behind the verb: a lock, and what stands behind that.

abbrev pub lock_word : List (List ℕ) → Option LockName
lock_word args = if_some (one_word args) (λ word. lock_named word)

abbrev pub take_args : List (List ℕ) → Option What
take_args args =
    if_some (two_words args) (λ both. if_some (lock_named both.0) (λ l.
    if_some (how_named both.1) (λ h. Some (what.Take l h))))

abbrev pub rtake_args : List (List ℕ) → Option What
rtake_args args =
    if_some (two_words args) (λ both. if_some (lock_named both.0) (λ l.
    if_some (reader_named both.1) (λ h. Some (what.RTake l h))))

abbrev pub wtake_args : List (List ℕ) → Option What
wtake_args args =
    if_some (two_words args) (λ both. if_some (lock_named both.0) (λ l.
    if_some (writer_named both.1) (λ h. Some (what.WTake l h))))

-- `owing p`
abbrev pub owed_args : List (List ℕ) → Option ℕ
owed_args args =
    if_some (two_words args) (λ both.
    if bytes_eq both.0 (codes "owing") then small_number both.1 else None)

-- nothing, or `owing p`
abbrev pub owing_args : List (List ℕ) → Option (Option ℕ)
owing_args [] = Some None
owing_args (word ∷ args) = if_some (owed_args (word ∷ args)) (λ p. Some (Some p))

abbrev pub release_args : List (List ℕ) → Option What
release_args [] = None
release_args (lock ∷ rest) =
    if_some (lock_named lock) (λ l. if_some (owing_args rest) (λ owing. Some (what.Release l owing)))

-- some were moved aside
abbrev pub some_moved : ℕ → Option ℕ
some_moved k = if k == 0 then None else Some k

-- `moved k`
abbrev pub aside_args : List (List ℕ) → Option ℕ
aside_args args =
    if_some (two_words args) (λ both.
    if bytes_eq both.0 (codes "moved") then if_some (small_number both.1) (λ n. some_moved n)
    else None)

-- nothing, or `moved k` for a k above 0
abbrev pub moved_args : List (List ℕ) → Option ℕ
moved_args [] = Some 0
moved_args (word ∷ args) = aside_args (word ∷ args)

abbrev pub pass_args : List (List ℕ) → Option What
pass_args (lock ∷ to ∷ rest) =
    if_some (lock_named lock) (λ l. if_some (waiter_named to) (λ w.
    if_some (moved_args rest) (λ k. Some (what.Pass l w k))))
pass_args _ = None

abbrev pub kick_args : List (List ℕ) → Option What
kick_args args = if_some (one_word args) (λ cpu. if_some (small_number cpu) (λ p. Some (what.Kick p)))

abbrev pub no_args : What → List (List ℕ) → Option What
no_args w [] = Some w
no_args w (word ∷ args) = None

-- what happened to a lock that stands alone behind the verb
abbrev pub what_on : List ℕ → LockName → Option What
what_on verb lock =
    if bytes_eq verb (codes "arrive") then Some (what.Arrive lock)
    else if bytes_eq verb (codes "miss") then Some (what.Miss lock)
    else if bytes_eq verb (codes "rrelease") then Some (what.RRelease lock)
    else if bytes_eq verb (codes "wrelease") then Some (what.WRelease lock)
    else if bytes_eq verb (codes "halt") then Some (what.Halt lock)
    else if bytes_eq verb (codes "wake") then Some (what.Wake lock)
    else if bytes_eq verb (codes "leave") then Some (what.Leave lock)
    else if bytes_eq verb (codes "flush") then Some (what.Flush lock)
    else if bytes_eq verb (codes "promote") then Some (what.Promote lock)
    else None

-- what happened, by the verb and the words behind it
abbrev pub what_named : List ℕ → List (List ℕ) → Option What
what_named verb args =
    if bytes_eq verb (codes "take") then take_args args
    else if bytes_eq verb (codes "release") then release_args args
    else if bytes_eq verb (codes "pass") then pass_args args
    else if bytes_eq verb (codes "rtake") then rtake_args args
    else if bytes_eq verb (codes "wtake") then wtake_args args
    else if bytes_eq verb (codes "kick") then kick_args args
    else if bytes_eq verb (codes "int") then no_args what.Int args
    else if bytes_eq verb (codes "nudge") then no_args what.Nudge args
    else if_some (lock_word args) (λ lock. what_on verb lock)

-- the act's number, the acting waiter, and what happened
abbrev pub event_of_words : List (List ℕ) → Option (ℕ × Event)
event_of_words (act ∷ by ∷ verb ∷ args) =
    if_some (plain_number act) (λ n. if_some (waiter_named by) (λ w.
    if_some (what_named verb args) (λ happened. Some (n, record { by = w; what = happened }))))
event_of_words _ = None

-- what a line tells, if it is the line of an event
abbrev pub event_told : List ℕ → Option (ℕ × Event)
event_told line = event_of_words (spaced line)
