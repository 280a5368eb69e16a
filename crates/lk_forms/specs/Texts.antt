-- The lines of a transcript. Each ends with a line feed.
use Rattle.std.specs.Prelude.{ℕ, ◌==◌, ◌<◌, ◌^◌, ⊤, IfSome, Bool, true, false, List, [], ◌∷◌, ◌++◌, Option, None, Some, codes, decimal, if◌then◌else◌}
use Rattle.std.specs.List.{flat_map}
use Rattle.lk_names.specs.declared.names.Waiter.{Waiter}
use Rattle.lk_names.specs.declared.names.LockName.{LockName}
use Rattle.lk_names.specs.declared.events.Event.{Event}
use Rattle.lk_names.specs.declared.events.How.{How}
use Rattle.lk_names.specs.declared.events.How.TheVariants as how
use Rattle.lk_names.specs.declared.events.RwHow.{RwHow}
use Rattle.lk_names.specs.declared.events.RwHow.TheVariants as rw
use Rattle.lk_names.specs.declared.events.What.{What}
use Rattle.lk_names.specs.declared.events.What.TheVariants.{Take, Miss, Release, Kick, Arrive, Pass, Flush, Promote, Leave, Halt, Wake, Int, Nudge, RTake, RRelease, WTake, WRelease}
use Rattle.lk_rows.specs.declared.parts.Counts.{Counts}
use Rattle.lk_rows.specs.Run.{Occurrence}

-- how a spinlock was taken
abbrev pub how_text : How → List ℕ
how_text how.Fast = codes "fast"
how_text how.Try = codes "try"
how_text how.Pending = codes "pending"
how_text how.Virt = codes "virt"
how_text how.Retry = codes "retry"
how_text how.NoNode = codes "nonode"
how_text how.Steal = codes "steal"
how_text how.Head = codes "head"
how_text how.Sole = codes "sole"

-- how a reader-writer lock was taken
abbrev pub rw_text : RwHow → List ℕ
rw_text rw.Fast = codes "fast"
rw_text rw.Irq = codes "irq"
rw_text rw.Queued = codes "queued"
rw_text rw.Try = codes "try"

-- what stands behind the number of a wait lock
abbrev pub wait_mark : Bool → List ℕ
wait_mark true = codes "w"
wait_mark false = []

-- a lock is its number, and a wait lock has a `w` behind it
abbrev pub lock_text : LockName → List ℕ
lock_text lock = decimal lock.index ++ wait_mark lock.wait

-- the processor and the context of a waiter
abbrev pub waiter_text : Waiter → List ℕ
waiter_text w = decimal w.cpu ++ (codes "." ++ decimal w.ctx)

-- the processor that is owed a kick, if there is one
abbrev pub owing_text : Option ℕ → List ℕ
owing_text None = []
owing_text (Some cpu) = codes " owing " ++ decimal cpu

-- how many waiters were moved aside, if any were
abbrev pub moved_text : ℕ → List ℕ
moved_text moved = if moved == 0 then [] else codes " moved " ++ decimal moved

-- what happened
abbrev pub what_text : What → List ℕ
what_text (Take lock how) = codes "take " ++ (lock_text lock ++ (codes " " ++ how_text how))
what_text (Miss lock) = codes "miss " ++ lock_text lock
what_text (Release lock owing) = codes "release " ++ (lock_text lock ++ owing_text owing)
what_text (Kick cpu) = codes "kick " ++ decimal cpu
what_text (Arrive lock) = codes "arrive " ++ lock_text lock
what_text (Pass lock to moved) = codes "pass " ++ (lock_text lock ++ (codes " " ++ (waiter_text to ++ moved_text moved)))
what_text (Flush lock) = codes "flush " ++ lock_text lock
what_text (Promote lock) = codes "promote " ++ lock_text lock
what_text (Leave lock) = codes "leave " ++ lock_text lock
what_text (Halt lock) = codes "halt " ++ lock_text lock
what_text (Wake lock) = codes "wake " ++ lock_text lock
what_text Int = codes "int"
what_text Nudge = codes "nudge"
what_text (RTake lock how) = codes "rtake " ++ (lock_text lock ++ (codes " " ++ rw_text how))
what_text (RRelease lock) = codes "rrelease " ++ lock_text lock
what_text (WTake lock how) = codes "wtake " ++ (lock_text lock ++ (codes " " ++ rw_text how))
what_text (WRelease lock) = codes "wrelease " ++ lock_text lock

-- the line of an event: the act's number, the acting waiter, and what happened
abbrev pub event_text : ℕ → Event → List ℕ
event_text act event = decimal act ++ (codes " " ++ (waiter_text event.by ++ (codes " " ++ (what_text event.what ++ codes "\n"))))

-- the lines of a history
abbrev pub lines : List Occurrence → List ℕ
lines history = flat_map (λ o. event_text o.act o.event) history

-- the first of the closing lines: how many acts there were
abbrev pub end_text : ℕ → List ℕ
end_text acts = codes "end " ++ (decimal acts ++ codes "\n")

-- the names of the ten counts, and the counts, in the order of their lines
abbrev pub count_name : ℕ → List ℕ
count_name which =
    if which == 0 then codes "lock_pending"
    else if which == 1 then codes "lock_slowpath"
    else if which == 2 then codes "lock_use_node2"
    else if which == 3 then codes "lock_use_node3"
    else if which == 4 then codes "lock_use_node4"
    else if which == 5 then codes "lock_no_node"
    else if which == 6 then codes "pv_lock_stealing"
    else if which == 7 then codes "pv_wait_node"
    else if which == 8 then codes "pv_wait_head"
    else codes "pv_kick_unlock"

-- the count of this number, in the order of the closing lines
abbrev pub count_at : Counts → ℕ → ℕ
count_at counts which =
    if which == 0 then counts.lock_pending
    else if which == 1 then counts.lock_slowpath
    else if which == 2 then counts.lock_use_node2
    else if which == 3 then counts.lock_use_node3
    else if which == 4 then counts.lock_use_node4
    else if which == 5 then counts.lock_no_node
    else if which == 6 then counts.pv_lock_stealing
    else if which == 7 then counts.pv_wait_node
    else if which == 8 then counts.pv_wait_head
    else counts.pv_kick_unlock

-- the line of one count
abbrev pub count_text : Counts → ℕ → List ℕ
count_text counts which = count_name which ++ (codes " " ++ (decimal (count_at counts which) ++ codes "\n"))

-- the eleven lines behind those of a whole history
abbrev pub closing : ℕ → Counts → List ℕ
closing acts counts =
    end_text acts ++ flat_map (λ which. count_text counts which) (0 ∷ 1 ∷ 2 ∷ 3 ∷ 4 ∷ 5 ∷ 6 ∷ 7 ∷ 8 ∷ 9 ∷ [])

-- numbers of 64 bits

-- the lock's number is below 2^64
abbrev pub IsSmallLock : LockName → Type 0
IsSmallLock lock = lock.index < 2 ^ 64

-- the waiter's numbers are below 2^64
abbrev pub IsSmallWaiter : Waiter → Type 0
IsSmallWaiter w = (w.cpu < 2 ^ 64) × (w.ctx < 2 ^ 64)

-- all numbers of what happened are below 2^64
abbrev pub IsSmallWhat : What → Type 0
IsSmallWhat (Take lock how) = IsSmallLock lock
IsSmallWhat (Miss lock) = IsSmallLock lock
IsSmallWhat (Release lock owing) = IsSmallLock lock × IfSome owing (λ cpu. cpu < 2 ^ 64)
IsSmallWhat (Kick cpu) = cpu < 2 ^ 64
IsSmallWhat (Arrive lock) = IsSmallLock lock
IsSmallWhat (Pass lock to moved) = IsSmallLock lock × IsSmallWaiter to × (moved < 2 ^ 64)
IsSmallWhat (Flush lock) = IsSmallLock lock
IsSmallWhat (Promote lock) = IsSmallLock lock
IsSmallWhat (Leave lock) = IsSmallLock lock
IsSmallWhat (Halt lock) = IsSmallLock lock
IsSmallWhat (Wake lock) = IsSmallLock lock
IsSmallWhat Int = ⊤
IsSmallWhat Nudge = ⊤
IsSmallWhat (RTake lock how) = IsSmallLock lock
IsSmallWhat (RRelease lock) = IsSmallLock lock
IsSmallWhat (WTake lock how) = IsSmallLock lock
IsSmallWhat (WRelease lock) = IsSmallLock lock

-- all numbers of an event are below 2^64, as those of every event of the code are
abbrev pub IsSmall : Event → Type 0
IsSmall event = IsSmallWaiter event.by × IsSmallWhat event.what
