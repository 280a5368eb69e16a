-- Who may take a lock while others stand in its queue.
use Rattle.std.specs.Prelude.{◌≡◌, ◌⊎◌, ℕ, None, Some, Bool, true, false, slice_get}
use Rattle.lk_names.specs.History.{LockHistory}
use Rattle.lk_names.specs.declared.events.How.{How}
use Rattle.lk_names.specs.declared.events.What.TheVariants.{Take}
use Rattle.lk_names.specs.declared.names.Waiter.{Waiter}
use Rattle.lk_names.specs.declared.names.LockName.{LockName}
use Rattle.lk_rows.specs.declared.parts.Frame.{Frame}
use Rattle.lk_rows.specs.declared.parts.Pc.{Pc}
use Rattle.lk_rows.specs.declared.parts.Pc.TheVariants.{P3, P4}
use Rattle.lk_rows.specs.Row.{Says}
use Rattle.lk_law.specs.Agree.{halts}
use Rattle.lk_law.specs.Premises.{IsThen}
use Rattle.lk_law.specs.SpinWorld.{IsSoundSpinWorld}
use Rattle.lk_rows.specs.TopRow.{target}
use Rattle.lk_law.specs.Leads.{course_in}
use Rattle.lk_law.specs.Steps.{led, row_in}
use Rattle.lk_law.specs.World.{World}

-- Where no processor halts, while somebody stands in the queue of a lock, only two may take it: the first
-- of the queue, and the one waiter that set pending before there was a queue.
abbrev pub TakesInTurn : Pc → Type 0
TakesInTurn c = (m : World) (hs : LockName → LockHistory) (w u : Waiter) (f : Frame) (i : ℕ) (how : How)
    → IsSoundSpinWorld m hs → halts m.mode ≡ false
    → m.frame w ≡ Some f → f.place ≡ Some c
    → (row_in m w f c).1 ≡ Says (Take f.lock how)
    → slice_get (hs f.lock).main i ≡ Some u
    → (slice_get (hs f.lock).main 0 ≡ Some w) ⊎ (c ≡ P4)

-- the row is one of a waiter that will take the lock by the pending bit
abbrev pub is_watching : Pc → Bool
is_watching P3 = true
is_watching P4 = true
is_watching _ = false

-- Where no processor halts nobody comes to wait by the pending bit while there is a queue: who stands at
-- such a row after its row stood at P3 before, or met no tail. So of the takes that a waiter of the queue
-- sees before its own, one at most is by the pending bit.
abbrev pub NobodyWatchesAnew : Pc → Type 0
NobodyWatchesAnew c = (m : World) (hs : LockName → LockHistory) (w : Waiter) (f : Frame) (d : Pc)
    → IsSoundSpinWorld m hs → halts m.mode ≡ false
    → m.frame w ≡ Some f → f.place ≡ Some c → (f.lock.wait ≡ true → IsThen f.then)
    → (led f (course_in m w f c (target c f)).leads).place ≡ Some d → is_watching d ≡ true
    → (c ≡ P3) ⊎ ((m.word f.lock).tail ≡ None)
