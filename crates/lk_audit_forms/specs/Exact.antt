-- The line of an event is read exactly as it is printed.
use Rattle.std.specs.Prelude.{◌≡◌, ◌<◌, ◌^◌, ℕ, List, ◌++◌, Some, IfSome, codes, ⊤}
use Rattle.lk_names.specs.declared.names.Waiter.{Waiter}
use Rattle.lk_names.specs.declared.names.LockName.{LockName}
use Rattle.lk_names.specs.declared.events.Event.{Event}
use Rattle.lk_names.specs.declared.events.RwHow.{RwHow}
use Rattle.lk_names.specs.declared.events.RwHow.TheVariants as rw
use Rattle.lk_names.specs.declared.events.What.{What}
use Rattle.lk_names.specs.declared.events.What.TheVariants as what
use Rattle.lk_forms.specs.Texts.{event_text}
use Rattle.lk_audit_forms.specs.EventLines.{event_told}

-- numbers of 32 bits

abbrev pub IsShortLock : LockName → Type 0
IsShortLock l = l.index < 2 ^ 32

abbrev pub IsShortWaiter : Waiter → Type 0
IsShortWaiter w = (w.cpu < 2 ^ 32) × (w.ctx < 2 ^ 32)

-- a writer takes in no interrupt
abbrev pub IsWriters : RwHow → Type 0
IsWriters rw.Irq = ⊥
IsWriters _ = ⊤

-- what a transcript can tell: its numbers have 32 bits, and a writer takes as a writer does
abbrev pub IsTellable : What → Type 0
IsTellable (what.Take l h) = IsShortLock l
IsTellable (what.Miss l) = IsShortLock l
IsTellable (what.Release l owing) = IsShortLock l × IfSome owing (λ p. p < 2 ^ 32)
IsTellable (what.Kick p) = p < 2 ^ 32
IsTellable (what.Arrive l) = IsShortLock l
IsTellable (what.Pass l to k) = IsShortLock l × IsShortWaiter to × (k < 2 ^ 32)
IsTellable (what.Flush l) = IsShortLock l
IsTellable (what.Promote l) = IsShortLock l
IsTellable (what.Leave l) = IsShortLock l
IsTellable (what.Halt l) = IsShortLock l
IsTellable (what.Wake l) = IsShortLock l
IsTellable what.Int = ⊤
IsTellable what.Nudge = ⊤
IsTellable (what.RTake l h) = IsShortLock l
IsTellable (what.RRelease l) = IsShortLock l
IsTellable (what.WTake l h) = IsShortLock l × IsWriters h
IsTellable (what.WRelease l) = IsShortLock l

abbrev pub IsTold : ℕ → Event → Type 0
IsTold act e = (act < 2 ^ 64) × IsShortWaiter e.by × IsTellable e.what

-- the line that is printed for an event tells that event
abbrev pub PrintedIsRead : Type 0
PrintedIsRead = (line : List ℕ) (act : ℕ) (e : Event) → IsTold act e
    → line ++ codes "\n" ≡ event_text act e → event_told line ≡ Some (act, e)

-- a line that tells an event is what is printed for it
abbrev pub ReadIsPrinted : Type 0
ReadIsPrinted = (line : List ℕ) (act : ℕ) (e : Event) → event_told line ≡ Some (act, e)
    → (line ++ codes "\n" ≡ event_text act e) × IsTold act e
