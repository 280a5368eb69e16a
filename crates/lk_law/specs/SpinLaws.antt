-- The laws of rows, frames and ends of halts in the layer of spinlocks and wait locks.
use Rattle.std.specs.Prelude.{◌≡◌, Option, Some, None, true, false, ◌+◌}
use Rattle.lk_names.specs.History.{LockHistory}
use Rattle.lk_names.specs.Lawful.{Rules}
use Rattle.lk_names.specs.declared.names.Waiter.{Waiter}
use Rattle.lk_names.specs.declared.names.LockName.{LockName}
use Rattle.lk_names.specs.declared.events.Event.{Event}
use Rattle.lk_names.specs.declared.events.What.TheVariants.{Wake, Nudge, Int}
use Rattle.lk_rows.specs.declared.setup.Op.{Op}
use Rattle.lk_rows.specs.declared.parts.Frame.{Frame}
use Rattle.lk_rows.specs.declared.parts.Pc.{Pc}
use Rattle.lk_rows.specs.Programs.{way_before}
use Rattle.lk_rows.specs.Moves.{started}
use Rattle.lk_rows.specs.Acts.{stands_halting}
use Rattle.lk_law.specs.World.{World}
use Rattle.lk_law.specs.SpinWorld.{IsSoundSpinWorld}
use Rattle.lk_law.specs.Steps.{row_in, told_event, told_on, put_frame}
use Rattle.lk_law.specs.Steps.{put_kicked}
use Rattle.lk_law.specs.Allowed.{MayFollow, MayFollowIfAny}
use Rattle.lk_law.specs.Premises.{IsNewest, GoesTo, FollowsRules, IsThen, HasNoPlace, HasNoSleeper}
use Rattle.lk_law.specs.Premises.{roused, above, world_interrupted}

-- The law of a row of a frame that acts on a spinlock or a wait lock: on every sound world it
-- leaves a sound world whose histories are told on by its event, and the event is allowed.
abbrev pub SpinRowKeeps : Pc → Type 0
SpinRowKeeps c =
    (m : World) (hs : LockName → LockHistory) (rules : Rules) (w to : Waiter) (f : Frame)
    → IsSoundSpinWorld m hs → FollowsRules m rules → IsNewest m w → m.frame w ≡ Some f
    → f.place ≡ Some c → (f.lock.wait ≡ true → IsThen f.then)
    → GoesTo m to (row_in m w f c).1
    → IsSoundSpinWorld (row_in m w f c).0 (told_on hs (told_event w f.lock to (row_in m w f c).1))
    × MayFollowIfAny rules hs (told_event w f.lock to (row_in m w f c).1)

-- A frame that has ended an operation begins the next one: on every sound world in which its waiter
-- holds the lock as the verb wants.
abbrev pub SpinBeginKeeps : Type 0
SpinBeginKeeps = (m : World) (hs : LockName → LockHistory) (w : Waiter) (f g : Frame) (o : Op)
    → IsSoundSpinWorld m hs → m.frame w ≡ Some f → f.place ≡ None
    → m.held w (record { index = o.lock; wait = false }) ≡ way_before o.verb
    → g.me ≡ f.me
    → IsSoundSpinWorld (put_frame m w (Some (started m.mode g o))) hs

-- A frame that is not there, or has no place, goes or comes or changes without a place: on every
-- sound world. One comes only where its processor does not sleep.
abbrev pub SpinEndKeeps : Type 0
SpinEndKeeps = (m : World) (hs : LockName → LockHistory) (w : Waiter) (f g : Option Frame)
    → IsSoundSpinWorld m hs → m.frame w ≡ f
    → HasNoPlace f → HasNoPlace g → (f ≡ None → HasNoSleeper m w.cpu)
    → IsSoundSpinWorld (put_frame m w g) hs

-- The law of a halt's end: on every sound world in which the processor of the newest frame is
-- halted, the frame stands at a row at which it halts; and the world after it is sound, with the
-- histories told on by its event, which is allowed.
abbrev pub SpinEndsHalt : (World → Waiter → Frame → World) → (Waiter → Frame → Event) → Type 0
SpinEndsHalt after event =
    (m : World) (hs : LockName → LockHistory) (rules : Rules) (w : Waiter) (f : Frame)
    → IsSoundSpinWorld m hs → IsNewest m w → m.frame w ≡ Some f → m.halted w.cpu ≡ true
    → (stands_halting f.place ≡ true)
    × IsSoundSpinWorld (after m w f) (told_on hs (Some (event w f)))
    × MayFollow rules hs (event w f)

-- by a kick, which is remembered no more
abbrev pub SpinWakeKeeps : Type 0
SpinWakeKeeps =
    SpinEndsHalt (λ m w f. put_kicked (roused m w f) w.cpu false)
    (λ w f. record { by = w; what = Wake f.lock })

-- by a nudge: a kick that is remembered stays
abbrev pub SpinNudgeKeeps : Type 0
SpinNudgeKeeps = SpinEndsHalt roused (λ w f. record { by = w; what = Nudge })

-- by an interrupt, whose frame comes on top
abbrev pub SpinIntKeeps : Type 0
SpinIntKeeps =
    SpinEndsHalt roused (λ w f. record { by = record { cpu = w.cpu; ctx = w.ctx + 1 }; what = Int })

-- After a halt has ended no frame of its processor sleeps; nor does one where the newest frame
-- stands at no row at which it halts.
abbrev pub RousedIsAwake : Type 0
RousedIsAwake = (m : World) (hs : LockName → LockHistory) (w : Waiter) (f : Frame)
    → IsSoundSpinWorld m hs → IsNewest m w → m.frame w ≡ Some f → HasNoSleeper (roused m w f) w.cpu

-- Where the newest frame stands at no row at which its processor halts, no frame of the processor
-- sleeps, and it has not halted.
abbrev pub TopIsAwake : Type 0
TopIsAwake = (m : World) (hs : LockName → LockHistory) (w : Waiter) (f : Frame)
    → IsSoundSpinWorld m hs → IsNewest m w → m.frame w ≡ Some f → stands_halting f.place ≡ false
    → HasNoSleeper m w.cpu × (m.halted w.cpu ≡ false)

-- It keeps every sound world, but between the last test before a halt and the halt, where
-- interrupts are off.
abbrev pub SpinInterruptKeeps : Type 0
SpinInterruptKeeps =
    (m : World) (hs : LockName → LockHistory) (rules : Rules) (w : Waiter) (f g : Frame)
    → IsSoundSpinWorld m hs → IsNewest m w → m.frame w ≡ Some f → HasNoPlace (Some g)
    → (stands_halting f.place ≡ true → m.halted w.cpu ≡ true)
    → IsSoundSpinWorld (world_interrupted m w f g)
    (told_on hs (Some (record { by = above w; what = Int })))
    × MayFollow rules hs (record { by = above w; what = Int })
