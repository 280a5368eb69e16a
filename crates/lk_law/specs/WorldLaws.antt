-- The laws of every row, of frames between their operations, and of ends of halts, on worlds with
-- reader-writer locks; and who is owed a kick in them.
use Rattle.std.specs.Prelude.{◌≡◌, Some, true, false, List, Option, None}
use Rattle.lk_names.specs.History.{LockHistory, history_of}
use Rattle.lk_names.specs.Lawful.{Rules, FrontIsOwed}
use Rattle.lk_names.specs.declared.names.Waiter.{Waiter}
use Rattle.lk_names.specs.declared.names.LockName.{LockName}
use Rattle.lk_names.specs.declared.events.Event.{Event}
use Rattle.lk_names.specs.declared.events.What.TheVariants.{Wake, Nudge, Int}
use Rattle.lk_rows.specs.Acts.{stands_halting}
use Rattle.lk_rows.specs.declared.parts.Frame.{Frame}
use Rattle.lk_rows.specs.declared.parts.Pc.{Pc}
use Rattle.lk_rows.specs.declared.setup.Op.{Op}
use Rattle.lk_rows.specs.Programs.{way_before, kind_of}
use Rattle.lk_rows.specs.Moves.{rw_name, started}
use Rattle.lk_law.specs.Agree.{halts}
use Rattle.lk_law.specs.World.{World}
use Rattle.lk_law.specs.Steps.{put_kicked, told_on, put_frame, row_in, told_event}
use Rattle.lk_law.specs.Premises.{IsNewest, HasNoPlace, roused, above, world_interrupted}
use Rattle.lk_law.specs.Premises.{FollowsRules}
use Rattle.lk_law.specs.Premises.{GoesTo, HasNoSleeper}
use Rattle.lk_law.specs.Allowed.{MayFollow, MayFollowIfAny}
use Rattle.lk_law.specs.Kicked.{ShowsKicks}
use Rattle.lk_law.specs.SoundWorld.{RwFits, IsSoundWorld}

-- The law of a row: on every sound world it leaves a sound world whose histories are told on by its
-- event, and the event is allowed.
abbrev pub RowKeeps : Pc → Type 0
RowKeeps c = (m : World) (hs : LockName → LockHistory) (rules : Rules) (w to : Waiter) (f : Frame)
    → IsSoundWorld m hs → FollowsRules m rules → IsNewest m w → m.frame w ≡ Some f
    → f.place ≡ Some c
    → GoesTo m to (row_in m w f c).1
    → IsSoundWorld (row_in m w f c).0 (told_on hs (told_event w f.lock to (row_in m w f c).1))
    × MayFollowIfAny rules hs (told_event w f.lock to (row_in m w f c).1)

-- A frame that has ended an operation begins the next one, on a lock of the verb's kind: on every
-- sound world in which its waiter holds the lock as the verb wants.
abbrev pub BeginKeeps : Type 0
BeginKeeps = (m : World) (hs : LockName → LockHistory) (w : Waiter) (f g : Frame) (o : Op)
    → IsSoundWorld m hs → m.frame w ≡ Some f → f.place ≡ None
    → m.held w (rw_name o.lock) ≡ way_before o.verb → m.kind o.lock ≡ kind_of o.verb
    → g.me ≡ f.me
    → IsSoundWorld (put_frame m w (Some (started m.mode g o))) hs

-- A frame that is not there, or has no place, goes or comes or changes without a place: on every
-- sound world. One comes only where its processor does not sleep.
abbrev pub EndKeeps : Type 0
EndKeeps = (m : World) (hs : LockName → LockHistory) (w : Waiter) (f g : Option Frame)
    → IsSoundWorld m hs → m.frame w ≡ f
    → HasNoPlace f → HasNoPlace g → (f ≡ None → HasNoSleeper m w.cpu)
    → ((d : Frame) → g ≡ Some d → RwFits m.kind d) → IsSoundWorld (put_frame m w g) hs

-- A halt ends: by a kick, by a nudge, or by an interrupt, whose frame comes on top. The world stays
-- sound, and the event is allowed.
abbrev pub EndsHalt : (World → Waiter → Frame → World) → (Waiter → Frame → Event) → Type 0
EndsHalt after event =
    (m : World) (hs : LockName → LockHistory) (rules : Rules) (w : Waiter) (f : Frame)
    → IsSoundWorld m hs → IsNewest m w → m.frame w ≡ Some f → m.halted w.cpu ≡ true
    → (stands_halting f.place ≡ true) × IsSoundWorld (after m w f) (told_on hs (Some (event w f)))
    × MayFollow rules hs (event w f)

-- by a kick, which is remembered no more
abbrev pub WakeKeeps : Type 0
WakeKeeps = EndsHalt (λ m w f. put_kicked (roused m w f) w.cpu false)
    (λ w f. record { by = w; what = Wake f.lock })

-- by a nudge: a kick that is remembered stays
abbrev pub NudgeKeeps : Type 0
NudgeKeeps = EndsHalt roused (λ w f. record { by = w; what = Nudge })

-- by an interrupt, whose frame comes on top
abbrev pub IntKeeps : Type 0
IntKeeps = EndsHalt roused (λ w f. record { by = above w; what = Int })

-- An interrupt as a whole keeps every sound world, but between the last test before a halt and the
-- halt, where interrupts are off.
abbrev pub InterruptKeeps : Type 0
InterruptKeeps =
    (m : World) (hs : LockName → LockHistory) (rules : Rules) (w : Waiter) (f g : Frame)
    → IsSoundWorld m hs → IsNewest m w → m.frame w ≡ Some f → HasNoPlace (Some g)
    → RwFits m.kind g → (stands_halting f.place ≡ true → m.halted w.cpu ≡ true)
    → IsSoundWorld (world_interrupted m w f g)
    (told_on hs (Some (record { by = above w; what = Int })))
    × MayFollow rules hs (record { by = above w; what = Int })

-- In every sound world that shows its halts and kicks, a head that sleeps while nobody holds its
-- lock is owed a kick.
abbrev pub FrontsAreOwed : Type 0
FrontsAreOwed = (m : World) (es : List Event) → halts m.mode ≡ true
    → IsSoundWorld m (λ l. history_of l es) → ShowsKicks m es → (l : LockName) → FrontIsOwed es l
