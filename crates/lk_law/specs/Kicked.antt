-- What the events so far say of halts and kicks is what a world shows; and then a head that sleeps
-- while nobody holds its lock is owed a kick.
use Rattle.std.specs.Prelude.{◌≡◌, ◌<◌, ◌+◌, ℕ, Option, Some, None, true, false, List, [], ◌++◌}
use Rattle.std.specs.Prelude.{◌∷◌}
use Rattle.lk_names.specs.History.{LockHistory, history_of}
use Rattle.lk_names.specs.Kicks.{is_kicked, owing, kicks_made}
use Rattle.lk_names.specs.Kicks.{sleeps}
use Rattle.lk_names.specs.Lawful.{FrontIsOwed}
use Rattle.lk_names.specs.declared.names.Waiter.{Waiter}
use Rattle.lk_names.specs.declared.names.LockName.{LockName}
use Rattle.lk_names.specs.declared.events.Event.{Event}
use Rattle.lk_names.specs.declared.events.What.TheVariants.{Wake, Nudge, Int}
use Rattle.lk_rows.specs.declared.setup.Op.{Op}
use Rattle.lk_rows.specs.declared.parts.Frame.{Frame}
use Rattle.lk_rows.specs.declared.parts.Pc.{Pc}
use Rattle.lk_rows.specs.declared.parts.Pc.TheVariants.{U5}
use Rattle.lk_rows.specs.Moves.{node_of, started}
use Rattle.lk_law.specs.Pv.{at_halt}
use Rattle.lk_law.specs.Agree.{halts}
use Rattle.lk_law.specs.World.{World}
use Rattle.lk_law.specs.SpinWorld.{IsSoundSpinWorld}
use Rattle.lk_law.specs.Places.{post_of}
use Rattle.lk_law.specs.Steps.{row_in, told_event, put_frame}
use Rattle.lk_law.specs.Steps.{put_kicked}
use Rattle.lk_law.specs.Premises.{IsNewest, HasNoPlace, roused, above, world_interrupted, IsThen}

-- the events with one more, if something happened
abbrev pub with_event : List Event → Option Event → List Event
with_event es None = es
with_event es (Some e) = es ++ e ∷ []

-- the waiter has halted its processor
abbrev pub Rests : World → Waiter → Type 0
Rests m u = (f : Frame) × (m.frame u ≡ Some f) × (at_halt (post_of f) ≡ true)
    × (m.halted u.cpu ≡ true)

-- the waiter has released a lock, and owes the processor a kick
abbrev pub Owes : World → ℕ → Waiter → Type 0
Owes m p u = (f : Frame) × (m.frame u ≡ Some f) × (f.place ≡ Some U5) × ((node_of f.target).cpu ≡ p)

-- the waiters that owe the processor a kick are these n, each once
pub record AreOwing (m : World) (p n : ℕ) (the : ℕ → Waiter) : Type 0 where
  pub once : (i j : ℕ) → i < n → j < n → the i ≡ the j → i ≡ j
  pub inside : (i : ℕ) → i < n → Owes m p (the i)
  pub place : (u : Waiter) → Owes m p u → (i : ℕ) × (i < n) × (the i ≡ u)

-- A waiter sleeps in the history exactly where it has halted its processor; a kick is remembered
-- exactly where one was made that has ended no halt; and the releases that owe a processor a kick
-- are the kicks that were made and the waiters that owe it one still.
pub record ShowsKicks (m : World) (es : List Event) : Type 0 where
  pub asleep : (u : Waiter) → sleeps u es ≡ true → Rests m u
  pub rests : (u : Waiter) → Rests m u → sleeps u es ≡ true
  pub kicked : (p : ℕ) → m.kicked p ≡ is_kicked p es
  pub owing : (p : ℕ)
      → (n : ℕ) × (the : ℕ → Waiter) × AreOwing m p n the × (owing p es ≡ kicks_made p es + n)

-- Each row keeps this, with its event told.
abbrev pub RowShows : Pc → Type 0
RowShows c = (m : World) (hs : LockName → LockHistory) (w to : Waiter) (f : Frame) (es : List Event)
    → IsSoundSpinWorld m hs → IsNewest m w → m.frame w ≡ Some f → f.place ≡ Some c
    → (f.lock.wait ≡ true → IsThen f.then) → ShowsKicks m es
    → ShowsKicks (row_in m w f c).0 (with_event es (told_event w f.lock to (row_in m w f c).1))

-- So does a frame that begins an operation, or comes, goes or changes without a place.
abbrev pub BeginShows : Type 0
BeginShows = (m : World) (w : Waiter) (f g : Frame) (o : Op) (es : List Event) → m.frame w ≡ Some f
    → f.place ≡ None → ShowsKicks m es → ShowsKicks (put_frame m w (Some (started m.mode g o))) es

-- A frame without a place goes, comes or changes: what is shown of halts and kicks stays.
abbrev pub EndShows : Type 0
EndShows = (m : World) (w : Waiter) (f g : Option Frame) (es : List Event) → m.frame w ≡ f
    → HasNoPlace f → HasNoPlace g → ShowsKicks m es → ShowsKicks (put_frame m w g) es

-- So does the end of a halt.
abbrev pub EndsShown : (World → Waiter → Frame → World) → (Waiter → Frame → Event) → Type 0
EndsShown after event =
    (m : World) (hs : LockName → LockHistory) (w : Waiter) (f : Frame) (es : List Event)
    → IsSoundSpinWorld m hs → IsNewest m w → m.frame w ≡ Some f → m.halted w.cpu ≡ true
    → ShowsKicks m es → ShowsKicks (after m w f) (es ++ event w f ∷ [])

-- A kick ends a halt, and what is shown of halts and kicks is told on by its event.
abbrev pub WakeShows : Type 0
WakeShows = EndsShown (λ m w f. put_kicked (roused m w f) w.cpu false)
    (λ w f. record { by = w; what = Wake f.lock })

-- A nudge ends a halt, and what is shown is told on by its event.
abbrev pub NudgeShows : Type 0
NudgeShows = EndsShown roused (λ w f. record { by = w; what = Nudge })

-- An interrupt ends a halt, and what is shown is told on by its event.
abbrev pub IntShows : Type 0
IntShows = EndsShown roused
    (λ w f. record { by = record { cpu = w.cpu; ctx = w.ctx + 1 }; what = Int })

-- An interrupt of a processor that has not halted tells its event, and ends no halt.
abbrev pub IntAwakeShows : Type 0
IntAwakeShows = (m : World) (u : Waiter) (es : List Event) → m.halted u.cpu ≡ false
    → ShowsKicks m es → ShowsKicks m (es ++ record { by = u; what = Int } ∷ [])

-- In every sound world that shows them, a head that sleeps while nobody holds its lock is owed a
-- kick.
abbrev pub SpinFrontsAreOwed : Type 0
SpinFrontsAreOwed = (m : World) (es : List Event) → halts m.mode ≡ true
    → IsSoundSpinWorld m (λ l. history_of l es) → ShowsKicks m es → (l : LockName)
    → FrontIsOwed es l

-- So does an interrupt as a whole.
abbrev pub InterruptShows : Type 0
InterruptShows =
    (m : World) (hs : LockName → LockHistory) (w : Waiter) (f g : Frame) (es : List Event)
    → IsSoundSpinWorld m hs → IsNewest m w → m.frame w ≡ Some f → HasNoPlace (Some g)
    → ShowsKicks m es
    → ShowsKicks (world_interrupted m w f g) (es ++ record { by = above w; what = Int } ∷ [])
