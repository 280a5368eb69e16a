-- What a history tells, and when an event is lawful after it.
use Rattle.std.specs.Prelude.{◌≡◌, ◌≢◌, ◌≤◌, ◌==◌, ℕ, Option, Some, None, List, [], ◌∷◌, ◌++◌}
use Rattle.std.specs.Prelude.{if◌then◌else◌, slice_get, length}
use Rattle.lk_osq.specs.declared.events.OsqEvent.{OsqEvent}
use Rattle.lk_osq.specs.declared.events.OsqWhat.{OsqWhat as What}
use Rattle.lk_osq.specs.declared.events.OsqWhat.TheVariants.{TakeFree, Arrive, TakeHanded, Quit}
use Rattle.lk_osq.specs.declared.events.OsqWhat.TheVariants.{Release}

-- the list without the first that is x
abbrev pub without : ℕ → List ℕ → List ℕ
without x [] = []
without x (y ∷ ys) = if y == x then ys else (y ∷ without x ys)

-- who has taken and not released; who has arrived and not taken or quit, in the order of arrival;
-- and the waiter to which the lock was released and that has not taken yet
pub record Told : Type 0 where
  pub holders : List ℕ
  pub waiting : List ℕ
  pub handed : Option ℕ

-- before any event
abbrev pub nothing_told : Told
nothing_told = record { holders = []; waiting = []; handed = None }

-- what is told with one event more
abbrev pub told : ℕ → What → Told → Told
told p TakeFree t = record { holders = t.holders ++ p ∷ []; waiting = t.waiting; handed = t.handed }
told p Arrive t = record { holders = t.holders; waiting = t.waiting ++ p ∷ []; handed = t.handed }
told p TakeHanded t =
    record { holders = t.holders ++ p ∷ []; waiting = without p t.waiting; handed = None }
told p Quit t = record { holders = t.holders; waiting = without p t.waiting; handed = t.handed }
told p (Release None) t =
    record { holders = without p t.holders; waiting = t.waiting; handed = t.handed }
told p (Release (Some y)) t =
    record { holders = without p t.holders; waiting = t.waiting; handed = Some y }

-- it stands in the list
abbrev pub Stands : List ℕ → ℕ → Type 0
Stands xs p = (i : ℕ) × (slice_get xs i ≡ Some p)

-- The event is lawful after what was told. A free take: nobody holds the lock, and it is handed to
-- nobody. A handed take: it was handed to this waiter, and nobody holds it. A release: by the one
-- holder, and, where it names one, to a waiter. Nobody to whom the lock is handed does anything but
-- take it.
abbrev pub IsLawful : Told → ℕ → What → Type 0
IsLawful t p TakeFree = (t.holders ≡ []) × (t.handed ≡ None)
IsLawful t p Arrive = (t.handed ≢ Some p) × (Stands t.holders p → ⊥) × (Stands t.waiting p → ⊥)
IsLawful t p TakeHanded = (t.holders ≡ []) × (t.handed ≡ Some p) × Stands t.waiting p
IsLawful t p Quit = (t.handed ≢ Some p) × Stands t.waiting p
IsLawful t p (Release None) = (t.holders ≡ p ∷ []) × (t.handed ≡ None)
IsLawful t p (Release (Some y)) = (t.holders ≡ p ∷ []) × (t.handed ≡ None) × Stands t.waiting y

-- what a history tells
abbrev pub told_by : List OsqEvent → Told → Told
told_by [] t = t
told_by (e ∷ es) t = told_by es (told e.cpu e.what t)

-- each event of a history is lawful after those before it, and after each there is at most one
-- holder
abbrev pub IsLawfulAfter : List OsqEvent → Told → Type 0
IsLawfulAfter [] t = length t.holders ≤ 1
IsLawfulAfter (e ∷ es) t =
    (length t.holders ≤ 1) × IsLawful t e.cpu e.what × IsLawfulAfter es (told e.cpu e.what t)
