-- The handoffs of a history, event by event.
use Rattle.std.specs.Prelude.{◌≡◌, ◌≢◌, ◌⊎◌, ℕ, Some, List, [], ◌∷◌}
use Rattle.lk_osq.specs.declared.events.OsqWhat.{OsqWhat}
use Rattle.lk_osq.specs.declared.events.OsqWhat.TheVariants.{TakeFree, TakeHanded, Release}
use Rattle.lk_osq.specs.declared.events.OsqEvent.{OsqEvent}
use Rattle.lk_osq.specs.History.{Told, told, Stands}

-- it takes no lock
abbrev pub IsNoTake : OsqWhat → Type 0
IsNoTake TakeFree = ⊥
IsNoTake TakeHanded = ⊥
IsNoTake _ = Unit {0}

-- In these events, which follow a release to q, the next event of q is its take, and no other takes
-- before it.
abbrev pub TakesNext : ℕ → List OsqEvent → Type 0
TakesNext q [] = Unit {0}
TakesNext q (e ∷ es) =
    ((e.cpu ≡ q) × (e.what ≡ TakeHanded)) ⊎ (e.cpu ≢ q) × IsNoTake e.what × TakesNext q es

-- In these events, the latest first, there is a release to q, and since then q did nothing and
-- nobody took.
abbrev pub WasReleasedTo : ℕ → List OsqEvent → Type 0
WasReleasedTo q [] = ⊥
WasReleasedTo q (e ∷ es) =
    (e.what ≡ Release (Some q)) ⊎ (e.cpu ≢ q) × IsNoTake e.what × WasReleasedTo q es

-- Each release to q is to one that waits, and q takes next; each handed take follows such a
-- release. The events before are `past`, the latest first, and tell t.
abbrev pub AreHanded : List OsqEvent → List OsqEvent → Told → Type 0
AreHanded past [] t = Unit {0}
AreHanded past (e ∷ es) t =
    ((q : ℕ) → e.what ≡ Release (Some q) → Stands t.waiting q × TakesNext q es)
    × (e.what ≡ TakeHanded → WasReleasedTo e.cpu past)
    × AreHanded (e ∷ past) es (told e.cpu e.what t)
