-- What a sound world says of the word that a row of a reader or a writer meets: on this its code,
-- and the steps of a domain of threads, may rest.
use Rattle.std.specs.Prelude.{◌≡◌, ◌<◌, ◌≤◌, ℕ, Some, None, true}
use Rattle.lk_names.specs.History.{LockHistory}
use Rattle.lk_names.specs.Lists.{IsOneOf}
use Rattle.lk_names.specs.declared.names.Kind.TheVariants.{Rw}
use Rattle.lk_names.specs.declared.names.Waiter.{Waiter}
use Rattle.lk_names.specs.declared.names.LockName.{LockName}
use Rattle.lk_word.specs.declared.rw_word.RwFields.{RwFields}
use Rattle.lk_rows.specs.declared.parts.Frame.{Frame}
use Rattle.lk_rows.specs.declared.parts.Pc.{Pc}
use Rattle.lk_rows.specs.declared.parts.Pc.TheVariants.{R2, R3, R5, Wr5, Wr6, Y3, Z1, Z2}
use Rattle.lk_law.specs.World.{World}
use Rattle.lk_law.specs.SoundWorld.{IsSoundWorld}
use Rattle.lk_law.specs.Families.{is_rw_row}

-- who is counted meets a reader at least: itself; who waits for the readers meets waiting set, and
-- who releases as the writer meets one
abbrev pub RwKnown : Pc → RwFields → Type 0
RwKnown R2 x = 0 < x.readers
RwKnown R3 x = 0 < x.readers
RwKnown R5 x = 0 < x.readers
RwKnown Y3 x = 0 < x.readers
RwKnown Z1 x = 0 < x.readers
RwKnown Wr5 x = x.waiting ≡ true
RwKnown Wr6 x = x.waiting ≡ true
RwKnown Z2 x = x.writer ≡ true
RwKnown c x = Unit {0}

-- In every sound world a frame at the row acts on a reader-writer lock, and meets such a word.
abbrev pub RwRowKnows : Pc → Type 0
RwRowKnows c = (m : World) (hs : LockName → LockHistory) (w : Waiter) (f : Frame)
    → IsSoundWorld m hs → m.frame w ≡ Some f → f.place ≡ Some c
    → is_rw_row c ≡ true → (m.kind f.lock.index ≡ Rw) × RwKnown c (m.rw f.lock.index)

-- In every sound world of so many waiters, in which who has no frame holds nothing, a reader-writer
-- lock has at most so many readers.
abbrev pub ReadersAreFew : Type 0
ReadersAreFew = (count : ℕ) (m : World) (hs : LockName → LockHistory) (i : ℕ) → IsSoundWorld m hs
    → m.kind i ≡ Rw
    → ((u : Waiter) (f : Frame) → m.frame u ≡ Some f → IsOneOf count u)
    → ((u : Waiter) (l : LockName) → m.frame u ≡ None → m.held u l ≡ None)
    → (m.rw i).readers ≤ count
