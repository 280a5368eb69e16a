-- What a processor notes of its calls and its locks in plain fields.
use Rattle.std.specs.Prelude.{◌≡◌, ◌≢◌, ℕ, ◌+◌, ◌-◌, ◌<◌, ◌≤◌, ◌==◌, ◌||◌, Bool, true, false, not, List, [], ◌∷◌, length, ltb}
use Rattle.std.specs.Prelude.{slice_index, slice_index_or, slice_set, if◌then◌else◌}
use Rattle.lk_law.specs.Families.{is_slow}
use Rattle.lk_domain.specs.Calls.{Running, Calls, slows, waits_in, holds_in}
use Rattle.lk_domain.specs.declared.notes.Notes.{Notes}
use Rattle.lk_domain.specs.declared.notes.Standing.{Standing}
use Rattle.lk_domain.specs.declared.notes.TheConstants.{NEAR}

-- Of so many numbers, the marks are those of the numbers of which f holds: the near ones of the first numbers,
-- and the far ones of those behind them. It holds of no other number.
pub record Marks (near far : List Bool) (many : ℕ) (f : ℕ → Bool) : Type 0 where
  pub short : length near ≡ NEAR
  pub long : many ≤ NEAR + length far
  pub first : (l : ℕ) → l < NEAR → slice_index_or near l false ≡ f l
  pub behind : (l : ℕ) → NEAR ≤ l → slice_index_or far (l - NEAR) false ≡ f l
  pub none : (l : ℕ) → many ≤ l → f l ≡ false

-- the marks with that of one number set so

abbrev pub near_with : List Bool → ℕ → Bool → List Bool
near_with near l b = if ltb l NEAR then slice_set near l b else near

abbrev pub far_with : List Bool → ℕ → Bool → List Bool
far_with far l b = if ltb l NEAR then far else slice_set far (l - NEAR) b

-- the lock for which the call of a context waits, and whether it does so in the slow path

abbrev pub lock_in : List Running → ℕ → ℕ
lock_in [] d = 0
lock_in (r ∷ rs) d = if d == length rs then r.frame.lock.index else lock_in rs d

abbrev pub path_in : List Running → ℕ → Bool
path_in [] d = false
path_in (r ∷ rs) d = if d == length rs then is_slow r.frame.place else path_in rs d

-- these are what the calls wait for, the oldest first, each one of so many locks
pub record AreOrdered (ls : List ℕ) (ss : List Bool) (many : ℕ) (rs : List Running) : Type 0 where
  pub locks : (d : ℕ) → d < length rs → slice_index ls d ≡ lock_in rs d
  pub paths : (d : ℕ) → d < length rs → slice_index_or ss d false ≡ path_in rs d
  pub among : (d : ℕ) → d < length rs → slice_index ls d < many

-- how many calls there are from the oldest up to the newest one for the lock; 0 where none waits for it
abbrev pub upto : List Running → ℕ → ℕ
upto [] l = 0
upto (r ∷ rs) l = if r.frame.lock.index == l then 1 + length rs else upto rs l

-- the notes are of these calls, of which there are six at most, in a domain of so many locks
pub record IsNoted (n : Notes) (many : ℕ) (c : Calls) : Type 0 where
  pub deep : n.depth ≡ length c.frames
  pub few : length c.frames ≤ 6
  pub counted : n.queued ≡ slows c.frames
  pub orders : length n.order ≡ 6
  pub paths : length n.slow ≡ 6
  pub ordered : AreOrdered n.order n.slow many c.frames
  pub all : n.locks ≡ many
  pub marked : Marks n.near n.far.items many (holds_in c.holds)

-- the notes with the mark of one lock set so
abbrev pub with_mark : Notes → ℕ → Bool → Notes
with_mark n l b = record n { near = near_with n.near l b; far = record n.far { items = far_with n.far.items l b } }

-- the calls are the others, and the newest is for this lock, where one waits for it
pub data Behind (l : ℕ) (others : List Running) : List Running → Bool → Bool → Type 0 where
  nobody : Behind l others others false false
  one : (r : Running) → r.frame.lock.index ≡ l
      → Behind l others (r ∷ others) true (is_slow r.frame.place)

-- The calls after a row of the one for the lock: whether it waits then, and in the slow path, and
-- whether it has taken the lock. The others are as they were.
pub record Steps (old new : Calls) (l : ℕ) (waits slow taken : Bool) : Type 0 where
  pub others : List Running
  pub waited : Bool
  pub slowly : Bool
  pub before : Behind l others old.frames waited slowly
  pub after : Behind l others new.frames waits slow
  pub none : waits_in others l ≡ false
  pub low : length others < 6
  pub held : holds_in new.holds l ≡ (holds_in old.holds l || taken)
  pub holds : (x : ℕ) → x ≢ l → holds_in new.holds x ≡ holds_in old.holds x

-- the same, as a processor notes how the call stands after the row
abbrev pub StepsTo : Calls → Calls → ℕ → Standing → Type 0
StepsTo old new l after = Steps old new l after.waits after.slow after.taken

-- the notes are of some calls, and the one for the lock has made a row after which it stands so
abbrev pub CanStep : Notes → ℕ → Standing → Type 0
CanStep notes l after = (many : ℕ) × (c d : Calls) × IsNoted notes many c × (l < many) × StepsTo c d l after

-- if the notes were of calls, they are of these calls after the row
abbrev pub HasStepped : Notes → Notes → ℕ → Standing → Type 0
HasStepped old new l after = (many : ℕ) (c d : Calls) → IsNoted old many c → l < many → StepsTo c d l after
    → IsNoted new many d

-- a new call has taken the lock by its first row, or it waits, and not yet in the slow path
abbrev pub first_standing : Bool → Standing
first_standing taken = record { waits = not taken; slow = false; taken = taken }

-- the same of a call for a lock for which none waited
abbrev pub HasBegun : Notes → Notes → ℕ → Bool → Type 0
HasBegun old new l taken = (many : ℕ) (c d : Calls) → IsNoted old many c → l < many → waits_in c.frames l ≡ false
    → StepsTo c d l (first_standing taken) → IsNoted new many d

-- the processor has freed a lock, and the notes are as they were but for that
abbrev pub HasFreed : Notes → Notes → ℕ → Type 0
HasFreed old new l = (many : ℕ) (c d : Calls) → IsNoted old many c → l < many → d.frames ≡ c.frames
    → holds_in d.holds l ≡ false → ((x : ℕ) → x ≢ l → holds_in d.holds x ≡ holds_in c.holds x) → IsNoted new many d
