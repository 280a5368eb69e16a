-- What a seat knows of its processor's locks: the calls that it is in, each with its trail, and the
-- locks that it holds. And what a row makes of this, by the value that it meets.
use Rattle.std.specs.Prelude.{◌≡◌, ℕ, ◌+◌, ◌<◌, ◌==◌, ◌&&◌, ◌||◌, not, nat_lt, Bool, true, false, List, []}
use Rattle.std.specs.Prelude.{◌∷◌, ◌++◌, length, Option, Some, None, if◌then◌else◌, is_some}
use Rattle.lk_names.specs.Names.{same_lock}
use Rattle.lk_names.specs.declared.holder.Manner.{Manner}
use Rattle.lk_names.specs.declared.holder.Manner.TheVariants.{Spins, Reads, Writes}
use Rattle.lk_names.specs.declared.names.Format.{Format}
use Rattle.lk_names.specs.declared.names.Format.TheVariants.{One, Two}
use Rattle.lk_names.specs.declared.names.Kind.{Kind}
use Rattle.lk_names.specs.declared.names.Mode.{Mode}
use Rattle.lk_names.specs.declared.names.LockName.{LockName}
use Rattle.lk_names.specs.declared.events.What.TheVariants.{RTake, RRelease, WTake, WRelease}
use Rattle.lk_word.specs.declared.spin_word.NodeName.{NodeName}
use Rattle.lk_rows.specs.declared.parts.Frame.{Frame}
use Rattle.lk_rows.specs.declared.parts.Pc.{Pc}
use Rattle.lk_rows.specs.declared.parts.Pc.TheVariants.{C1, C2, C3, C7, Z1, Z2, U1, U2}
use Rattle.lk_rows.specs.declared.setup.Verb.{Verb}
use Rattle.lk_law.specs.Agree.{halts}
use Rattle.lk_rows.specs.declared.setup.Verb.TheVariants.{Lock, Try, Unlock, Read, TryRead}
use Rattle.lk_rows.specs.declared.setup.Verb.TheVariants.{RUnlock, Write, TryWrite, WUnlock}
use Rattle.lk_rows.specs.Machine.{rest_frame}
use Rattle.lk_rows.specs.Moves.{started}
use Rattle.lk_rows.specs.Programs.{kind_of, is_release as is_unlocking}
use Rattle.lk_names.specs.Lawful.{same_socket}
use Rattle.lk_rows.specs.rows.Cna.{Sight}
use Rattle.lk_rows.specs.Row.{Lead, Granted, Freed, Leaves, Yields, Tell, Says}
use Rattle.lk_rows.specs.TopRow.{Target, RwWord, Halted, target}
use Rattle.lk_law.specs.Families.{is_slow}
use Rattle.lk_law.specs.Leads.{Met, Named, Linked, Setting, Course, course_at, held_lock, is_release}
use Rattle.lk_law.specs.SoundWorld.{is_rw_name}
use Rattle.lk_law.specs.Steps.{led}
use Rattle.lk_domain.specs.Plans.{kind_at, turns_by}
use Rattle.lk_domain.specs.declared.plan.Plan.{Plan}

-- a row of a trail, what it met, and how many handoffs the call had read for it in its own node
pub record Mark : Type 0 where
  pub row : Pc
  pub met : Met
  pub runs : ℕ

-- a call that waits: its frame, and its trail so far
pub record Running : Type 0 where
  pub verb : Verb
  pub frame : Frame
  pub trail : List Mark

-- a lock that is held: by which context, in which manner, the number of this acquisition by the
-- processor, and whether the value of the lock is out with it
pub record Hold : Type 0 where
  pub ctx : ℕ
  pub lock : LockName
  pub manner : Manner
  pub nth : ℕ
  pub out : Bool

-- what a seat knows of its processor's locks
pub record Calls : Type 0 where
  -- the calls that wait, the newest first
  pub frames : List Running
  pub holds : List Hold
  -- the trail of the call that ended last, and how many acquisitions there were
  pub last : List Mark
  pub taken : ℕ
  -- how many words of the node to come are reset
  pub ready : ℕ
  -- how many handoffs the newest call has read in its own node, for its next row
  pub runs : Option ℕ
  -- where processors halt: whether this one has; at how many places of the hash the newest call has
  -- looked for the entry of its lock, and not found it; and the node with which it found it at the next
  pub halted : Bool
  pub looked : ℕ
  pub spot : Option NodeName

-- a processor with no call and no lock
abbrev pub no_calls : Calls
no_calls =
    record {
      frames = [];
      holds = [];
      last = [];
      taken = 0;
      ready = 0;
      runs = None;
      halted = false;
      looked = 0;
      spot = None;
    }

abbrev pub mark : Pc → Met → ℕ → Mark
mark c x n = record { row = c; met = x; runs = n }

abbrev pub running : Verb → Frame → List Mark → Running
running v f t = record { verb = v; frame = f; trail = t }

abbrev pub hold : ℕ → LockName → Manner → ℕ → Hold
hold c l m n = record { ctx = c; lock = l; manner = m; nth = n; out = false }

-- the frame of a context, if it has one
abbrev pub frame_in : List Running → ℕ → Option Frame
frame_in [] c = None
frame_in (r ∷ rs) c = if c == r.frame.ctx then Some r.frame else frame_in rs c

-- how a context holds a lock
abbrev pub held_in : List Hold → ℕ → LockName → Option Manner
held_in [] c l = None
held_in (h ∷ hs) c l = if (c == h.ctx) && same_lock l h.lock then Some h.manner else held_in hs c l

-- whether a context is that of an interrupt
abbrev pub is_inner : ℕ → Bool
is_inner c = nat_lt 0 c

-- The node that a head has met first behind its own, while it may still link it, and what the mark
-- of the link said: whether the call that uses it is in a context above 0. C1 meets it, and C2 and
-- C3 keep it.
abbrev pub Told : Type 0
Told = Option (NodeName × Bool)

abbrev pub told_by : Told → Pc → Met → Told
told_by o C1 (Linked (Some n) b) = Some (n, b)
told_by o C2 x = o
told_by o C3 x = o
told_by o c x = None

abbrev pub told_from : Told → List Mark → Told
told_from o [] = o
told_from o (k ∷ ks) = told_from (told_by o k.row k.met) ks

-- by a trail
abbrev pub told : List Mark → Told
told ks = told_from None ks

-- by the call of a context, if there is one
abbrev pub told_in : List Running → ℕ → Told
told_in [] c = None
told_in (r ∷ rs) c = if c == r.frame.ctx then told r.trail else told_in rs c

-- the contexts of the calls are numbered from the oldest
abbrev pub Stacked : List Running → Type 0
Stacked [] = Unit {0}
Stacked (r ∷ rs) = (r.frame.ctx ≡ length rs) × Stacked rs

-- the place is the release of a reader or the writer
abbrev pub is_leaving : Option Pc → Bool
is_leaving (Some Z1) = true
is_leaving (Some Z2) = true
is_leaving _ = false

-- the place is the first row of a release
abbrev pub begins_release : Option Pc → Bool
begins_release (Some U1) = true
begins_release (Some U2) = true
begins_release c = is_leaving c

-- the frame stands at the first row of the release of the lock of its operation; at that of a wait
-- lock it may stand, when it has the lock for which it took the wait lock
abbrev pub releases : Frame → Bool
releases f = begins_release f.place && not (f.lock.wait && not (is_leaving f.place))

-- no call waits at such a row
abbrev pub Rests : List Running → Type 0
Rests [] = Unit {0}
Rests (r ∷ rs) = (releases r.frame ≡ false) × Rests rs

-- each call stands at a row
abbrev pub ArePlaced : List Running → Type 0
ArePlaced [] = Unit {0}
ArePlaced (r ∷ rs) = (is_some r.frame.place ≡ true) × ArePlaced rs

-- how many calls are in the slow path
abbrev pub slows : List Running → ℕ
slows [] = 0
slows (r ∷ rs) = (if is_slow r.frame.place then 1 else 0) + slows rs

-- a spinlock by its number
abbrev pub lock_name : ℕ → LockName
lock_name l = record { index = l; wait = false }

-- whether a call waits for the lock
abbrev pub waits_in : List Running → ℕ → Bool
waits_in [] l = false
waits_in (r ∷ rs) l = if r.frame.lock.index == l then true else waits_in rs l

-- whether a call waits for it in the slow path
abbrev pub slow_in : List Running → ℕ → Bool
slow_in [] l = false
slow_in (r ∷ rs) l = if r.frame.lock.index == l then is_slow r.frame.place else slow_in rs l

-- whether the lock is held, by whichever context and in whichever manner
abbrev pub holds_in : List Hold → ℕ → Bool
holds_in [] l = false
holds_in (h ∷ hs) l = if same_lock h.lock (lock_name l) then true else holds_in hs l

-- how the lock is held, by whichever context
abbrev pub way_in : List Hold → ℕ → Option Manner
way_in [] l = None
way_in (h ∷ hs) l = if same_lock h.lock (lock_name l) then Some h.manner else way_in hs l

-- and whether its value is out
abbrev pub hold_in : List Hold → ℕ → Option (Manner × Bool)
hold_in [] l = None
hold_in (h ∷ hs) l = if same_lock h.lock (lock_name l) then Some (h.manner, h.out) else hold_in hs l

-- what a row does to the holds of its processor
pub data Grip : Type 0 where
  Unchanged : Grip
  Takes : Manner → Grip
  Frees : Grip

-- by where it leads, if it is one of a spinlock
abbrev pub grip_led : Lead → Grip
grip_led Granted = Takes Spins
grip_led Leaves = Takes Spins
grip_led Freed = Frees
grip_led (Yields c cs) = Frees
grip_led _ = Unchanged

-- by what it tells, if it is one of a reader or a writer
abbrev pub grip_told : Tell → Grip
grip_told (Says (RTake l h)) = Takes Reads
grip_told (Says (WTake l h)) = Takes Writes
grip_told (Says (RRelease l)) = Frees
grip_told (Says (WRelease l)) = Frees
grip_told _ = Unchanged

-- by its course
abbrev pub grip_of : Target → Course → Grip
grip_of RwWord o = grip_told o.tells
grip_of _ o = grip_led o.leads

-- the holds without those of a lock by this context
abbrev pub free_of : ℕ → LockName → List Hold → List Hold
free_of c l [] = []
free_of c l (h ∷ hs) =
    if (h.ctx == c) && same_lock h.lock l then free_of c l hs else h ∷ free_of c l hs

-- the same holds, those of a lock as this context's
abbrev pub moved_to : ℕ → LockName → List Hold → List Hold
moved_to c l [] = []
moved_to c l (h ∷ hs) =
    (if same_lock h.lock l then record h { ctx = c } else h) ∷ moved_to c l hs

-- the holds after a row of a context on a lock; n is the number of the acquisition
abbrev pub holds_after : Grip → ℕ → LockName → ℕ → List Hold → List Hold
holds_after Unchanged c l n hs = hs
holds_after (Takes m) c l n hs = hold c l m n ∷ hs
holds_after Frees c l n hs = free_of c l hs

-- how many acquisitions there were
abbrev pub taken_after : Grip → ℕ → ℕ
taken_after (Takes m) n = n + 1
taken_after _ n = n

-- the calls after a row by which a frame came to this place: it is over where there is none
abbrev pub frames_after : Verb → Frame → List Mark → List Running → Option Pc → List Running
frames_after v f t rs None = rs
frames_after v f t rs (Some c) = running v f t ∷ rs

-- the trail of the call that ended last
abbrev pub last_after : List Mark → List Mark → Option Pc → List Mark
last_after t last None = t
last_after t last (Some c) = last

-- whether the processor has halted after a row that operates on x
abbrev pub halted_after : Target → Bool → Bool
halted_after Halted b = true
halted_after _ b = b

-- the calls after the row of the newest frame f, which operates on x and takes this course; t is
-- its trail with this row
abbrev pub after : Verb → Frame → List Mark → List Running → Calls → Target → Course → Calls
after v f t rs c x o =
    record {
      frames = frames_after v (led f o.leads) t rs (led f o.leads).place;
      holds = holds_after (grip_of x o) f.ctx (held_lock x f) (c.taken + 1) c.holds;
      last = last_after t c.last (led f o.leads).place;
      taken = taken_after (grip_of x o) c.taken;
      ready = 0;
      runs = None;
      halted = halted_after x c.halted;
      looked = 0;
      spot = None;
    }

-- what the rows read of a plan: the format, the family, the threshold, and the socket of each
-- processor
pub record Terms : Type 0 where
  pub format : Format
  pub mode : Mode
  pub threshold : ℕ
  pub sockets : List ℕ

abbrev pub terms_of : Plan → Terms
terms_of k =
    record {
      format = k.format;
      mode = k.mode;
      threshold = k.threshold;
      sockets = k.topology.sockets.items;
    }

-- whether a link with this mark names a call that is never moved aside: in the second format, one
-- in an interrupt
abbrev pub stays_by : Format → Bool → Bool
stays_by One mark = false
stays_by Two mark = mark

-- What a seat sees while its head chooses the next: the count of handoffs that it has read in its
-- own node, the threshold, and, by the mark of the link that names a node, whether the node is
-- local.
pub record Outlook : Type 0 where
  pub runs : ℕ
  pub threshold : ℕ
  pub local : Bool → NodeName → Bool

abbrev pub count_of : Option ℕ → ℕ
count_of None = 0
count_of (Some r) = r

abbrev pub sight_of : Terms → ℕ → Option ℕ → Outlook
sight_of t p r =
    record {
      runs = count_of r;
      threshold = t.threshold;
      local = λ mark n. stays_by t.format mark || same_socket t.sockets p n.cpu;
    }

-- what a row reads besides
abbrev pub setting : Mode → ℕ → Sight → Setting
setting mode p z =
    record { mode = mode; turns = turns_by mode z.threshold; cpu = p; sight = z }

-- how many handoffs a call has read for its row: a head does so before it chooses the next, and
-- before it tells the next how many they are
abbrev pub read_at : Pc → Outlook → ℕ
read_at C1 z = z.runs
read_at C7 z = z.runs
read_at _ z = 0

-- what is met but for the mark of a link
abbrev pub plain : Met → Met
plain (Linked o b) = Named o
plain x = x

-- and that mark; all but links have none
abbrev pub mark_of : Met → Bool
mark_of (Linked o b) = b
mark_of x = false

-- what the head sees, by what it has met
abbrev pub sight_by : Outlook → Met → Sight
sight_by z x = record { runs = z.runs; threshold = z.threshold; local = z.local (mark_of x) }

-- the course of the row at c of a frame that met this
abbrev pub course : Mode → ℕ → Outlook → Pc → Frame → Met → Course
course mode p z c f x = course_at (setting mode p (sight_by z x)) c f (target c f) (plain x)

-- the calls after the row of the newest call, which met x

abbrev pub row_at : Mode → ℕ → Outlook → Running → List Running → Calls → Met → Option Pc → Calls
row_at mode p z r rs c x None = c
row_at mode p z r rs c x (Some d) =
    after r.verb r.frame (r.trail ++ mark d x (read_at d z) ∷ []) rs c (target d r.frame)
    (course mode p z d r.frame x)

abbrev pub row_on : Mode → ℕ → Outlook → List Running → Calls → Met → Calls
row_on mode p z [] c x = c
row_on mode p z (r ∷ rs) c x = row_at mode p z r rs c x r.frame.place

abbrev pub row_of : Terms → ℕ → Calls → Met → Calls
row_of t p c x = row_on t.mode p (sight_of t p c.runs) c.frames c x

-- a call begins

-- its frame
abbrev pub begun : Mode → ℕ → Verb → ℕ → Frame
begun mode c v l = started mode (record rest_frame { ctx = c }) (record { verb = v; lock = l })

-- the holds with which it begins: one that releases does it in the context in which it is called
abbrev pub holds_begun : Verb → ℕ → ℕ → List Hold → List Hold
holds_begun Unlock c l hs = moved_to c (lock_name l) hs
holds_begun RUnlock c l hs = moved_to c (lock_name l) hs
holds_begun WUnlock c l hs = moved_to c (lock_name l) hs
holds_begun _ c l hs = hs

abbrev pub begin : Mode → Calls → Verb → ℕ → Calls
begin mode c v l =
    record c {
      frames = running v (begun mode (length c.frames) v l) [] ∷ c.frames;
      holds = holds_begun v (length c.frames) l c.holds;
      runs = None;
    }

abbrev pub is_verb : Verb → Verb → Bool
is_verb Lock Lock = true
is_verb Try Try = true
is_verb Unlock Unlock = true
is_verb Read Read = true
is_verb TryRead TryRead = true
is_verb RUnlock RUnlock = true
is_verb Write Write = true
is_verb TryWrite TryWrite = true
is_verb WUnlock WUnlock = true
is_verb v w = false

-- the newest call is this operation on this lock
abbrev pub is_on : List Running → Verb → ℕ → Bool
is_on [] v l = false
is_on (r ∷ rs) v l = is_verb r.verb v && (r.frame.lock.index == l)

-- the call goes on, or begins
abbrev pub acting : Mode → Calls → Verb → ℕ → Calls
acting mode c v l = if is_on c.frames v l then c else begin mode c v l

-- the newest call is this operation, acts on the lock of this name, and stands at the row
pub record StandsOn (c : Calls) (v : Verb) (n : LockName) (pc : Pc) : Type 0 where
  pub frame : Frame
  pub trail : List Mark
  pub rest : List Running
  pub is : c.frames ≡ running v frame trail ∷ rest
  pub place : frame.place ≡ Some pc
  pub lock : frame.lock ≡ n

-- it acts on the lock itself, and not on its wait lock
abbrev pub StandsAt : Calls → Verb → ℕ → Pc → Type 0
StandsAt c v l pc = StandsOn c v (lock_name l) pc

-- the processor neither holds the lock nor waits for it
abbrev pub IsClear : Calls → ℕ → Type 0
IsClear c l = (holds_in c.holds l ≡ false) × (waits_in c.frames l ≡ false)

-- What a call asks that begins: one that takes a lock holds nothing of it and waits for nothing of
-- it, and one that releases holds it, in whichever context: a reader-writer lock in its manner.
abbrev pub MayBegin : Calls → Verb → ℕ → Type 0
MayBegin c Unlock l = holds_in c.holds l ≡ true
MayBegin c RUnlock l = way_in c.holds l ≡ Some Reads
MayBegin c WUnlock l = way_in c.holds l ≡ Some Writes
MayBegin c _ l = IsClear c l

-- where the call of this operation on this lock begins, it may, it is one of six, and the lock is
-- of its kind; and where processors halt it is the only one
abbrev pub Begins : Plan → Calls → Verb → ℕ → Type 0
Begins k c v l = is_on c.frames v l ≡ false
    → (length c.frames < 6) × MayBegin c v l × (kind_at k l ≡ kind_of v)
    × (halts k.mode ≡ true → c.frames ≡ [])

-- the place is a row of a call that does not have its lock yet
abbrev pub is_seeking : Option Pc → Bool
is_seeking None = false
is_seeking (Some Z1) = false
is_seeking (Some Z2) = false
is_seeking (Some c) = not (is_release (Some c))

-- who waits for a lock does not hold it yet, and no other call below it waits for it
abbrev pub AreFresh : List Running → List Hold → Type 0
AreFresh [] hs = Unit {0}
AreFresh (r ∷ rs) hs =
    (is_seeking r.frame.place ≡ true
    → (holds_in hs r.frame.lock.index ≡ false) × (waits_in rs r.frame.lock.index ≡ false))
    × AreFresh rs hs

-- a hold of a spinlock or a wait lock is as of a spinlock, and one of a reader-writer lock as of a
-- reader or the writer
abbrev pub is_spun : Manner → Bool
is_spun Spins = true
is_spun Reads = false
is_spun Writes = false

abbrev pub Suits : (ℕ → Kind) → LockName → Manner → Type 0
Suits kind l m = is_spun m ≡ not (is_rw_name kind l)

-- each lock is held by one of six contexts, in a manner of its kind, and but for wait locks once
abbrev pub AreHeld : (ℕ → Kind) → List Hold → Type 0
AreHeld kind [] = Unit {0}
AreHeld kind (h ∷ hs) = (h.ctx < 6) × Suits kind h.lock h.manner
    × (h.lock.wait ≡ false → holds_in hs h.lock.index ≡ false) × AreHeld kind hs

-- the calls that wait do not release, and wait for different locks
abbrev pub are_calls : List Running → Bool
are_calls [] = true
are_calls (r ∷ rs) =
    not (is_unlocking r.verb) && not (waits_in rs r.frame.lock.index) && are_calls rs
