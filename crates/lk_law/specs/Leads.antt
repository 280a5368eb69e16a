-- What a row does, told by the value that it meets: so a running processor knows from the one word
-- that it read where its frame goes on, and what its row has told.
use Rattle.std.specs.Prelude.{◌&&◌, ◌≡◌, ◌≢◌, ℕ, Option, Some, None, Bool, true, false, []}
use Rattle.std.specs.Prelude.{if◌then◌else◌}
use Rattle.lk_names.specs.Names.{same_lock, same_waiter}
use Rattle.lk_names.specs.declared.holder.Manner.{Manner}
use Rattle.lk_names.specs.declared.names.Mode.{Mode}
use Rattle.lk_names.specs.declared.names.Waiter.{Waiter}
use Rattle.lk_names.specs.declared.names.LockName.{LockName}
use Rattle.lk_word.specs.declared.spin_word.NodeName.{NodeName}
use Rattle.lk_word.specs.declared.spin_word.Fields.{Fields}
use Rattle.lk_word.specs.declared.rw_word.RwFields.{RwFields}
use Rattle.lk_rows.specs.declared.parts.Flag.{Flag}
use Rattle.lk_rows.specs.declared.parts.State.{State}
use Rattle.lk_rows.specs.declared.parts.Frame.{Frame}
use Rattle.lk_rows.specs.declared.parts.Pc.{Pc}
use Rattle.lk_rows.specs.declared.parts.Pc.TheVariants.{G1}
use Rattle.lk_rows.specs.Moves.{rw_name}
use Rattle.lk_rows.specs.Row.{Lead, Goes, Enters, Tell, Nothing, Effect}
use Rattle.lk_rows.specs.rows.Spin.{spin_row}
use Rattle.lk_rows.specs.rows.Queue.{queue_row, entry_row, flag_row, next_row}
use Rattle.lk_rows.specs.rows.Cna.{Sight, search_row, second_row, runs_row, handover_row}
use Rattle.lk_rows.specs.rows.Cna.{promotion_row}
use Rattle.lk_rows.specs.rows.Pv.{pv_row, pv_flag_row, pv_next_row, state_row, hash_row}
use Rattle.lk_rows.specs.rows.Pv.{halt_row, kick_row}
use Rattle.lk_rows.specs.rows.Rw.{rw_row}
use Rattle.lk_rows.specs.TopRow.{Target, SpinWord, QueueWord, Queued, FlagOf, NextOf, ChoiceWord}
use Rattle.lk_rows.specs.TopRow.{ChoiceFlag, ChoiceNext, SecondTailOf, RunsOf, PvWord, PvFlag}
use Rattle.lk_rows.specs.TopRow.{PvNext, StateOf, HashEntry, Halted, KickOf, RwWord, target}
use Rattle.lk_law.specs.Families.{may_halt, is_rw_row, is_ending_row}
use Rattle.lk_law.specs.Premises.{IsThen}
use Rattle.lk_law.specs.World.{World}
use Rattle.lk_law.specs.Steps.{put_frame, put_held, led, lead_on, way_led, way_told, sight_in}
use Rattle.lk_law.specs.Steps.{row_in_at, stores_word, stores_rw, stores_flag, stores_next}
use Rattle.lk_law.specs.Steps.{stores_second, stores_runs, stores_state, stores_entry}
use Rattle.lk_law.specs.Steps.{stores_halted, stores_kicked, stores_queued}

-- what a row meets where it operates
pub data Met : Type 0 where
  -- the word of a spinlock or a wait lock
  Word : Fields → Met
  -- the word of a reader-writer lock
  Shared : RwFields → Met
  -- a number: of frames in the slow path, or of handoffs
  Number : ℕ → Met
  -- the flag of a node
  Flagged : Flag → Met
  -- a node that is named, or none: by a link, as the last of a secondary queue, or in the hash
  Named : Option NodeName → Met
  -- a link with its mark, by which a running processor knows whether the call that uses the named
  -- node is in a context above 0
  Linked : Option NodeName → Bool → Met
  -- the state of a node
  Stated : State → Met
  -- a mark of a processor: that it has halted, or that a kick of it is remembered
  Marked : Bool → Met

-- what a row reads besides: the family, the turns of a waiter that spins, its processor, and what a
-- head sees that chooses the next
pub record Setting : Type 0 where
  pub mode : Mode
  pub turns : ℕ
  pub cpu : ℕ
  pub sight : Sight

-- where a row leads, and what it tells
pub record Course : Type 0 where
  pub leads : Lead
  pub tells : Tell

-- the course of an effect, whatever it stores
abbrev pub course_of : {A : Type 0} → Effect A → Course
course_of o = record { leads = o.leads; tells = o.tells }

-- a row that meets no value of its own kind stays where it is
abbrev pub stays_at : Pc → Course
stays_at c = record { leads = Goes c []; tells = Nothing }

-- the course of the row at c of the frame f, by what it operates on and what it meets there
abbrev pub course_at : Setting → Pc → Frame → Target → Met → Course
course_at s c f SpinWord (Word x) = course_of (spin_row s.mode c f x)
course_at s c f QueueWord (Word x) = course_of (queue_row s.mode c f x)
course_at s c f Queued (Number i) = course_of (entry_row s.mode s.cpu i)
course_at s c f (FlagOf n) (Flagged x) = course_of (flag_row c f x)
course_at s c f (NextOf n) (Named x) = course_of (next_row s.mode s.turns c f x)
course_at s c f ChoiceWord (Word x) = course_of (promotion_row c f x)
course_at s c f (ChoiceFlag n) (Flagged x) = course_of (handover_row c f x)
course_at s c f (ChoiceNext n) (Named x) = course_of (search_row s.sight c f x)
course_at s c f (SecondTailOf n) (Named x) = course_of (second_row c f x)
course_at s c f (RunsOf n) (Number x) = course_of (runs_row s.sight c f x)
course_at s c f PvWord (Word x) = course_of (pv_row s.turns c f x)
course_at s c f (PvFlag n) (Flagged x) = course_of (pv_flag_row c f x)
course_at s c f (PvNext n) (Named x) = course_of (pv_next_row c f x)
course_at s c f (StateOf n) (Stated x) = course_of (state_row s.turns c f x)
course_at s c f HashEntry (Named x) = course_of (hash_row c f x)
course_at s c f Halted (Marked b) = course_of (halt_row c f b)
course_at s c f (KickOf q) (Marked b) = course_of (kick_row c f b)
course_at s c f RwWord (Shared x) = course_of (rw_row s.mode c f x)
course_at s c f t x = stays_at c

-- in a world

-- what the frame f of w reads besides
abbrev pub setting_in : World → Waiter → Frame → Setting
setting_in m w f =
    record { mode = m.mode; turns = m.turns; cpu = w.cpu; sight = sight_in m w f }

-- what it meets
abbrev pub met_in : World → Waiter → Frame → Target → Met
met_in m w f SpinWord = Word (m.word f.lock)
met_in m w f QueueWord = Word (m.word f.lock)
met_in m w f Queued = Number (m.queued w.cpu)
met_in m w f (FlagOf n) = Flagged (m.node n).flag
met_in m w f (NextOf n) = Named (m.node n).next
met_in m w f ChoiceWord = Word (m.word f.lock)
met_in m w f (ChoiceFlag n) = Flagged (m.node n).flag
met_in m w f (ChoiceNext n) = Named (m.node n).next
met_in m w f (SecondTailOf n) = Named (m.node n).second_tail
met_in m w f (RunsOf n) = Number (m.node n).runs
met_in m w f PvWord = Word (m.word f.lock)
met_in m w f (PvFlag n) = Flagged (m.node n).flag
met_in m w f (PvNext n) = Named (m.node n).next
met_in m w f (StateOf n) = Stated (m.node n).state
met_in m w f HashEntry = Named (m.entry f.lock)
met_in m w f Halted = Marked (m.halted w.cpu)
met_in m w f (KickOf q) = Marked (m.kicked q)
met_in m w f RwWord = Shared (m.rw f.lock.index)

-- the course of its row at c
abbrev pub course_in : World → Waiter → Frame → Pc → Target → Course
course_in m w f c t = course_at (setting_in m w f) c f t (met_in m w f t)

-- the world after the store of its row, and before its frame goes on
abbrev pub stored_in : World → Waiter → Frame → Pc → Target → World
stored_in m w f c SpinWord = stores_word m f.lock (spin_row m.mode c f (m.word f.lock)).stores
stored_in m w f c QueueWord = stores_word m f.lock (queue_row m.mode c f (m.word f.lock)).stores
stored_in m w f c Queued =
    stores_queued m w.cpu (entry_row m.mode w.cpu (m.queued w.cpu)).stores
stored_in m w f c (FlagOf n) = stores_flag m n (flag_row c f (m.node n).flag).stores
stored_in m w f c (NextOf n) =
    stores_next m n (next_row m.mode m.turns c f (m.node n).next).stores
stored_in m w f c ChoiceWord = stores_word m f.lock (promotion_row c f (m.word f.lock)).stores
stored_in m w f c (ChoiceFlag n) = stores_flag m n (handover_row c f (m.node n).flag).stores
stored_in m w f c (ChoiceNext n) =
    stores_next m n (search_row (sight_in m w f) c f (m.node n).next).stores
stored_in m w f c (SecondTailOf n) =
    stores_second m n (second_row c f (m.node n).second_tail).stores
stored_in m w f c (RunsOf n) =
    stores_runs m n (runs_row (sight_in m w f) c f (m.node n).runs).stores
stored_in m w f c PvWord = stores_word m f.lock (pv_row m.turns c f (m.word f.lock)).stores
stored_in m w f c (PvFlag n) = stores_flag m n (pv_flag_row c f (m.node n).flag).stores
stored_in m w f c (PvNext n) = stores_next m n (pv_next_row c f (m.node n).next).stores
stored_in m w f c (StateOf n) = stores_state m n (state_row m.turns c f (m.node n).state).stores
stored_in m w f c HashEntry = stores_entry m f.lock (hash_row c f (m.entry f.lock)).stores
stored_in m w f c Halted = stores_halted m w.cpu (halt_row c f (m.halted w.cpu)).stores
stored_in m w f c (KickOf q) = stores_kicked m q (kick_row c f (m.kicked q)).stores
stored_in m w f c RwWord = stores_rw m f.lock.index (rw_row m.mode c f (m.rw f.lock.index)).stores

-- the lock that a row may take or free: that on which its frame acts, and for a row of a reader or a
-- writer the lock of its operation
abbrev pub held_lock : Target → Frame → LockName
held_lock RwWord f = rw_name f.lock.index
held_lock _ f = f.lock

-- how its waiter holds that lock after the row
abbrev pub way_after : Target → Course → Option Manner → Option Manner
way_after RwWord o way = way_told o.tells way
way_after _ o way = way_led o.leads way

-- the world m, in which the row has stored, after its frame has gone on
abbrev pub course_on : World → Waiter → Frame → Target → Course → World
course_on m w f RwWord o =
    put_held (put_frame m w (Some (led f o.leads))) w (rw_name f.lock.index)
    (way_told o.tells (m.held w (rw_name f.lock.index)))
course_on m w f _ o = lead_on m w f o.leads

-- Every row is its store, and then its course.
abbrev pub RowIsLed : Type 0
RowIsLed = (m : World) (w : Waiter) (f : Frame) (c : Pc) (t : Target)
    → row_in_at m w f c t
    ≡ (course_on (stored_in m w f c t) w f t (course_in m w f c t), (course_in m w f c t).tells)

-- the lead gives the frame a node, or finds that none is left
abbrev pub enters : Lead → Bool
enters (Enters me c) = true
enters _ = false

-- n is the world m after a row of the frame f of w on t, with this course: the frame has gone on,
-- its waiter holds its lock as the course says, and all else is as the store left it
pub record RowDone (m n : World) (w : Waiter) (f : Frame) (c : Pc) (t : Target) (o : Course) : Type 0 where
  pub mode : n.mode ≡ m.mode
  pub turns : n.turns ≡ m.turns
  pub threshold : n.threshold ≡ m.threshold
  pub format : n.format ≡ m.format
  pub sockets : n.sockets ≡ m.sockets
  pub kind : n.kind ≡ m.kind
  pub frame : (u : Waiter)
      → n.frame u ≡ (if same_waiter u w then Some (led f o.leads) else m.frame u)
  pub held : (u : Waiter) (k : LockName)
      → n.held u k
      ≡ (if same_waiter u w && same_lock k (held_lock t f)
      then way_after t o (m.held w (held_lock t f)) else m.held u k)
  pub word : n.word ≡ (stored_in m w f c t).word
  pub rw : n.rw ≡ (stored_in m w f c t).rw
  pub node : enters o.leads ≡ false → n.node ≡ (stored_in m w f c t).node
  pub queued : (q : ℕ) → q ≢ w.cpu → n.queued q ≡ m.queued q
  pub entry : n.entry ≡ (stored_in m w f c t).entry
  pub halted : n.halted ≡ (stored_in m w f c t).halted
  pub kicked : n.kicked ≡ (stored_in m w f c t).kicked

-- Every row is done so.
abbrev pub RowIsDone : Type 0
RowIsDone = (m : World) (w : Waiter) (f : Frame) (c : Pc) (t : Target)
    → RowDone m (row_in_at m w f c t).0 w f c t (course_in m w f c t)

-- the row is none of the lock that halts processors, and none of a reader or a writer
pub record IsPlainRow (c : Pc) : Type 0 where
  pub awake : may_halt c ≡ false
  pub spin : is_rw_row c ≡ false

-- the place is a row of a release
abbrev pub is_release : Option Pc → Bool
is_release None = false
is_release (Some c) = is_ending_row c

-- No such row leads to a release.
abbrev pub RowIsCalm : Type 0
RowIsCalm = (m : World) (w : Waiter) (f : Frame) (c : Pc) → IsPlainRow c
    → (f.lock.wait ≡ true → IsThen f.then)
    → is_release (led f (course_in m w f c (target c f)).leads).place ≡ false

-- But for the entry no row of a spinlock gives a node.
abbrev pub NodeComesAtEntry : Type 0
NodeComesAtEntry = (m : World) (w : Waiter) (f : Frame) (c : Pc) → is_rw_row c ≡ false
    → (f.lock.wait ≡ true → IsThen f.then) → c ≢ G1
    → enters (course_in m w f c (target c f)).leads ≡ false
