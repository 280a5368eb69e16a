-- Where processors halt: how many rows are left of an operation, and how far a frame is from the end of a turn.
use Rattle.std.specs.Prelude.{◌≡◌, ◌≢◌, ◌⊎◌, ◌<◌, ◌≤◌, ◌+◌, ◌*◌, is_some, ℕ, Option, Some, None, Bool, true, false, if◌then◌else◌}
use Rattle.lk_names.specs.History.{LockHistory}
use Rattle.lk_names.specs.declared.names.LockName.{LockName}
use Rattle.lk_names.specs.declared.names.Mode.{Mode}
use Rattle.lk_names.specs.declared.names.Waiter.{Waiter}
use Rattle.lk_word.specs.declared.spin_word.Locked.{Locked}
use Rattle.lk_word.specs.declared.spin_word.Locked.TheVariants.{Free, Held, Slow}
use Rattle.lk_word.specs.declared.spin_word.NodeName.{NodeName}
use Rattle.lk_rows.specs.declared.parts.Frame.{Frame}
use Rattle.lk_rows.specs.declared.parts.Pc.{Pc}
use Rattle.lk_rows.specs.declared.parts.Pc.TheVariants.{F1, T1, T2, G1, G4, G5, H1, H2, W1, W2, W3, W4, W5, W6, W7}
use Rattle.lk_rows.specs.declared.parts.Pc.TheVariants.{E1, E2, E3, E4, E5, E6, E7, E8, E9, E10, E11, E12, E13, E14, E15}
use Rattle.lk_rows.specs.declared.parts.Pc.TheVariants.{K1, K2, K3, U2, U3, U4, U5, R1, R2, R3, R4, R5, Wr1, Wr2, Wr3, Wr4}
use Rattle.lk_rows.specs.declared.parts.Pc.TheVariants.{Wr5, Wr6, Y1, Y2, Y3, Y4, Y5, Z1, Z2}
use Rattle.lk_rows.specs.declared.setup.Op.{Op}
use Rattle.lk_rows.specs.Acts.{stands_halting}
use Rattle.lk_rows.specs.Moves.{node_of, started}
use Rattle.lk_rows.specs.rows.Pv.{is_set}
use Rattle.lk_rows.specs.rows.Rw.{is_cleared}
use Rattle.lk_rows.specs.rows.Spin.{is_unlocked}
use Rattle.lk_rows.specs.TopRow.{target}
use Rattle.lk_law.specs.Agree.{halts}
use Rattle.lk_law.specs.Families.{is_halting_row}
use Rattle.lk_law.specs.Leads.{course_in, stored_in}
use Rattle.lk_law.specs.Premises.{IsThen}
use Rattle.lk_law.specs.SpinWorld.{IsSoundSpinWorld}
use Rattle.lk_law.specs.Steps.{led}
use Rattle.lk_law.specs.World.{World}
use Rattle.lk_waits.specs.Halting.{IsRobbed}
use Rattle.lk_progress.specs.Measure.{goes}

-- How many rows follow at most from this one to the end of its part of an operation. The rows of a turn count alike:
-- those of a waiter that looks and steals, of one that spins and halts behind another, and of a head that spins and
-- halts.
abbrev pub halting_rows : Pc → ℕ
halting_rows F1 = 18
halting_rows G1 = 17
halting_rows H1 = 16
halting_rows H2 = 16
halting_rows G4 = 15
halting_rows G5 = 14
halting_rows W1 = 13
halting_rows W2 = 13
halting_rows W3 = 13
halting_rows W4 = 13
halting_rows W5 = 13
halting_rows W6 = 13
halting_rows W7 = 13
halting_rows E1 = 12
halting_rows E6 = 10
halting_rows E7 = 9
halting_rows E8 = 8
halting_rows E9 = 7
halting_rows E2 = 7
halting_rows E3 = 7
halting_rows E4 = 7
halting_rows E5 = 7
halting_rows E10 = 7
halting_rows E11 = 7
halting_rows E12 = 7
halting_rows E13 = 6
halting_rows E14 = 5
halting_rows E15 = 4
halting_rows K1 = 3
halting_rows K2 = 2
halting_rows K3 = 1
halting_rows T1 = 2
halting_rows T2 = 1
halting_rows U2 = 4
halting_rows U3 = 3
halting_rows U4 = 2
halting_rows U5 = 1
halting_rows R1 = 26
halting_rows R2 = 1
halting_rows R3 = 25
halting_rows R4 = 6
halting_rows R5 = 5
halting_rows Wr1 = 27
halting_rows Wr2 = 8
halting_rows Wr3 = 7
halting_rows Wr4 = 6
halting_rows Wr5 = 5
halting_rows Wr6 = 5
halting_rows Y1 = 3
halting_rows Y2 = 2
halting_rows Y3 = 1
halting_rows Y4 = 2
halting_rows Y5 = 1
halting_rows Z1 = 1
halting_rows Z2 = 1
halting_rows _ = 0

-- a head that spins, and has not entered its lock into the hash, is still to do so: once
abbrev pub rows_to_hash : Pc → Bool → ℕ
rows_to_hash E2 hashed = if hashed then 0 else 4
rows_to_hash E3 hashed = if hashed then 0 else 4
rows_to_hash E4 hashed = if hashed then 0 else 4
rows_to_hash E5 hashed = if hashed then 0 else 4
rows_to_hash _ hashed = 0

abbrev pub halting_rows_if : Option Pc → ℕ
halting_rows_if None = 0
halting_rows_if (Some c) = halting_rows c

-- the row is on the way to a spinlock or a wait lock
abbrev pub is_on_the_way : Pc → Bool
is_on_the_way T1 = true
is_on_the_way T2 = true
is_on_the_way c = is_halting_row c

-- the rows left of a frame at a place: on the way to a wait lock those behind it are still to come
abbrev pub halting_left_at : Option Pc → Frame → ℕ
halting_left_at None f = 0
halting_left_at (Some c) f = halting_rows c + rows_to_hash c f.hashed
    + (if f.lock.wait then (if is_on_the_way c then halting_rows_if f.then else 0) else 0)

abbrev pub halting_left : Frame → ℕ
halting_left f = halting_left_at f.place f

-- the flag of the frame's own node is set: it leads the queue, or is about to learn that it does
abbrev pub is_flagged : World → Frame → Bool
is_flagged m f = is_set (m.node (node_of f.me)).flag

-- what a waiter has learned of the tail is no more so
abbrev pub unlike : Bool → Bool → ℕ
unlike true true = 0
unlike false false = 0
unlike a b = 1

-- How far a head is from the end of its turn, by whether it stands in the hash and by the byte. If it does, and
-- another holds a byte that is not slow, it goes around, and no row brings it nearer.
abbrev pub head_turn : (hashed : Bool) → Locked → (free spins : ℕ) → ℕ
head_turn true Held free spins = 0
head_turn true Free free spins = free
head_turn true Slow free spins = spins
head_turn false b free spins = spins

-- How far a frame is from the end of its turn, as newest of its waiter: from the lock, from a halt, or from a row that
-- leaves fewer rows. Each turn of a spin is two rows behind another, and one at the head.
abbrev pub halting_turn_at : World → Waiter → Frame → Pc → ℕ
halting_turn_at m w f H1 = 1 + unlike f.tailed (is_some (m.word f.lock).tail)
halting_turn_at m w f H2 = if is_unlocked (m.word f.lock).locked then 0 else 3
halting_turn_at m w f W1 = if is_flagged m f then 1 else 2 * f.left + 8
halting_turn_at m w f W2 = if is_flagged m f then 5 else 2 * f.left + 7
halting_turn_at m w f W3 = if is_flagged m f then 4 else 6
halting_turn_at m w f W4 = if is_flagged m f then 3 else 5
halting_turn_at m w f W5 = if is_flagged m f then 3 else 4
halting_turn_at m w f W6 = if m.halted w.cpu then 0 else 2
halting_turn_at m w f W7 = if is_flagged m f then 2 else 2 * m.turns + 9
halting_turn_at m w f E2 = head_turn f.hashed (m.word f.lock).locked 3 (m.turns + 6)
halting_turn_at m w f E3 = head_turn f.hashed (m.word f.lock).locked 2 (m.turns + 5)
halting_turn_at m w f E4 = head_turn f.hashed (m.word f.lock).locked 1 (f.left + 4)
halting_turn_at m w f E5 = head_turn f.hashed (m.word f.lock).locked 6 4
halting_turn_at m w f E10 = head_turn f.hashed (m.word f.lock).locked 5 3
halting_turn_at m w f E11 = head_turn f.hashed (m.word f.lock).locked 4 2
halting_turn_at m w f E12 = if m.halted w.cpu then 0 else 1
halting_turn_at m w f Wr5 = 1
halting_turn_at m w f Wr6 = if is_cleared (m.rw f.lock.index) then 0 else 2
halting_turn_at m w f _ = 0

abbrev pub halting_turn_if : World → Waiter → Frame → Option Pc → ℕ
halting_turn_if m w f None = 0
halting_turn_if m w f (Some c) = halting_turn_at m w f c

abbrev pub halting_turn_of : World → Waiter → Option Frame → ℕ
halting_turn_of m w None = 0
halting_turn_of m w (Some f) = halting_turn_if m w f f.place

-- the longest turn, by the spin bound
abbrev pub longest_turn : ℕ → ℕ
longest_turn spins = 2 * spins + 9

-- n is m after a store on which no other frame's turn depends: bytes, tails, flags, reader-writer locks and kicks are
-- as they were, and a processor that had halted has
pub record KeepsTurns (m n : World) : Type 0 where
  pub turns : n.turns ≡ m.turns
  pub byte : (l : LockName) → (n.word l).locked ≡ (m.word l).locked
  pub tail : (l : LockName) → (n.word l).tail ≡ (m.word l).tail
  pub rw : (i : ℕ) → n.rw i ≡ m.rw i
  pub flag : (k : NodeName) → (n.node k).flag ≡ (m.node k).flag
  pub halted : (p : ℕ) → m.halted p ≡ true → n.halted p ≡ true
  pub kicked : (p : ℕ) → n.kicked p ≡ m.kicked p

-- The row leads its frame on in its turn: it leaves as many rows as there were, the end of the turn is nearer, and all
-- other turns are as they were.
pub record HaltingTurnGoesOn (m : World) (w : Waiter) (f : Frame) (c : Pc) : Type 0 where
  pub keeps : KeepsTurns m (stored_in m w f c (target c f))
  pub away : goes (course_in m w f c (target c f)).leads ≡ true
  pub left : halting_left (led f (course_in m w f c (target c f)).leads) ≡ halting_left f
  pub nearer : halting_turn_of (stored_in m w f c (target c f)) w (Some (led f (course_in m w f c (target c f)).leads))
      < halting_turn_of m w (Some f)

-- The row is that of a head which goes around: it leaves all numbers as they were.
pub record HaltingTurnStays (m : World) (w : Waiter) (f : Frame) (c : Pc) : Type 0 where
  pub robbed : IsRobbed m f c
  pub keeps : KeepsTurns m (stored_in m w f c (target c f))
  pub halted : (p : ℕ) → (stored_in m w f c (target c f)).halted p ≡ m.halted p
  pub pending : (l : LockName) → l ≢ f.lock → ((stored_in m w f c (target c f)).word l).pending ≡ (m.word l).pending
  pub links : (k : NodeName) → ((stored_in m w f c (target c f)).node k).next ≡ (m.node k).next
  pub away : goes (course_in m w f c (target c f)).leads ≡ true
  pub left : halting_left (led f (course_in m w f c (target c f)).leads) ≡ halting_left f
  pub same : halting_turn_of (stored_in m w f c (target c f)) w (Some (led f (course_in m w f c (target c f)).leads))
      ≡ halting_turn_of m w (Some f)

-- Where processors halt, each row of one that has not halted leaves its frame as it was, or leaves it fewer rows than
-- it had, or leads it on in its turn; or it is that of a head which goes around.
abbrev pub HaltingRowDescends : Pc → Type 0
HaltingRowDescends c = (m : World) (hs : LockName → LockHistory) (w : Waiter) (f : Frame)
    → IsSoundSpinWorld m hs → halts m.mode ≡ true → m.frame w ≡ Some f → f.place ≡ Some c
    → (f.lock.wait ≡ true → IsThen f.then) → m.halted w.cpu ≡ false
    → ((stands_halting (Some c) ≡ false) × (led f (course_in m w f c (target c f)).leads ≡ f))
    ⊎ (halting_left (led f (course_in m w f c (target c f)).leads) < halting_left f)
    ⊎ HaltingTurnGoesOn m w f c
    ⊎ HaltingTurnStays m w f c

-- An operation begins with at most 27 rows.
abbrev pub HaltingBeginIsShort : Type 0
HaltingBeginIsShort = (mode : Mode) (f : Frame) (o : Op) → halts mode ≡ true → halting_left (started mode f o) < 28

-- No row leaves a frame more turns of a spin than the spin bound says.
abbrev pub RowKeepsSpins : Pc → Type 0
RowKeepsSpins c = (m : World) (hs : LockName → LockHistory) (w : Waiter) (f : Frame)
    → IsSoundSpinWorld m hs → halts m.mode ≡ true → m.frame w ≡ Some f → f.place ≡ Some c
    → f.left ≤ m.turns → (led f (course_in m w f c (target c f)).leads).left ≤ m.turns
