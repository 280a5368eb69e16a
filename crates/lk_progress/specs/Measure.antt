-- How many rows are left of an operation: a number that every row lowers which leads a frame on, but
-- for the turns of a waiter that polls a word and swaps it.
use Rattle.std.specs.Prelude.{◌≡◌, ◌⊎◌, ◌<◌, ◌+◌, ◌-◌, ◌*◌, is_some, length, ℕ, Option, Some, None, Bool, true, false, if◌then◌else◌}
use Rattle.lk_names.specs.declared.names.Waiter.{Waiter}
use Rattle.lk_names.specs.declared.names.LockName.{LockName}
use Rattle.lk_rows.specs.declared.parts.Frame.{Frame}
use Rattle.lk_rows.specs.declared.parts.Pc.{Pc}
use Rattle.lk_rows.specs.declared.parts.Pc.TheVariants.{F1, T1, T2, U1, V1, V2, P0, P1, P2, P3}
use Rattle.lk_rows.specs.declared.parts.Pc.TheVariants.{P4, G1, G2, G3, G4, G5, G6, G7, G8, G9}
use Rattle.lk_rows.specs.declared.parts.Pc.TheVariants.{G10, G11, N1, N2}
use Rattle.lk_rows.specs.declared.parts.Pc.TheVariants.{R1, R2, R3, R4, R5, Wr1, Wr2, Wr3, Wr4}
use Rattle.lk_rows.specs.declared.parts.Pc.TheVariants.{Wr5, Wr6, Y1, Y2, Y3, Y4, Y5, Z1, Z2}
use Rattle.lk_rows.specs.declared.setup.Op.{Op}
use Rattle.lk_rows.specs.Moves.{started}
use Rattle.lk_rows.specs.rows.Spin.{is_free}
use Rattle.lk_rows.specs.rows.Rw.{is_cleared}
use Rattle.lk_rows.specs.TopRow.{target}
use Rattle.lk_law.specs.Agree.{halts}
use Rattle.lk_law.specs.Cna.{moves_aside}
use Rattle.lk_law.specs.Leads.{course_in, stored_in}
use Rattle.lk_rows.specs.Row.{Lead, Goes}
use Rattle.lk_law.specs.Families.{chooses}
use Rattle.lk_waits.specs.Waits.{IsBarred}
use Rattle.lk_names.specs.declared.names.Mode.{Mode}
use Rattle.lk_rows.specs.declared.parts.Why.{Why}
use Rattle.lk_rows.specs.declared.parts.Why.TheVariants as why
use Rattle.lk_rows.specs.Moves.{node_of}
use Rattle.lk_rows.specs.rows.Cna.{is_last}
use Rattle.lk_rows.specs.declared.parts.Pc.TheVariants.{C1, C2, C3, C4, C5, C6, C7, C8, C9, C10}
use Rattle.lk_law.specs.Premises.{IsThen}
use Rattle.lk_law.specs.SpinWorld.{IsSoundSpinWorld}
use Rattle.lk_law.specs.Steps.{led}
use Rattle.lk_law.specs.World.{World}
use Rattle.lk_names.specs.History.{LockHistory}

-- How many rows follow at most from this one to the end of its part of an operation. A poll and the swap
-- behind it count alike, since the swap may fail and lead back.
abbrev pub rows_left : Pc → ℕ
rows_left F1 = 15
rows_left P0 = 14
rows_left P1 = 13
rows_left P2 = 12
rows_left G1 = 11
rows_left G2 = 10
rows_left G3 = 9
rows_left G4 = 8
rows_left G5 = 7
rows_left G6 = 6
rows_left G7 = 5
rows_left G8 = 4
rows_left G9 = 3
rows_left G10 = 2
rows_left G11 = 1
rows_left P3 = 2
rows_left P4 = 1
rows_left T1 = 2
rows_left T2 = 1
rows_left U1 = 1
rows_left V1 = 2
rows_left V2 = 2
rows_left N1 = 2
rows_left N2 = 2
rows_left R1 = 20
rows_left R2 = 1
rows_left R3 = 19
rows_left R4 = 3
rows_left R5 = 2
rows_left Wr1 = 22
rows_left Wr2 = 6
rows_left Wr3 = 5
rows_left Wr4 = 4
rows_left Wr5 = 3
rows_left Wr6 = 3
rows_left Y1 = 3
rows_left Y2 = 2
rows_left Y3 = 1
rows_left Y4 = 2
rows_left Y5 = 1
rows_left Z1 = 1
rows_left Z2 = 1
rows_left _ = 0

-- the row is on the way to a spinlock or a wait lock
abbrev pub is_taking : Pc → Bool
is_taking F1 = true
is_taking P0 = true
is_taking P1 = true
is_taking P2 = true
is_taking P3 = true
is_taking P4 = true
is_taking G1 = true
is_taking G2 = true
is_taking G3 = true
is_taking G4 = true
is_taking G5 = true
is_taking G6 = true
is_taking G7 = true
is_taking G8 = true
is_taking G9 = true
is_taking G10 = true
is_taking G11 = true
is_taking C1 = true
is_taking C2 = true
is_taking C3 = true
is_taking C4 = true
is_taking C5 = true
is_taking C6 = true
is_taking C7 = true
is_taking C8 = true
is_taking C9 = true
is_taking C10 = true
is_taking V1 = true
is_taking V2 = true
is_taking N1 = true
is_taking N2 = true
is_taking T1 = true
is_taking T2 = true
is_taking _ = false

abbrev pub rows_left_if : Option Pc → ℕ
rows_left_if None = 0
rows_left_if (Some c) = rows_left c

-- the rows left of a frame at a place: on the way to a wait lock those behind it are still to come
abbrev pub left_at : Option Pc → Frame → ℕ
left_at None f = 0
left_at (Some c) f = rows_left c + (if f.lock.wait then (if is_taking c then rows_left_if f.then else 0) else 0)

abbrev pub left_of : Frame → ℕ
left_of f = left_at f.place f

-- Of a head that chooses to whom it hands off, how many rows follow at most to the end of the choice, but for
-- those in which it turns; and on the way to the choice all of them.
abbrev pub choice_why : Why → ℕ
choice_why why.Append = 6
choice_why why.Flush = 4
choice_why why.Promotion = 8

abbrev pub choice_at : Pc → Frame → ℕ
choice_at C1 f = 8
choice_at C2 f = 7
choice_at C3 f = choice_why f.why
choice_at C4 f = 5
choice_at C5 f = 4
choice_at C6 f = 3
choice_at C7 f = 2
choice_at C8 f = 1
choice_at C9 f = 3
choice_at C10 f = 8
choice_at F1 f = 8
choice_at P0 f = 8
choice_at P1 f = 8
choice_at P2 f = 8
choice_at G1 f = 8
choice_at G2 f = 8
choice_at G3 f = 8
choice_at G4 f = 8
choice_at G5 f = 8
choice_at G6 f = 8
choice_at G7 f = 8
choice_at G8 f = 8
choice_at G9 f = 8
choice_at R1 f = 8
choice_at R3 f = 8
choice_at Wr1 f = 8
choice_at _ f = 0

abbrev pub choice_if : Option Pc → Frame → ℕ
choice_if None f = 0
choice_if (Some c) f = choice_at c f

-- the rows left of a frame in a family, with those of a choice where heads choose
abbrev pub left_in : Mode → Frame → ℕ
left_in mode f = left_of f + (if moves_aside mode then choice_if f.place f else 0)

-- more rows than are left of any operation
abbrev pub most_rows : Mode → ℕ
most_rows mode = if moves_aside mode then 31 else 23

-- how many contexts there are
abbrev pub contexts : World → ℕ
contexts m = 6 * length m.sockets

-- somebody is linked behind the frame's own node
abbrev pub is_linked : World → Frame → Bool
is_linked m f = is_some (m.node (node_of f.me)).next

-- The row polls a word that is swapped next, or swaps it; or it is one of a head that looks for its successor, or
-- goes on to the next waiter behind it.
abbrev pub is_turn : Pc → Bool
is_turn V1 = true
is_turn V2 = true
is_turn N1 = true
is_turn N2 = true
is_turn Wr5 = true
is_turn Wr6 = true
is_turn C1 = true
is_turn C2 = true
is_turn C3 = true
is_turn C10 = true
is_turn _ = false

-- How far a head is from the end of a turn in which it looks for its successor, C10, C1, C3. A head that is
-- barred turns on the spot, and is as far from it as ever.
abbrev pub look_at : (linked last second : Bool) → ℕ
look_at true last second = 0
look_at false true true = 2
look_at false _ _ = 3

abbrev pub seek_at : (linked last : Bool) → ℕ
seek_at true last = 2
seek_at false true = 1
seek_at false false = 3

abbrev pub swing_at : (linked last : Bool) → ℕ
swing_at true last = 1
swing_at false true = 0
swing_at false false = 3

-- only a head that looks for the last of the secondary queue for a promotion is in such a turn
abbrev pub promotion_at : Why → ℕ → ℕ
promotion_at why.Promotion n = n
promotion_at _ n = 0

-- How far a frame is from the end of its turn. A swap that is going to fail, since another came in between,
-- is two rows from it: itself, and the poll to which it leads back. A head that passes over waiters has at most
-- as many before it as there are contexts.
abbrev pub turn_at : World → Frame → Pc → ℕ
turn_at m f V1 = 1
turn_at m f V2 = if is_free (m.word f.lock) then 0 else 2
turn_at m f N1 = 1
turn_at m f N2 = if is_free (m.word f.lock) then 0 else 2
turn_at m f Wr5 = 1
turn_at m f Wr6 = if is_cleared (m.rw f.lock.index) then 0 else 2
turn_at m f C1 = look_at (is_linked m f) (is_last f (m.word f.lock)) (is_some f.second)
turn_at m f C2 = contexts m - f.k
turn_at m f C3 = promotion_at f.why (seek_at (is_linked m f) (is_last f (m.word f.lock)))
turn_at m f C10 = swing_at (is_linked m f) (is_last f (m.word f.lock))
turn_at m f _ = 0

abbrev pub turn_if : World → Frame → Option Pc → ℕ
turn_if m f None = 0
turn_if m f (Some c) = turn_at m f c

abbrev pub turn_of : World → Option Frame → ℕ
turn_of m None = 0
turn_of m (Some f) = turn_if m f f.place

-- the lead takes the frame to another row, and changes nothing else
abbrev pub goes : Lead → Bool
goes (Goes c cs) = true
goes _ = false

-- The row stores nothing, and leads its frame on in its turn: it leaves as many rows as there were, and the
-- end of the turn is nearer.
pub record TurnGoesOn (m : World) (w : Waiter) (f : Frame) (c : Pc) : Type 0 where
  pub turn : is_turn c ≡ true
  pub stores : stored_in m w f c (target c f) ≡ m
  pub away : goes (course_in m w f c (target c f)).leads ≡ true
  pub left : left_in m.mode (led f (course_in m w f c (target c f)).leads) ≡ left_in m.mode f
  pub nearer : turn_of m (Some (led f (course_in m w f c (target c f)).leads)) < turn_of m (Some f)

-- The row is that of a head which turns on the spot: it stores nothing, and leaves all numbers as they were.
pub record TurnStays (m : World) (w : Waiter) (f : Frame) (c : Pc) : Type 0 where
  pub barred : IsBarred m f c
  pub stores : stored_in m w f c (target c f) ≡ m
  pub away : goes (course_in m w f c (target c f)).leads ≡ true
  pub left : left_in m.mode (led f (course_in m w f c (target c f)).leads) ≡ left_in m.mode f
  pub same : turn_of m (Some (led f (course_in m w f c (target c f)).leads)) ≡ turn_of m (Some f)

-- each frame is one of a processor that is there, and of its six
abbrev pub AreContexts : World → Type 0
AreContexts m = (u : Waiter) (f : Frame) → m.frame u ≡ Some f → (u.cpu < length m.sockets) × (u.ctx < 6)

-- Where no processor halts, each row leaves its frame where it was, or leaves it fewer rows than it had, or leads
-- it on in its turn; or it is that of a head which turns on the spot.
abbrev pub RowDescends : Pc → Type 0
RowDescends c = (m : World) (hs : LockName → LockHistory) (w : Waiter) (f : Frame)
    → IsSoundSpinWorld m hs → AreContexts m → halts m.mode ≡ false
    → m.frame w ≡ Some f → f.place ≡ Some c → (f.lock.wait ≡ true → IsThen f.then)
    → (((led f (course_in m w f c (target c f)).leads).place ≡ Some c) × (chooses c ≡ false))
    ⊎ (left_in m.mode (led f (course_in m w f c (target c f)).leads) < left_in m.mode f)
    ⊎ TurnGoesOn m w f c
    ⊎ TurnStays m w f c

-- An operation begins with at most 22 rows, and 8 where heads choose.
abbrev pub BeginIsShort : Type 0
BeginIsShort = (m : World) (f : Frame) (o : Op) → halts m.mode ≡ false
    → left_in m.mode (started m.mode f o) < most_rows m.mode
