-- Which registers a frame knows at which row, and to which family a row belongs.
use Rattle.std.specs.Prelude.{◌≡◌, ◌≢◌, ◌&&◌, not, Option, Some, None, Bool, true, false}
use Rattle.std.specs.Prelude.{is_some, ◌<◌}
use Rattle.lk_names.specs.declared.names.Mode.{Mode}
use Rattle.lk_word.specs.declared.spin_word.NodeName.{NodeName}
use Rattle.lk_rows.specs.declared.parts.Frame.{Frame}
use Rattle.lk_rows.specs.declared.parts.Pc.{Pc}
use Rattle.lk_rows.specs.declared.parts.Pc.TheVariants.{G2, G3, G4, G5, G6, G8, G10, G11, C2, C3}
use Rattle.lk_rows.specs.declared.parts.Pc.TheVariants.{C4, C5, C6, C9, C10, H1, H2, W1, W2, W3}
use Rattle.lk_rows.specs.declared.parts.Pc.TheVariants.{W4, W5, W6, W7, E4, E10, E11, E12, E15}
use Rattle.lk_rows.specs.declared.parts.Pc.TheVariants.{K1, K2, K3}
use Rattle.lk_rows.specs.declared.parts.Why.{Why}
use Rattle.lk_law.specs.Phase.{has_node}
use Rattle.lk_law.specs.Phase.Phase.{Idle}
use Rattle.lk_law.specs.Cna.{moves_aside}
use Rattle.lk_law.specs.Agree.{halts}
use Rattle.lk_law.specs.Families.{is_slow, chooses, may_halt, stays_awake}
use Rattle.lk_law.specs.Places.{phase_if, phase_of}
use Rattle.lk_rows.specs.declared.parts.Why.TheVariants as why

-- the row hands off to the next as it stands
abbrev pub hands_plainly : Pc → Bool
hands_plainly G10 = true
hands_plainly G11 = true
hands_plainly _ = false

-- a head has not heard of a secondary queue, or has found that there is none
abbrev pub is_unaware : Pc → Bool
is_unaware G2 = true
is_unaware G3 = true
is_unaware G4 = true
is_unaware G5 = true
is_unaware G6 = true
is_unaware G8 = true
is_unaware H1 = true
is_unaware H2 = true
is_unaware _ = false

-- a head needs the first node of the secondary queue
abbrev pub needs_second : Pc → Bool
needs_second C3 = true
needs_second C4 = true
needs_second C5 = true
needs_second C6 = true
needs_second C9 = true
needs_second C10 = true
needs_second _ = false

-- a head lets the secondary queue return, and moves nobody
abbrev pub returns : Pc → Why → Bool
returns C3 why.Flush = true
returns C3 why.Promotion = true
returns C9 _ = true
returns C10 _ = true
returns _ _ = false

-- a head knows the first, and the last, of those that it has passed over; and the last of the
-- secondary queue

-- the head knows the first of those that it has passed over
abbrev pub knows_first : Pc → Why → Bool
knows_first C2 _ = true
knows_first C3 why.Append = true
knows_first C3 why.Flush = true
knows_first C4 _ = true
knows_first C9 _ = true
knows_first _ _ = false

-- it knows the last of them
abbrev pub knows_last : Pc → Why → Bool
knows_last C2 _ = true
knows_last C3 why.Append = true
knows_last C4 _ = true
knows_last C5 _ = true
knows_last C6 _ = true
knows_last _ _ = false

-- it knows the last of the secondary queue
abbrev pub knows_tail : Pc → Bool
knows_tail C10 = true
knows_tail _ = false

-- The row does nothing for a spinlock: it is none of the slow path, of a choice, of the lock that
-- halts processors, or of one that halts none.
abbrev pub is_quiet_row : Pc → Bool
is_quiet_row c = not (chooses c) && not (may_halt c) && not (stays_awake c) && not (hands_plainly c)
    && not (is_unaware c)

-- at this place a frame does nothing for a spinlock, and needs no register for it
pub record IsQuiet (c : Option Pc) : Type 0 where
  pub phase : (b : Bool) (prev y : NodeName) → phase_if c b prev y ≡ Idle
  pub fast : is_slow c ≡ false
  pub unlinked : c ≢ Some G5
  pub unhanded : c ≢ Some G11
  pub row : (d : Pc) → c ≡ Some d → is_quiet_row d ≡ true

-- a head that sleeps, or is about to, is entered into the hash and knows it
abbrev pub needs_hash : Pc → Bool
needs_hash E10 = true
needs_hash E11 = true
needs_hash E12 = true
needs_hash _ = false

-- a head, or a holder that was one, knows the node behind its own
abbrev pub names_next : Pc → Bool
names_next E15 = true
names_next K1 = true
names_next K2 = true
names_next K3 = true
names_next _ = false

-- a waiter knows the node before its own, by whose state it judges whether to halt
abbrev pub sees_peer : Pc → Bool
sees_peer W1 = true
sees_peer W2 = true
sees_peer W3 = true
sees_peer W4 = true
sees_peer W5 = true
sees_peer W6 = true
sees_peer W7 = true
sees_peer _ = false

-- a frame has turns left
abbrev pub counts_turns : Pc → Bool
counts_turns W1 = true
counts_turns W2 = true
counts_turns E4 = true
counts_turns _ = false

-- The row is one of its family; and the frame knows of the secondary queue, and of the waiters that
-- it moves, what its row asks; and where processors halt, whether it is in the hash, and to whom it
-- hands off.
pub record ChoiceFits (mode : Mode) (f : Frame) : Type 0 where
  pub choice : (c : Pc) → f.place ≡ Some c → chooses c ≡ true → moves_aside mode ≡ true
  pub plainly : (c : Pc) → f.place ≡ Some c → hands_plainly c ≡ true → moves_aside mode ≡ false
  pub halting : (c : Pc) → f.place ≡ Some c → may_halt c ≡ true → halts mode ≡ true
  pub waking : (c : Pc) → f.place ≡ Some c → stays_awake c ≡ true → halts mode ≡ false
  pub hashed : (c : Pc) → f.place ≡ Some c → needs_hash c ≡ true → f.hashed ≡ true
  pub named : (c : Pc) → f.place ≡ Some c → names_next c ≡ true → is_some f.y ≡ true
  pub peer : (c : Pc) → f.place ≡ Some c → sees_peer c ≡ true → is_some f.prev ≡ true
  pub turns : (c : Pc) → f.place ≡ Some c → counts_turns c ≡ true → 0 < f.left
  pub unaware : (c : Pc) → f.place ≡ Some c → is_unaware c ≡ true → f.second ≡ None
  pub second : (c : Pc) → f.place ≡ Some c → needs_second c ≡ true → is_some f.second ≡ true
  pub nobody : (c : Pc) → f.place ≡ Some c → returns c f.why ≡ true → f.k ≡ 0
  pub first : (c : Pc) → f.place ≡ Some c → knows_first c f.why ≡ true → is_some f.a ≡ true
  pub last : (c : Pc) → f.place ≡ Some c → knows_last c f.why ≡ true → is_some f.b ≡ true
  pub tail : (c : Pc) → f.place ≡ Some c → knows_tail c ≡ true → is_some f.t ≡ true

-- what is true of the registers of a frame: it has a node of its own exactly in the phases that
-- have one, and else names none; where it links it knows the node before it, and where it hands off
-- the node behind it; and what it knows of its choice fits
pub record RegistersFit (mode : Mode) (f : Frame) : Type 0 where
  pub me : has_node (phase_of f) ≡ true → is_some f.me ≡ true
  pub bare : has_node (phase_of f) ≡ false → f.me ≡ None
  pub met : f.place ≡ Some G5 → is_some f.prev ≡ true
  pub next : f.place ≡ Some G11 → is_some f.y ≡ true
  pub choice : ChoiceFits mode f
