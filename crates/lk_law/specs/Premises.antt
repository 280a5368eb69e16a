-- What the laws of rows suppose of the acting frame and its world, and what an end of a halt and an
-- interrupt make of a world.
use Rattle.std.specs.Prelude.{◌≡◌, ◌⊎◌, ◌<◌, ◌≤◌, ℕ, Option, Some, None, true, false, ◌+◌, if◌then◌else◌}
use Rattle.lk_names.specs.Lawful.{Rules}
use Rattle.lk_names.specs.declared.names.Waiter.{Waiter}
use Rattle.lk_word.specs.declared.spin_word.NodeName.{NodeName}
use Rattle.lk_rows.specs.declared.parts.Frame.{Frame}
use Rattle.lk_rows.specs.declared.parts.Pc.{Pc}
use Rattle.lk_rows.specs.declared.parts.Pc.TheVariants.{R4, Wr2}
use Rattle.lk_rows.specs.Moves.{is_node}
use Rattle.lk_rows.specs.Row.{Tell, Passes}
use Rattle.lk_rows.specs.Acts.{after_halt}
use Rattle.lk_law.specs.Pv.{at_halt}
use Rattle.lk_law.specs.Agree.{halts}
use Rattle.lk_law.specs.World.{World}
use Rattle.lk_law.specs.Steps.{put_frame, put_halted}
use Rattle.lk_law.specs.Places.{post_of}

-- no context of the processor is above the sixth
abbrev pub IsShallow : World → ℕ → Type 0
IsShallow m p = (c : ℕ) → 6 ≤ c → m.frame (record { cpu = p; ctx = c }) ≡ None

-- w is the newest frame of its processor, and one of six; nor has another processor more than six
pub record IsNewest (m : World) (w : Waiter) : Type 0 where
  pub above : (c : ℕ) → w.ctx < c → m.frame (record { cpu = w.cpu; ctx = c }) ≡ None
  pub low : w.ctx < 6
  pub shallow : (p : ℕ) → IsShallow m p

-- the frame of this waiter has the node as its own
abbrev pub Uses : World → Waiter → NodeName → Type 0
Uses m u n = (f : Frame) × (m.frame u ≡ Some f) × (is_node f.me n ≡ true)

-- where the lead goes on, it goes to the waiter that uses the named node
abbrev pub GoesTo : World → Waiter → Tell → Type 0
GoesTo m to (Passes n k) = Uses m to n
GoesTo m to _ = Unit {0}

-- the world follows these rules
pub record FollowsRules (m : World) (rules : Rules) : Type 0 where
  pub format : rules.format ≡ m.format
  pub mode : rules.mode ≡ m.mode
  pub sockets : rules.sockets ≡ m.sockets
  pub threshold : rules.threshold ≡ m.threshold

-- a place to which a frame goes that has taken a wait lock
abbrev pub IsThen : Option Pc → Type 0
IsThen c = (c ≡ Some R4) ⊎ (c ≡ Some Wr2)

-- there is no frame, or it stands at no row and has no node
abbrev pub HasNoPlace : Option Frame → Type 0
HasNoPlace None = Unit {0}
HasNoPlace (Some f) = (f.place ≡ None) × (f.me ≡ None)

-- no frame of the processor has halted it, or is about to; where no processor halts this is true of
-- all
abbrev pub HasNoSleeper : World → ℕ → Type 0
HasNoSleeper m p = halts m.mode ≡ true → (u : Waiter) (f : Frame) → u.cpu ≡ p → m.frame u ≡ Some f
    → at_halt (post_of f) ≡ false

-- the halt of the waiter's processor ends, and its frame goes on behind it
abbrev pub roused : World → Waiter → Frame → World
roused m w f =
    put_halted (put_frame m w (Some (record f { place = after_halt f.place }))) w.cpu false

-- An interrupt as a whole: a halt of the processor ends, and a frame without a place comes on top
-- of the newest.
abbrev pub above : Waiter → Waiter
above w = record { cpu = w.cpu; ctx = w.ctx + 1 }

-- the world after an interrupt: the halt of the processor ends, if it has halted, and the frame g
-- comes on top
abbrev pub world_interrupted : World → Waiter → Frame → Frame → World
world_interrupted m w f g =
    put_frame (if m.halted w.cpu then roused m w f else m) (above w) (Some g)
