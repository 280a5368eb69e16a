-- What the frame of a call has that waits in a queue, or leads it.
use Rattle.std.specs.Prelude.{◌≡◌, Option, Some, None}
use Rattle.lk_word.specs.declared.spin_word.NodeName.{NodeName}
use Rattle.lk_rows.specs.declared.parts.Frame.{Frame}
use Rattle.lk_rows.specs.declared.parts.Why.TheVariants as why

-- its own node, and the first of the secondary queue, if it knows one
pub record Fronts (own : NodeName) (aside : Option NodeName) (f : Frame) : Type 0 where
  pub me : f.me ≡ Some own
  pub second : f.second ≡ aside

-- a waiter that is not the head yet has heard of no secondary queue
abbrev pub Owns : NodeName → Frame → Type 0
Owns own f = Fronts own None f

-- and the node before it
pub record Follows (own before : NodeName) (f : Frame) : Type 0 where
  pub owns : Owns own f
  pub prev : f.prev ≡ Some before

-- and its successor
pub record Precedes (own : NodeName) (aside : Option NodeName) (behind : NodeName) (f : Frame)
    : Type 0 where
  pub fronts : Fronts own aside f
  pub next : f.y ≡ Some behind

-- and the first and the last of those that it has passed over
pub record Skips (own : NodeName) (aside : Option NodeName) (a b : NodeName) (f : Frame) : Type 0 where
  pub fronts : Fronts own aside f
  pub first : f.a ≡ Some a
  pub last : f.b ≡ Some b

-- the same, and its successor: those passed over go behind the secondary queue
pub record Appends (own first a b y : NodeName) (f : Frame) : Type 0 where
  pub skips : Skips own (Some first) a b f
  pub next : f.y ≡ Some y
  pub why_is : f.why ≡ why.Append

-- and the last of the secondary queue
pub record Ties (own first a b y t : NodeName) (f : Frame) : Type 0 where
  pub fronts : Fronts own (Some first) f
  pub a_is : f.a ≡ Some a
  pub b_is : f.b ≡ Some b
  pub next : f.y ≡ Some y
  pub tail : f.t ≡ Some t

-- those that it has passed over end with b, and y is its successor
pub record Parts (own first b y : NodeName) (f : Frame) : Type 0 where
  pub fronts : Fronts own (Some first) f
  pub last : f.b ≡ Some b
  pub next : f.y ≡ Some y

-- the secondary queue is to return before the node a
pub record Flushes (own first a : NodeName) (f : Frame) : Type 0 where
  pub fronts : Fronts own (Some first) f
  pub a_is : f.a ≡ Some a
  pub why_is : f.why ≡ why.Flush

-- and its last has the node t
pub record Returns (own first a t : NodeName) (f : Frame) : Type 0 where
  pub fronts : Fronts own (Some first) f
  pub a_is : f.a ≡ Some a
  pub tail : f.t ≡ Some t

-- the secondary queue is to be all of the rest
pub record Promotes (own first : NodeName) (f : Frame) : Type 0 where
  pub fronts : Fronts own (Some first) f
  pub why_is : f.why ≡ why.Promotion

-- and its last has the node t
pub record Promoting (own first t : NodeName) (f : Frame) : Type 0 where
  pub fronts : Fronts own (Some first) f
  pub tail : f.t ≡ Some t
