-- The rows of a queue head that chooses its successor. `May` says where the head stands before a
-- row, and `Has` says what the row has done, by what it met.
--
-- Those that the head has passed over are from a, or `skipped`, to b, or `last`. The secondary
-- queue has m, or `second`, for its first node and t for its last. The successor is y, or `next`.
use Rattle.std.specs.Prelude.{◌≡◌, Bool, true, false, Some, None}
use Rattle.lk_word.specs.declared.spin_word.NodeName.{NodeName}
use Rattle.lk_rows.specs.declared.parts.Pc.TheVariants.{C1, C2, C3, C4, C5, C6, C7, C9, C10}
use Rattle.lk_rows.specs.declared.search.First.TheVariants as first
use Rattle.lk_rows.specs.declared.search.More.{More}
use Rattle.lk_rows.specs.declared.search.More.TheVariants as more
use Rattle.lk_domain.specs.declared.cpu.Cpu.{Cpu}
use Rattle.lk_run.specs.Choices.{IsFirstNode, IsMoreNode}
use Rattle.lk_run.specs.Heads.{At, Steps, Looks, LooksOn, IsNodeOf, Fronts, FrontsWith, Precedes}
use Rattle.lk_run.specs.Heads.{Skips, Appends, Ties, Parts, Flushes, Returns, Promotes, Promoting}
use Rattle.lk_run.specs.Phases.{Knows}
use Rattle.lk_run.specs.declared.call.Front.{Front}
use Rattle.lk_run.specs.declared.seen.Behind.{Behind}

-- what the head knows of the first node that it has passed over stays
abbrev pub StillKnows : Cpu → Cpu → Type 0
StillKnows old new = (a : NodeName) (mark : Bool) → Knows a mark old → Knows a mark new

-- the head has made the row C1, and goes on by what it saw behind its own node
pub record HasLookedBehind (head : Front) (behind : Behind) (old new : Cpu) : Type 0 where
  pub node : IsFirstNode head.call.domain.now.plan behind.seen
  pub waits : behind.seen ≡ first.Waits → Looks head C1 Fronts old new
  pub named : (m : NodeName) → behind.seen ≡ first.Promotes m → head.second ≡ Some m
  pub promotes : (m : NodeName) → behind.seen ≡ first.Promotes m
      → Steps head C1 Fronts C3 (Promotes m) old new
  pub chooses : (y : NodeName) → behind.seen ≡ first.Chooses y
      → Steps head C1 Fronts C7 (Precedes head.second y) old new
  pub skips : (a : NodeName) → behind.seen ≡ first.Skips a
      → Steps head C1 Fronts C2 (Skips a a) old new
  pub flushes : (m a : NodeName) → behind.seen ≡ first.Flushes m a
      → Steps head C1 Fronts C3 (Flushes m a) old new
  pub skipped : (a : NodeName) → behind.seen ≡ first.Skips a → Knows a behind.mark new
  pub flushed : (m a : NodeName) → behind.seen ≡ first.Flushes m a → Knows a behind.mark new

-- the head stands at C2, and b is the last that it has passed over
pub record MayLookBeyond (head : Front) (b : NodeName) (cpu : Cpu) : Type 0 where
  pub skipped : NodeName
  pub at : At head C2 (Skips skipped b) cpu

-- the head has made the row C2, and goes on by what it saw behind b
pub record HasLookedBeyond (head : Front) (b : NodeName) (seen : More) (old new : Cpu)
    : Type 0 where
  pub node : IsMoreNode head.call.domain.now.plan seen
  pub skips : (a next : NodeName) → seen ≡ more.Skips next
      → LooksOn head C2 (Skips a b) (Skips a next) old new
  pub appends : (a m y : NodeName) → seen ≡ more.Appends m y
      → Steps head C2 (Skips a b) C3 (Appends m a b y) old new
  pub begins : (a y : NodeName) → seen ≡ more.Begins y
      → Steps head C2 (Skips a b) C5 (Parts a b y) old new
  pub flushes : (a m : NodeName) → seen ≡ more.Flushes m
      → Steps head C2 (Skips a b) C3 (Flushes m a) old new
  pub chooses : (a : NodeName) → seen ≡ more.Chooses
      → Steps head C2 (Skips a b) C7 (Precedes head.second a) old new
  pub knows : StillKnows old new

-- The head has made the row C3: it has read the last node of the secondary queue, in the first. It
-- goes on by what it is to do with that queue.
pub record HasTail (head : Front) (m tail : NodeName) (old new : Cpu) : Type 0 where
  pub node : IsNodeOf head tail
  pub appends : (a b y : NodeName)
      → Steps head C3 (Appends m a b y) C4 (Ties m a b y tail) old new
  pub flushes : (a : NodeName) → Steps head C3 (Flushes m a) C9 (Returns m a tail) old new
  pub promotes : Steps head C3 (Promotes m) C10 (Promoting m tail) old new
  pub knows : StillKnows old new

-- the head stands at C4, has passed over waiters from a on, and has read t
pub record MayAppendMoved (head : Front) (a t : NodeName) (cpu : Cpu) : Type 0 where
  pub second : NodeName
  pub last : NodeName
  pub next : NodeName
  pub at : At head C4 (Ties second a last next t) cpu

-- the head has made the row C4, and is to cut off those that it has passed over
pub record HasAppendedMoved (head : Front) (a t : NodeName) (old new : Cpu) : Type 0 where
  pub goes : (m b y : NodeName) → Steps head C4 (Ties m a b y t) C5 (Parts m b y) old new

-- the head stands at C5, and b is the last that it has passed over
pub record MayCut (head : Front) (b : NodeName) (cpu : Cpu) : Type 0 where
  pub second : NodeName
  pub next : NodeName
  pub at : At head C5 (Parts second b next) cpu

-- the head has made the row C5, and is to store b as the last node of the secondary queue
pub record HasCut (head : Front) (b : NodeName) (old new : Cpu) : Type 0 where
  pub goes : (m y : NodeName) → Steps head C5 (Parts m b y) C6 (Parts m b y) old new

-- the head stands at C6, and the secondary queue is to be from m to b
pub record MaySetTail (head : Front) (m b : NodeName) (cpu : Cpu) : Type 0 where
  pub next : NodeName
  pub at : At head C6 (Parts m b next) cpu

-- the head has made the row C6, and is to count the handoff
pub record HasSetTail (head : Front) (m b : NodeName) (old new : Cpu) : Type 0 where
  pub goes : (y : NodeName) → Steps head C6 (Parts m b y) C7 (Precedes (Some m) y) old new

-- the head stands at C9, has read t, and the secondary queue is to return before a
pub record MayAppendRest (head : Front) (a t : NodeName) (cpu : Cpu) : Type 0 where
  pub second : NodeName
  pub at : At head C9 (Returns second a t) cpu

-- The head has made the row C9: its successor is the first of what was the secondary queue, which
-- is empty now.
pub record HasAppendedRest (head : Front) (a t : NodeName) (old new : Cpu) : Type 0 where
  pub goes : (m : NodeName) → Steps head C9 (Returns m a t) C7 (Precedes None m) old new

-- the head stands at C10, has read t, and the secondary queue is to be the rest of the main queue
pub record MayPromote (head : Front) (t : NodeName) (cpu : Cpu) : Type 0 where
  pub second : NodeName
  pub at : At head C10 (Promoting second t) cpu

-- The head has made the row C10. If it swapped the tail, the first of what was the secondary queue
-- is its successor. Else it polls its link again.
pub record HasTriedToPromote (head : Front) (t : NodeName) (swapped : Bool) (old new : Cpu)
    : Type 0 where
  pub promoted : swapped ≡ true → (m : NodeName)
      → Steps head C10 (Promoting m t) C7 (Precedes None m) old new
  pub others : swapped ≡ false → (m : NodeName)
      → Steps head C10 (Promoting m t) C1 (FrontsWith (Some m)) old new
