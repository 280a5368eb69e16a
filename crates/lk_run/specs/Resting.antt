-- Where a call that queues rests between two polls, and what a turn of it does.
use Rattle.std.specs.Prelude.{◌≡◌, ℕ, Bool, Option, Some}
use Rattle.std.specs.Option.{ForSome}
use Rattle.lk_word.specs.declared.spin_word.NodeName.{NodeName}
use Rattle.lk_rows.specs.declared.parts.Frame.{Frame}
use Rattle.lk_rows.specs.declared.parts.Pc.{Pc}
use Rattle.lk_rows.specs.declared.parts.Pc.TheVariants.{V1, P3, N1, G4, G6, G7, G10, C1, C2}
use Rattle.lk_domain.specs.Paths.{Any}
use Rattle.lk_domain.specs.Calls.{told}
use Rattle.lk_domain.specs.Seats.{IsOf, calls_of}
use Rattle.lk_domain.specs.Words.{IsNode}
use Rattle.lk_domain.specs.declared.cpu.Cpu.{Cpu}
use Rattle.lk_domain.specs.declared.plan.Plan.{Plan}
use Rattle.lk_run.specs.Frames.{Owns, Fronts, Skips}
use Rattle.lk_run.specs.Phases.{Start, Arrives, newest}
use Rattle.lk_run.specs.Turns.{Turn}
use Rattle.lk_run.specs.Words.{Waits, Looked, Has}
use Rattle.lk_run.specs.declared.call.Call.{Call}
use Rattle.lk_run.specs.declared.rest.Head.{Head}
use Rattle.lk_run.specs.declared.rest.Rest.{Rest}
use Rattle.lk_run.specs.declared.rest.Rest.TheVariants as rest

-- the row of which it makes a look next
abbrev pub row_at : Rest → Pc
row_at rest.Spins = V1
row_at rest.Pends = P3
row_at rest.Bare = N1
row_at (rest.Joins j) = G4
row_at (rest.Queues own) = G6
row_at (rest.Leads h) = G7
row_at (rest.Hands h) = G10
row_at (rest.Chooses h) = C1
row_at (rest.Passes x) = C2

-- what its frame has there
abbrev pub frame_at : Rest → Frame → Type 0
frame_at rest.Spins = Any
frame_at rest.Pends = Any
frame_at rest.Bare = Any
frame_at (rest.Joins j) = Owns j.own
frame_at (rest.Queues own) = Owns own
frame_at (rest.Leads h) = Fronts h.own h.second
frame_at (rest.Hands h) = Fronts h.own h.second
frame_at (rest.Chooses h) = Fronts h.own h.second
frame_at (rest.Passes x) = Skips x.head.own x.head.second x.skipped.first x.skipped.last

-- the nodes of a queue head are of the domain
pub record AreNodes (k : Plan) (h : Head) : Type 0 where
  pub own : IsNode k h.own
  pub second : ForSome h.second (IsNode k)

-- the nodes that it names are of the domain
abbrev pub HasNodes : Plan → Rest → Type 0
HasNodes k rest.Spins = Unit {0}
HasNodes k rest.Pends = Unit {0}
HasNodes k rest.Bare = Unit {0}
HasNodes k (rest.Joins j) = IsNode k j.own
HasNodes k (rest.Queues own) = IsNode k own
HasNodes k (rest.Leads h) = AreNodes k h
HasNodes k (rest.Hands h) = AreNodes k h
HasNodes k (rest.Chooses h) = AreNodes k h
HasNodes k (rest.Passes x) = AreNodes k x.head × IsNode k x.skipped.first × IsNode k x.skipped.last

-- a head that has passed over waiters knows the mark of the first
abbrev pub KnowsIn : Rest → Option (NodeName × Bool) → Type 0
KnowsIn rest.Spins known = Unit {0}
KnowsIn rest.Pends known = Unit {0}
KnowsIn rest.Bare known = Unit {0}
KnowsIn (rest.Joins j) known = Unit {0}
KnowsIn (rest.Queues own) known = Unit {0}
KnowsIn (rest.Leads h) known = Unit {0}
KnowsIn (rest.Hands h) known = Unit {0}
KnowsIn (rest.Chooses h) known = Unit {0}
KnowsIn (rest.Passes x) known = known ≡ Some (x.skipped.first, x.skipped.mark)

abbrev pub KnowsAt : Rest → Cpu → Type 0
KnowsAt r cpu = KnowsIn r (told (newest (calls_of cpu).frames))

pub record Fits (k : Plan) (r : Rest) (cpu : Cpu) : Type 0 where
  pub nodes : HasNodes k r
  pub knows : KnowsAt r cpu

-- the call that began so rests there
abbrev pub Rests : Call → Rest → Start → Cpu → Option ℕ → Type 0
Rests w r s cpu told = Waits w (row_at r) (frame_at r) s cpu told

-- and a poll is due
abbrev pub Owes : Call → Rest → Start → Cpu → Option ℕ → Type 0
Owes w r s cpu told = Looked w (row_at r) (frame_at r) s cpu told

-- some call rests there
pub record RestsAt (w : Call) (r : Rest) (cpu : Cpu) : Type 0 where
  pub domain : IsOf cpu w.domain.now
  pub fits : Fits w.domain.now.plan r cpu
  pub start : Start
  pub told : Option ℕ
  pub waits : Rests w r start cpu told

-- A turn of a call that queues and stood at the row, and one of a call whose first row met a word that
-- was not free.

abbrev pub Turns : Call → Pc → (Frame → Type 0) → Option Rest → Cpu → Cpu → Type 0
Turns w c P next old new = Turn Rest (Waits w c P) (Has w) (Fits w.domain.now.plan) (Owes w) next old new

abbrev pub Arrived : Call → ℕ → Start → Cpu → Option ℕ → Type 0
Arrived w met = Arrives w.domain.now w.verb w.lock met

abbrev pub Turned : Call → ℕ → Option Rest → Cpu → Cpu → Type 0
Turned w met next old new = Turn Rest (Arrived w met) (Has w) (Fits w.domain.now.plan) (Owes w) next old new

-- a call whose first row met that word is to go on by it
pub record Came (w : Call) (met : ℕ) (cpu : Cpu) : Type 0 where
  pub domain : IsOf cpu w.domain.now
  pub start : Start
  pub told : Option ℕ
  pub arrives : Arrived w met start cpu told
