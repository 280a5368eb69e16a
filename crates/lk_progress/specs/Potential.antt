-- A number of a machine that every act lowers which changes something, but for pauses.
use Rattle.std.specs.Prelude.{List, [], ◌∷◌, ◌≡◌, ◌≢◌, ◌⊎◌, ◌<◌, ◌≤◌, ◌+◌, ◌-◌, ◌*◌, ℕ, Option, Some, None, Bool, true, false, length}
use Rattle.std.proofs.Common.{zero, suc}
use Rattle.lk_names.specs.History.{LockHistory}
use Rattle.lk_names.specs.declared.names.LockName.{LockName}
use Rattle.lk_names.specs.declared.events.Act.{Act}
use Rattle.lk_names.specs.declared.events.Event.{Event}
use Rattle.lk_names.specs.declared.events.Act.TheVariants.{Step, Preempt, Resume}
use Rattle.std.specs.Prelude.{if◌then◌else◌, nat_lt}
use Rattle.lk_rows.specs.Machine.{handlers_at}
use Rattle.lk_rows.specs.Programs.{handlers_of, program_at}
use Rattle.lk_rows.specs.Acts.{processor_of}
use Rattle.lk_law.specs.MachineLaws.{ShowsLawful}
use Rattle.lk_rows.specs.declared.parts.Frame.{Frame}
use Rattle.lk_rows.specs.declared.parts.Pc.{Pc}
use Rattle.lk_rows.specs.Machine.{Machine, frame_at, top_frame}
use Rattle.lk_rows.specs.Moves.{program_of}
use Rattle.lk_rows.specs.Acts.{next}
use Rattle.lk_law.specs.Agree.{halts}
use Rattle.lk_law.specs.Cna.{moves_aside}
use Rattle.lk_law.specs.Sound.{ShowsAll, world}
use Rattle.lk_names.specs.declared.names.Mode.{Mode}
use Rattle.lk_progress.specs.Measure.{left_in, most_rows, is_turn, turn_of}
use Rattle.lk_progress.specs.Spots.{TurnsOnTheSpot}

-- what is left of a frame: 23 for each operation that has not ended, of which none has more rows
-- left, and the rows that are left of the one at its position; in `cna` 31
abbrev pub weight_of : Machine → ℕ → Option Frame → ℕ
weight_of m p None = 0
weight_of m p (Some f) = (length (program_of m p f) - f.«at») * most_rows m.setup.mode + left_in m.setup.mode f

-- the sum of the first so many
abbrev pub sum_below : ℕ → (ℕ → ℕ) → ℕ
sum_below zero F = 0
sum_below (suc n) F = sum_below n F + F n

-- what is left of all frames of a processor, and of all processors
abbrev pub cpu_weight : Machine → ℕ → ℕ
cpu_weight m p = sum_below 6 (λ c. weight_of m p (frame_at m (record { cpu = p; ctx = c })))

abbrev pub potential : Machine → ℕ
potential m = sum_below (length m.cpus) (λ p. cpu_weight m p)

-- the handlers that are still to come: as much for each operation of theirs, and once more
abbrev pub pending_weight : Machine → ℕ → ℕ
pending_weight m p =
    sum_below (handlers_of m.setup p)
    (λ i. if nat_lt i (handlers_at m p) then 0 else length (program_at m.setup p (i + 1)) * most_rows m.setup.mode + most_rows m.setup.mode)

-- both
abbrev pub budget : Machine → ℕ
budget m = potential m + sum_below (length m.cpus) (λ p. pending_weight m p)

-- how far the frames of a processor are from the ends of their turns, and those of all processors
abbrev pub cpu_turns : Machine → ℕ → ℕ
cpu_turns m p = sum_below 6 (λ c. turn_of (world m) (frame_at m (record { cpu = p; ctx = c })))

abbrev pub turns : Machine → ℕ
turns m = sum_below (length m.cpus) (λ p. cpu_turns m p)

-- how far a frame is at most from the end of its turn
abbrev pub most_turns : Mode → ℕ → ℕ
most_turns mode processors = if moves_aside mode then 6 * processors + 3 else 2

-- What one row may cost: itself, and two for each frame whose turn it may spoil by changing a word, of the six
-- that a processor can have. In `cna` it may lengthen the queue that a head walks along.
abbrev pub cost : Mode → ℕ → ℕ
cost mode processors = processors * (6 * most_turns mode processors) + 1

-- The price of all that is still to come: the cost of each row that the budget counts, and the turns.
abbrev pub price : Machine → ℕ
price m = budget m * cost m.setup.mode (length m.cpus) + turns m

-- the act preempts a processor, or resumes it
abbrev pub is_pause : Act → Bool
is_pause (Preempt p) = true
is_pause (Resume p) = true
is_pause _ = false

-- The step of a processor, which leads from m to n, is a row of a turn: the rows that are left are as many as
-- before, and of the turns fewer.
pub record TurnIsMade (m n : Machine) (p : ℕ) : Type 0 where
  pub place : Pc
  pub here : (top_frame m p).place ≡ Some place
  pub turn : is_turn place ≡ true
  pub left : budget n ≡ budget m
  pub fewer : turns n < turns m

-- The act leads nobody on: it is a pause, or a step of a head that turns on the spot.
abbrev pub LeadsNobodyOn : Machine → Act → Type 0
LeadsNobodyOn m a = (is_pause a ≡ true) ⊎ ((p : ℕ) × (a ≡ Step p) × TurnsOnTheSpot m p)

-- Where no processor halts every act changes nothing, or lowers the budget; or it leads nobody on, and leaves the
-- budget and the price; or it is a row of a turn.
abbrev pub ActsLower : Type 0
ActsLower = (m : Machine) (hs : LockName → LockHistory) (a : Act)
    → ShowsAll m hs → halts m.setup.mode ≡ false → processor_of a < length m.cpus
    → ((next m a).0 ≡ m)
    ⊎ (budget (next m a).0 < budget m)
    ⊎ (LeadsNobodyOn m a × (budget (next m a).0 ≡ budget m) × (price (next m a).0 ≡ price m))
    ⊎ ((p : ℕ) × (a ≡ Step p) × TurnIsMade m (next m a).0 p)

-- So it changes nothing, or lowers the price, or leads nobody on and leaves the price.
abbrev pub PriceFalls : Type 0
PriceFalls = (m : Machine) (hs : LockName → LockHistory) (a : Act)
    → ShowsAll m hs → halts m.setup.mode ≡ false → processor_of a < length m.cpus
    → ((next m a).0 ≡ m)
    ⊎ (price (next m a).0 < price m)
    ⊎ (LeadsNobodyOn m a × (price (next m a).0 ≡ price m))

-- a run in which so many acts change the machine and lead somebody on
abbrev pub HasChanges : Machine → List Act → ℕ → Type 0
HasChanges m [] k = k ≡ 0
HasChanges m (a ∷ acts) k =
    (processor_of a < length m.cpus)
    × (((((next m a).0 ≡ m) ⊎ LeadsNobodyOn m a) × HasChanges (next m a).0 acts k)
    ⊎ ((j : ℕ) × (k ≡ suc j) × ((next m a).0 ≢ m) × (LeadsNobodyOn m a → ⊥) × HasChanges (next m a).0 acts j))

-- No run has more of them than the price, whatever others do, and whatever interrupts come.
abbrev pub RunsAreShort : Type 0
RunsAreShort = (m : Machine) (es : List Event) (acts : List Act) (k : ℕ) → ShowsLawful m es
    → halts m.setup.mode ≡ false → HasChanges m acts k → k ≤ price m
