-- Where processors halt: a number of a machine that every act lowers which changes something and leads somebody on, but
-- for the ends of halts that no kick makes.
use Rattle.std.specs.Prelude.{List, [], ◌∷◌, ◌≡◌, ◌≢◌, ◌⊎◌, ◌<◌, ◌≤◌, ◌+◌, ◌-◌, ◌*◌, ℕ, Option, Some, None, Bool, true, false, length}
use Rattle.std.specs.Prelude.{if◌then◌else◌, nat_lt}
use Rattle.std.proofs.Common.{suc}
use Rattle.lk_names.specs.History.{LockHistory}
use Rattle.lk_names.specs.declared.names.LockName.{LockName}
use Rattle.lk_names.specs.declared.names.Waiter.{Waiter}
use Rattle.lk_names.specs.declared.events.Act.{Act}
use Rattle.lk_names.specs.declared.events.Event.{Event}
use Rattle.lk_names.specs.declared.events.Act.TheVariants.{Step, Nudge}
use Rattle.lk_rows.specs.declared.setup.Setup.{Setup}
use Rattle.lk_rows.specs.declared.parts.Frame.{Frame}
use Rattle.lk_rows.specs.Machine.{Machine, frame_at, handlers_at, kicked_at}
use Rattle.lk_rows.specs.Moves.{program_of}
use Rattle.lk_rows.specs.Programs.{IsLawfulSetup, handlers_of, program_at}
use Rattle.lk_rows.specs.Acts.{next, processor_of}
use Rattle.lk_rows.specs.Run.{at_rest}
use Rattle.lk_law.specs.Agree.{halts}
use Rattle.lk_law.specs.MachineLaws.{ShowsLawful}
use Rattle.lk_law.specs.Sound.{ShowsAll, world}
use Rattle.lk_progress.specs.HaltingMeasure.{halting_left, halting_turn_of, longest_turn}
use Rattle.lk_progress.specs.Potential.{sum_below, is_pause}
use Rattle.lk_progress.specs.Runs.{GoesAround}

-- what is left of a frame: 28 for each operation that has not ended, of which none has more rows left but for turns, and
-- the rows that are left of the one at its position
abbrev pub halting_weight : Machine → ℕ → Option Frame → ℕ
halting_weight m p None = 0
halting_weight m p (Some f) = (length (program_of m p f) - f.«at») * 28 + halting_left f

-- what is left of all frames of a processor
abbrev pub halting_cpu_weight : Machine → ℕ → ℕ
halting_cpu_weight m p = sum_below 6 (λ c. halting_weight m p (frame_at m (record { cpu = p; ctx = c })))

-- the handlers that are still to come: as much for each operation of theirs, and once more
abbrev pub halting_pending : Machine → ℕ → ℕ
halting_pending m p =
    sum_below (handlers_of m.setup p)
    (λ i. if nat_lt i (handlers_at m p) then 0 else length (program_at m.setup p (i + 1)) * 28 + 28)

-- both, of all processors
abbrev pub halting_budget : Machine → ℕ
halting_budget m =
    sum_below (length m.cpus) (λ p. halting_cpu_weight m p) + sum_below (length m.cpus) (λ p. halting_pending m p)

-- how far the frames of a processor are from the ends of their turns
abbrev pub halting_cpu_turns : Machine → ℕ → ℕ
halting_cpu_turns m p =
    sum_below 6 (λ c. halting_turn_of (world m) (record { cpu = p; ctx = c }) (frame_at m (record { cpu = p; ctx = c })))

-- how far the six frames of a processor are at most from the ends of their turns, by the spin bound
abbrev pub six_turns : ℕ → ℕ
six_turns spins = 6 * longest_turn spins

-- a kick that is remembered will end a halt, and so renew a turn
abbrev pub kick_turns : ℕ → Bool → ℕ
kick_turns spins true = six_turns spins + 1
kick_turns spins false = 0

-- the turns of a processor's frames, and those that a kick will renew; and those of all processors
abbrev pub halting_debt : Machine → ℕ → ℕ
halting_debt m p = halting_cpu_turns m p + kick_turns m.setup.spins (kicked_at m p)

abbrev pub halting_turns : Machine → ℕ
halting_turns m = sum_below (length m.cpus) (λ p. halting_debt m p)

-- What one row may cost: itself, and all turns, which it may spoil by changing a word; and once more all turns, which
-- may be renewed by kicks.
abbrev pub halting_cost : ℕ → ℕ → ℕ
halting_cost spins processors = processors * (2 * six_turns spins + 1) + 1

-- The price of all that is still to come: the cost of each row that the budget counts, and the turns.
abbrev pub halting_price : Machine → ℕ
halting_price m = halting_budget m * halting_cost m.setup.spins (length m.cpus) + halting_turns m

-- no frame has more turns of a spin left than the spin bound says
abbrev pub SpinsAreFew : Machine → Type 0
SpinsAreFew m = (u : Waiter) (f : Frame) → frame_at m u ≡ Some f → f.left ≤ m.setup.spins

-- the act ends a halt without a kick
abbrev pub is_nudge : Act → Bool
is_nudge (Nudge p) = true
is_nudge _ = false

-- The act leads nobody on: it is a pause, or a step of a head that goes around.
abbrev pub HaltingLeadsNobodyOn : Machine → Act → Type 0
HaltingLeadsNobodyOn m a = (is_pause a ≡ true) ⊎ ((p : ℕ) × (a ≡ Step p) × GoesAround m p)

-- Where processors halt every act changes nothing, or lowers the budget; or it ends a halt without a kick, and leaves the
-- budget; or it leads nobody on, and leaves the budget and the price; or it is a step that leaves the budget, and brings
-- an end of a turn nearer: a row of a turn, or the end of a halt by a kick, which is remembered no more.
abbrev pub HaltingActsLower : Type 0
HaltingActsLower = (m : Machine) (hs : LockName → LockHistory) (a : Act)
    → ShowsAll m hs → halts m.setup.mode ≡ true → SpinsAreFew m → processor_of a < length m.cpus
    → ((next m a).0 ≡ m)
    ⊎ (halting_budget (next m a).0 < halting_budget m)
    ⊎ ((is_nudge a ≡ true) × (halting_budget (next m a).0 ≡ halting_budget m))
    ⊎ (HaltingLeadsNobodyOn m a × (halting_budget (next m a).0 ≡ halting_budget m) × (halting_price (next m a).0 ≡ halting_price m))
    ⊎ ((p : ℕ) × (a ≡ Step p) × (halting_budget (next m a).0 ≡ halting_budget m) × (halting_turns (next m a).0 < halting_turns m))

-- So it changes nothing, or lowers the price, or leads nobody on and leaves the price; or it ends a halt without a kick,
-- and raises the price by less than the cost of one row.
abbrev pub HaltingPriceFalls : Type 0
HaltingPriceFalls = (m : Machine) (hs : LockName → LockHistory) (a : Act)
    → ShowsAll m hs → halts m.setup.mode ≡ true → SpinsAreFew m → processor_of a < length m.cpus
    → ((next m a).0 ≡ m)
    ⊎ (halting_price (next m a).0 < halting_price m)
    ⊎ (HaltingLeadsNobodyOn m a × (halting_price (next m a).0 ≡ halting_price m))
    ⊎ ((is_nudge a ≡ true)
    × (halting_price (next m a).0 < halting_price m + halting_cost m.setup.spins (length m.cpus)))

-- a run in which k acts change the machine and lead somebody on, and j others end a halt without a kick
abbrev pub HasHaltingChanges : Machine → List Act → ℕ → ℕ → Type 0
HasHaltingChanges m [] k j = (k ≡ 0) × (j ≡ 0)
HasHaltingChanges m (a ∷ acts) k j =
    (processor_of a < length m.cpus)
    × (((((next m a).0 ≡ m) ⊎ HaltingLeadsNobodyOn m a) × HasHaltingChanges (next m a).0 acts k j)
    ⊎ ((i : ℕ) × (j ≡ suc i) × (is_nudge a ≡ true) × ((next m a).0 ≢ m) × HasHaltingChanges (next m a).0 acts k i)
    ⊎ ((i : ℕ) × (k ≡ suc i) × (is_nudge a ≡ false) × ((next m a).0 ≢ m) × (HaltingLeadsNobodyOn m a → ⊥)
    × HasHaltingChanges (next m a).0 acts i j))

-- No run has more of them than the price, and the cost of a row for each halt that ends without a kick: whatever others
-- do, and whatever interrupts come.
abbrev pub HaltingRunsAreShort : Type 0
HaltingRunsAreShort = (m : Machine) (es : List Event) (acts : List Act) (k j : ℕ) → ShowsLawful m es
    → halts m.setup.mode ≡ true → SpinsAreFew m → HasHaltingChanges m acts k j
    → k ≤ halting_price m + j * halting_cost m.setup.spins (length m.cpus)

-- Where processors halt, no run from rest has more acts that change the machine and lead somebody on than the rows of
-- the budget at rest, and the halts that end without a kick, times what a row may cost. The handlers may be as many as
-- they like.
abbrev pub HaltingRunsEnd : Type 0
HaltingRunsEnd = (setup : Setup) (acts : List Act) (k j : ℕ)
    → IsLawfulSetup setup → halts setup.mode ≡ true
    → HasHaltingChanges (at_rest setup) acts k j
    → k ≤ (halting_budget (at_rest setup) + j) * halting_cost setup.spins (length setup.topology.sockets.items)
