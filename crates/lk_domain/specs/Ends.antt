-- What is left of a domain at its end.
use Rattle.std.specs.Prelude.{◌≡◌, ℕ, ◌<◌, ◌≤◌, ◌⊎◌, List, [], ◌∷◌, length, None, Bool, true, false, slice_index_or}
use Rattle.lk_names.specs.declared.ledger.Entry.{Entry}
use Rattle.lk_domain.specs.Places.{places}
use Rattle.lk_names.specs.Journal.{Replays}
use Rattle.lk_domain.specs.Keeps.{IsPast, ArePast}
use Rattle.lk_domain.specs.Ledgers.{Ledger, Past}
use Rattle.lk_domain.specs.Plans.{cpus_of}
use Rattle.lk_domain.specs.Seats.{IsIn, calls_of, ledger_of, view_of}
use Rattle.lk_domain.specs.Views.{newcomer, all_past}
use Rattle.lk_domain.specs.declared.cpu.Cpu.{Cpu}
use Rattle.lk_domain.specs.declared.domain.Domain.{Domain}
use Rattle.lk_domain.specs.declared.plan.Plan.{Plan}
use Rattle.lk_domain.specs.declared.view.View.{View}

abbrev pub In : {A : Type 0} → A → List A → Type 0
In x [] = ⊥
In x (y ∷ ys) = (x ≡ y) ⊎ In x ys

-- what is kept of the number i, from what its processor knows of the ledger
abbrev pub past_at : ℕ → Ledger → Past
past_at i g = record { number = i; own = g.own; looks = g.looks; seen = g.seen }

-- the processor i of the domain, which holds nothing and waits for nothing
pub record Rests (domain : Domain) (i : ℕ) (cpu : Cpu) : Type 0 where
  pub domain_is : IsIn cpu domain
  pub number : cpu.number ≡ i
  pub who : (view_of cpu).who ≡ newcomer domain.plan i
  pub frames : (calls_of cpu).frames ≡ []
  pub holds : (calls_of cpu).holds ≡ []
  pub home : (ledger_of cpu).out ≡ None

-- processors that rest, in order of their numbers
abbrev pub AllRest : Domain → List Cpu → Type 0
AllRest domain cpus = (i : ℕ) (d : Cpu) → i < length cpus → Rests domain i (slice_index_or cpus i d)

-- What is kept of the processors from the number n on is in the list, of processors of whichever kind,
-- which know so much of the ledger.
abbrev pub HasPast : {C : Type 0} → (C → Ledger) → ℕ → List C → List Past → Type 0
HasPast {C} ledger n cpus xs = (i : ℕ) (d : C) → n ≤ i → i < length cpus
    → In (past_at i (ledger (slice_index_or cpus i d))) xs

abbrev pub HasFrom : ℕ → List Cpu → List Past → Type 0
HasFrom n cpus xs = HasPast ledger_of n cpus xs

-- the journal at the end, as the one seat knows it that has all numbers
pub record IsEnd (plan : Plan) (v : View) (js : List Entry) : Type 0 where
  pub replays : Replays plan.balances.items js
  pub past : ArePast plan js (all_past v)
  pub none : (q : ℕ) → cpus_of plan ≤ q → places q js ≡ []

-- The journal at the end of a domain with these processors: it replays, it has of each processor
-- what this knew of it, and no entry of another.
pub record IsFinalOf {C : Type 0} (ledger : C → Ledger) (plan : Plan) (cpus : List C) (js : List Entry) : Type 0 where
  pub replays : Replays plan.balances.items js
  pub past : (i : ℕ) (d : C)
      → i < length cpus
      → IsPast plan js (past_at i (ledger (slice_index_or cpus i d)))
  pub none : (q : ℕ) → length cpus ≤ q → places q js ≡ []

abbrev pub IsFinal : Plan → List Cpu → List Entry → Type 0
IsFinal plan cpus js = IsFinalOf ledger_of plan cpus js

-- so many slots of a closed table are taken, and the others are filled
pub record AreTaken (n : ℕ) (filled : List Bool) : Type 0 where
  pub taken : (i : ℕ) → i < n → slice_index_or filled i false ≡ false
  pub left : (i : ℕ) → n ≤ i → i < length filled → slice_index_or filled i false ≡ true
