-- The theorems, of one setup.
use Rattle.std.proofs.Common.{◌≡◌, ℕ, true, false, refl}
use Rattle.lk_names.specs.declared.names.Mode.{Mode}
use Rattle.lk_names.specs.declared.names.Mode.TheVariants.{Virt, Native, Cna, Pv}
use Rattle.lk_rows.specs.declared.setup.Setup.{Setup}
use Rattle.lk_rows.specs.Programs.{IsLawfulSetup}
use Rattle.lk_law.specs.Agree.{halts}
use Rattle.lk_law.specs.Cna.{moves_aside}
use Rattle.lk_progress.specs.Ordered.{IsOrdered}
use Rattle.lk_progress.specs.Runs.{HasRoom, OrderedRunsGoOnAside, SomebodyMovesOn, SomebodyLeadsOnHalting}
use Rattle.lk_progress.specs.Fair.{FairRunsFinish, HaltingFairRunsFinish}
use Rattle.lk_order.specs.Claims.{CalmSchedulesFinish, NeverDeadlocks, FairSchedulesFinish}

-- no schedule of an ordered setup with room deadlocks
pub never_deadlocks : (setup : Setup) → SomebodyMovesOn → OrderedRunsGoOnAside → IsLawfulSetup setup
    → (rank : ℕ → ℕ) × IsOrdered rank 32 setup → HasRoom setup → halts setup.mode ≡ false → NeverDeadlocks setup
never_deadlocks setup moves aside lawful ordered room awake = record {
  moves = λ off plain acts range free. moves ordered.0 32 setup acts lawful ordered.1 awake plain room range free;
  aside = λ off acts range free still. aside ordered.0 32 setup acts lawful ordered.1 awake off room range free still;
  halting = λ on. absurd (cc (on, awake));
}

-- where processors halt nobody is moved aside
halting_plain : (mode : Mode) → halts mode ≡ true → moves_aside mode ≡ false
halting_plain Pv e = refl
halting_plain Virt e = cc e
halting_plain Native e = cc e
halting_plain Cna e = cc e

-- nor does one of a setup whose processors may halt
pub never_deadlocks_halting : (setup : Setup) → SomebodyLeadsOnHalting → IsLawfulSetup setup
    → (rank : ℕ → ℕ) × IsOrdered rank 32 setup → halts setup.mode ≡ true → NeverDeadlocks setup
never_deadlocks_halting setup leads lawful ordered on = record {
  moves = λ off. absurd (cc (on, off));
  aside = λ off. absurd (let z = halting_plain setup.mode on in cc (z, off));
  halting = λ here acts range free. leads ordered.0 32 setup acts lawful ordered.1 on range free;
}

-- every fair schedule of one in which no processor halts finishes
pub finishes : (setup : Setup) → FairRunsFinish → IsLawfulSetup setup → (rank : ℕ → ℕ) × IsOrdered rank 32 setup → HasRoom setup
    → halts setup.mode ≡ false → FairSchedulesFinish setup
finishes setup fair lawful ordered room awake schedule is_fair =
    fair ordered.0 32 setup schedule lawful ordered.1 awake room is_fair

-- and of one whose processors may halt, every one in which nudges come to an end
pub finishes_calm : (setup : Setup) → HaltingFairRunsFinish → IsLawfulSetup setup → (rank : ℕ → ℕ) × IsOrdered rank 32 setup
    → halts setup.mode ≡ true → CalmSchedulesFinish setup
finishes_calm setup fair lawful ordered on schedule is_fair ends = fair ordered.0 32 setup schedule lawful ordered.1 on is_fair ends
