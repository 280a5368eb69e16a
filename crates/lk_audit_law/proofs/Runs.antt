-- A run from rest is read.
use Rattle.std.proofs.Common.{◌≡◌, ◌≤◌, List, [], ◌∷◌, length, refl, ◌∙◌, subst, arith}
use Rattle.lk_names.specs.declared.events.Act.{Act}
use Rattle.lk_rows.specs.Machine.{Machine}
use Rattle.lk_rows.specs.Acts.{next}
use Rattle.lk_rows.specs.Run.{at_rest, machine_after, events_of}
use Rattle.lk_names.specs.Lawful.{IsLawful}
use Rattle.lk_rows.specs.Rules.{rules_of}
use Rattle.lk_law.specs.MachineLaws.{ActKeeps, RestShows, RunKeeps, AreInRange}
use Rattle.lk_replay.specs.Transcript.{history_of_run}
use Rattle.lk_audit_law.specs.Laws.{RunsAreRead}
use Rattle.lk_rows.specs.declared.setup.Setup.{Setup}
use Rattle.lk_rows.specs.Programs.{IsLawfulSetup}
use Rattle.lk_forms.specs.Grammar.{cpus_of}
use Rattle.lk_forms.specs.declared.limits.TheConstants.{MAX_ACTS}
use Rattle.lk_audit_law.proofs.Histories.{AreTold, run_follows, are_told, are_read}

pub setup_after : ((m : Machine) (a : Act) → (next m a).0.setup ≡ m.setup) → (m : Machine) (acts : List Act)
    → (machine_after m acts).setup ≡ m.setup
setup_after same m [] = refl
setup_after same m (a ∷ acts) = setup_after same (next m a).0 acts ∙ same m a

module _ (keeps : ActKeeps) (rests : RestShows) (runs : RunKeeps) (same : (m : Machine) (a : Act) → (next m a).0.setup ≡ m.setup) where
  pub run_lawful : (setup : Setup) (acts : List Act) → IsLawfulSetup setup → AreInRange (cpus_of setup) acts
      → IsLawful (rules_of setup) (events_of (history_of_run setup acts))
  run_lawful setup acts lawful range =
      subst (λ s. IsLawful (rules_of s) (events_of (history_of_run setup acts))) (setup_after same (at_rest setup) acts)
      (runs setup acts lawful range).lawful

  pub run_told : (setup : Setup) (acts : List Act) → IsLawfulSetup setup → AreInRange (cpus_of setup) acts
      → length acts ≤ MAX_ACTS → AreTold setup 0 (history_of_run setup acts)
  run_told setup acts lawful range few =
      are_told setup lawful (history_of_run setup acts) 0 []
      (run_follows keeps same acts 1 0 (at_rest setup) [] range (rests setup lawful) (omega (arith, few)) (omega arith))
      tt (omega arith) (run_lawful setup acts lawful range)

  pub runs_are_read : RunsAreRead
  runs_are_read setup acts lawful range few =
      are_read setup (history_of_run setup acts) 0 (run_told setup acts lawful range few)
