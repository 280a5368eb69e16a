-- What is proved of acts and runs of a machine.
use Rattle.std.specs.Prelude.{◌<◌, ℕ, List, [], ◌∷◌, length}
use Rattle.lk_names.specs.Lawful.{IsLawful}
use Rattle.lk_names.specs.declared.events.Act.{Act}
use Rattle.lk_names.specs.declared.events.Event.{Event}
use Rattle.lk_rows.specs.declared.setup.Setup.{Setup}
use Rattle.lk_rows.specs.Machine.{Machine}
use Rattle.lk_rows.specs.Programs.{IsLawfulSetup}
use Rattle.lk_rows.specs.Acts.{next, processor_of}
use Rattle.lk_rows.specs.Run.{at_rest, history, machine_after, events_of}
use Rattle.lk_law.specs.Sound.{Shows, world}
use Rattle.lk_rows.specs.Rules.{rules_of}
use Rattle.lk_law.specs.Kicked.{ShowsKicks, with_event}

-- the machine shows the history, in its locks and in its halts and kicks, and the history is lawful
pub record ShowsLawful (m : Machine) (es : List Event) : Type 0 where
  pub shows : Shows m es
  pub kicks : ShowsKicks (world m) es
  pub lawful : IsLawful (rules_of m.setup) es

-- Every act keeps it, whatever the machine, the history and the act.
abbrev pub ActKeeps : Type 0
ActKeeps = (m : Machine) (es : List Event) (a : Act) → processor_of a < length m.cpus
    → ShowsLawful m es → ShowsLawful (next m a).0 (with_event es (next m a).1)

-- each act names a processor of the machine
abbrev pub AreInRange : ℕ → List Act → Type 0
AreInRange cpus [] = Unit {0}
AreInRange cpus (a ∷ acts) = (processor_of a < cpus) × AreInRange cpus acts

-- The machine at rest shows the empty history, which is lawful.
abbrev pub RestShows : Type 0
RestShows = (setup : Setup) → IsLawfulSetup setup → ShowsLawful (at_rest setup) []

-- Every schedule from rest has a lawful history, which the machine shows after it.
abbrev pub RunKeeps : Type 0
RunKeeps = (setup : Setup) (acts : List Act) → IsLawfulSetup setup
    → AreInRange (length setup.topology.sockets.items) acts
    → ShowsLawful (machine_after (at_rest setup) acts) (events_of (history (at_rest setup) acts))
