use Rattle.std.proofs.Common.{◌≡◌, ◌<◌}
use Rattle.lk_rows.specs.Acts.{processor_of}
use Rattle.lk_reach.specs.Explored.{IsStart}
use Rattle.lk_reach.specs.Reach.{cpus_of}
use Rattle.lk_explore.proofs.reading.Start.repeat.Given as goal

-- the machine is where the plan begins
abbrev pub invariant-loop-made : goal.invariant-loop-made
invariant-loop-made l = record {
  start : IsStart l.self.plan l.self.machine;
  setup : l.self.machine.setup ≡ l.fn.self.machine.setup;
  extras : l.self.plan.extras ≡ l.fn.self.plan.extras;
  range : processor_of l.act < cpus_of l.self.machine.setup;
}
