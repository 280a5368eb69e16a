use Rattle.std.proofs.Common.{◌≡◌, ◌-◌, ◌^◌}
use Rattle.lk_text.specs.Reader.{looked_at}
use Rattle.lk_reach.specs.Explored.{IsStart}
use Rattle.lk_explore.proofs.reading.Start.read_on.Given as goal

-- the machine is where the plan begins
abbrev pub invariant-lines : goal.invariant-lines
invariant-lines g l = record {
  start : IsStart l.self.plan l.self.machine;
  setup : l.self.machine.setup ≡ l.fn.self.machine.setup;
  extras : l.self.plan.extras ≡ l.fn.self.plan.extras;
}

abbrev pub decreases-lines : goal.decreases-lines
decreases-lines g l = 2 ^ 30 - looked_at l.reader
