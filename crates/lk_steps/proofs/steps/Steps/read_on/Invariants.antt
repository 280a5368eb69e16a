use Rattle.std.proofs.Common.{◌-◌, ◌^◌}
use Rattle.lk_text.specs.Reader.{looked_at}
use Rattle.lk_steps.specs.Told.{CanGoOn}
use Rattle.lk_steps.proofs.steps.Steps.read_on.Given as goal

abbrev pub invariant-lines : goal.invariant-lines
invariant-lines g l = record {
  ready : CanGoOn l.self.told;
}

abbrev pub decreases-lines : goal.decreases-lines
decreases-lines g l = 2 ^ 30 - looked_at l.self.reader
