use Rattle.std.proofs.Common.{◌≡◌, ◌+◌, ◌<◌, length, replicate}
use Rattle.lk_rows.specs.Acts.{processor_of}
use Rattle.lk_rows.specs.Run.{machine_after}
use Rattle.lk_steps.specs.Told.{CanGoOn}
use Rattle.lk_steps.proofs.steps.Steps.repeat.Given as goal

abbrev pub invariant-loop-made : goal.invariant-loop-made
invariant-loop-made g l = record {
  ready : CanGoOn l.self.told;
  made : l.self.told.machine ≡ machine_after l.fn.self.told.machine (replicate l._made l.act);
  acts : l.self.told.acts ≡ l.fn.self.told.acts + l._made;
  processor : processor_of l.act < length l.self.told.machine.cpus;
  reader : l.self.reader ≡ l.fn.self.reader;
}
