use Rattle.std.proofs.Common.{◌<◌, ◌≡◌, [], length, replicate}
use Rattle.lk_rows.specs.Acts.{processor_of}
use Rattle.lk_replay.specs.Run.{CanGoOn, Makes, occurrences_in}
use Rattle.lk_replay.proofs.RunLemmas.{gone_on}
use Rattle.lk_replay.proofs.run.Run.until_event.Given as goal

abbrev pub invariant-loop-made : goal.invariant-loop-made
invariant-loop-made l = record {
  acts : l.self.acts ≡ l.fn.self.acts;
  events : l.self.events ≡ l.fn.self.events;
  ready : CanGoOn (gone_on l.fn.self l.self.machine l.made);
  processor : processor_of l.act < length l.self.machine.cpus;
  made : Makes l.fn.self (gone_on l.fn.self l.self.machine l.made) (replicate l.made l.act);
  none : occurrences_in l.fn.self (replicate l.made l.act) ≡ [];
}
