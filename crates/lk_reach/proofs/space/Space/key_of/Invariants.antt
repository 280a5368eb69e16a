use Rattle.std.proofs.Common.{◌≡◌, length}
use Rattle.lk_reach.proofs.Names.{HasShared, IsFront}
use Rattle.lk_reach.proofs.Kept.{Numbered}
use Rattle.lk_reach.proofs.space.Space.key_of.Given as goal

-- the parts so far have numbers, and what was met is not forgotten
abbrev pub invariant-loop-cpu : goal.invariant-loop-cpu
invariant-loop-cpu l = record {
  shared : HasShared l.self-inside.shareds.items.items l.shared l.machine;
  each : Numbered l.cpus l.self-inside.parts.items.items l.machine l.cpu;
  parts : IsFront l.fn.self.parts l.self-inside.parts.items.items;
  shareds : IsFront l.fn.self.shareds l.self-inside.shareds.items.items;
  keys : l.self-inside.keys ≡ l.fn.self.keys;
  folds : l.self-inside.folds ≡ l.fn.self.folds;
  forms : l.self-inside.forms.items.items ≡ l.fn.self.forms;
  classes : l.self-inside.classes.items ≡ l.fn.self.classes;
  room : length l.cpus ≡ 8;
}
