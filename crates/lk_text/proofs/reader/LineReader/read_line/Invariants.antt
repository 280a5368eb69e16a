use Rattle.std.proofs.Common.{◌≤◌, ◌-◌, take}
use Rattle.std.specs.Io.KnownBytes.{Keeps}
use Rattle.lk_text.specs.Feeds.{HasNoFeed}
use Rattle.lk_text.specs.Reader.{pending, unread, KeepsPlace}
use Rattle.lk_text.proofs.reader.LineReader.read_line.Given as goal

abbrev pub invariant-turn : goal.invariant-turn
invariant-turn g l = record {
  bytes : Keeps (unread l.fn.self (g.S.Source.left l.fn.source)) (unread l.self (g.S.Source.left l.source));
  place : KeepsPlace l.fn.self l.self;
  clear : l.clear ≤ l.self.end - l.self.at;
  plain : HasNoFeed (take l.clear (pending l.self));
  later : g.S.Source.faults l.fn.source ≤ g.S.Source.faults l.source;
}

abbrev pub decreases-turn : goal.decreases-turn
decreases-turn g l = 65537 - (l.self.end - l.self.at)
