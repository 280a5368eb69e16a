use Rattle.std.proofs.Common.{◌≤◌, ◌-◌, ◌^◌, List, ℕ, Option}
use Rattle.lk_text.specs.Reader.{looked_at}
use Rattle.lk_audit.specs.Auditor.{CanGoOn}
use Rattle.lk_audit.specs.Stands.{StandsBefore}
use Rattle.lk_audit.proofs.history.read_on.Given as goal

abbrev pub invariant-lines : goal.invariant-lines
invariant-lines g l = record {
  goes_on : CanGoOn l.auditor;
  stands : (input : Option (List ℕ))
      → StandsBefore input l.fn.reader (g.S.Source.left l.fn.source) l.fn.auditor
      → StandsBefore input l.reader (g.S.Source.left l.source) l.auditor;
  later : g.S.Source.faults l.fn.source ≤ g.S.Source.faults l.source;
}

abbrev pub decreases-lines : goal.decreases-lines
decreases-lines g l = 2 ^ 30 - looked_at l.reader
