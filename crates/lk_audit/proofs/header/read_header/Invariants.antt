use Rattle.std.proofs.Common.{◌≡◌, ◌≤◌, ◌-◌, ◌^◌, false, List, ℕ, Option}
use Rattle.lk_text.specs.Reader.{looked_at}
use Rattle.lk_forms.specs.Grammar.{has_go}
use Rattle.lk_forms.specs.Reader.{reading}
use Rattle.lk_audit_forms.specs.Grammar.{in_header}
use Rattle.lk_audit.specs.Stands.{Stands, IsSaid}
use Rattle.lk_audit.proofs.header.read_header.Given as goal

abbrev pub invariant-lines : goal.invariant-lines
invariant-lines g l = record {
  not_gone : has_go (reading l.header) ≡ false;
  stands : (input : Option (List ℕ))
      → Stands input l.fn.reader (g.S.Source.left l.fn.source) (in_header (reading l.fn.header))
      → Stands input l.reader (g.S.Source.left l.source) (in_header (reading l.header));
  said : IsSaid (reading l.fn.header) → IsSaid (reading l.header);
  later : g.S.Source.faults l.fn.source ≤ g.S.Source.faults l.source;
}

abbrev pub decreases-lines : goal.decreases-lines
decreases-lines g l = 2 ^ 30 - looked_at l.reader
