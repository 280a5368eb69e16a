use Rattle.std.proofs.Common.{rules, sym, ◌∙◌}
use denote.Enum.Bare.{same_false, same_true}
use Rattle.lk_rows.specs.contracts.Pc.{the_type}
use Rattle.lk_reach.proofs.space.same_row.Goals as goal

pub returns : goal.returns
returns c = record {
  yes = λ yes. same_true the_type (search rules) _ _ (sym c.eq.ensures ∙ yes);
  no = λ no e. same_false the_type _ _ (sym c.eq.ensures ∙ no) e;
}
