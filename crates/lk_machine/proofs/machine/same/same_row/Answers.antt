use Rattle.std.proofs.Common.{rules, sym, ◌∙◌}
use Rattle.lk_rows.specs.contracts.Pc.{the_type}
use denote.Enum.Bare.{same_true}
use Rattle.lk_machine.proofs.machine.same.same_row.Goals as goal

pub returns : goal.returns
returns c = λ yes. same_true the_type (search rules) _ _ (sym c.eq.ensures ∙ yes)
