-- The rule of a domain's table: what holds between any two steps.
use Rattle.atomic_table.specs.Table.{State}
use Rattle.lk_domain.specs.Keeps.{Slot, Keeps}
use Rattle.lk_domain.specs.Runs.{Runs}
use Rattle.lk_domain.specs.declared.plan.Plan.{Plan}
use Rattle.lk_domain.specs.declared.view.View.{View}

pub record Stand (k : Plan) (s : State Slot View) : Type 0 where
  pub runs : Runs k s
  pub keeps : Keeps k s
