-- Who a seat is.
use Rattle.std.specs.Prelude.{ℕ, List, Option}
use Rattle.lk_domain.specs.Ledgers.{Past}
use Rattle.lk_domain.specs.declared.plan.Plan.{Plan}

-- its domain's plan, the number of its processor, what it keeps of the numbers that it took over;
-- where it is the seat that deals the numbers, the next one; and the locks whose values it has out, the
-- newest first
pub record Who : Type 0 where
  pub plan : Plan
  pub number : Option ℕ
  pub ended : List Past
  pub dealt : Option ℕ
  pub outs : List ℕ
