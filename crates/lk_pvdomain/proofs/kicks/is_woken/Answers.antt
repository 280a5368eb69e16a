use Rattle.lk_pvdomain.proofs.Names.{eqb-false, eqb-true}
use Rattle.lk_pvdomain.proofs.ways.Leads.{un_off, un_on}
use Rattle.lk_pvdomain.proofs.kicks.is_woken.Goals as goal

pub returns-clause-woken : goal.returns-clause-woken
returns-clause-woken c e = c.wake.ensures.step.wakes (eqb-false _ _ (un_on _ e))

pub returns-clause-stays : goal.returns-clause-stays
returns-clause-stays c e = c.wake.ensures.step.stays (eqb-true _ _ (un_off _ e))
