use Rattle.lk_domain_law.proofs.Leads.{few_calls_go_on, somebody_goes_on}
use Rattle.lk_domain_law.proofs.laws.standing_domains_go_on.Goals as goal

pub returns : goal.returns
returns c = record { leads = somebody_goes_on; few = few_calls_go_on }
