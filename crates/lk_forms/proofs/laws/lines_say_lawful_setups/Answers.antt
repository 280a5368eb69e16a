use Rattle.lk_forms.proofs.Lawful.{lawful_setup, limited_cpus, no_acts_before_go}
use Rattle.lk_forms.proofs.laws.lines_say_lawful_setups.Goals as goal

pub returns : goal.returns
returns c = record { lawful = lawful_setup; cpus = limited_cpus; acts = no_acts_before_go }
