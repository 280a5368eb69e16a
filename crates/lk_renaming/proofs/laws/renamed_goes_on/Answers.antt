use Rattle.lk_renaming.proofs.Goes.{renamed_goes_on, renamed_stands}
use Rattle.lk_renaming.proofs.laws.renamed_goes_on.Goals as goal

pub returns : goal.returns
returns c = record { goes_on = renamed_goes_on; stands = renamed_stands }
