use Rattle.lk_touch.proofs.TouchedRows.{steps_stay_among}
use Rattle.lk_touch.proofs.laws.steps_stay_among_others.Goals as goal

pub returns : goal.returns
returns c = steps_stay_among
