use Rattle.lk_progress.proofs.Watching.{takes_in_turn, nobody_watches_anew}
use Rattle.lk_progress.proofs.laws.takes_are_in_turn.Goals as goal

pub returns : goal.returns
returns c = record { turn = takes_in_turn; anew = nobody_watches_anew }
