use Rattle.lk_progress.proofs.InTurn.{few_takes_before, fewer_unwatched, few_takes_from_arrival}
use Rattle.lk_progress.proofs.InTurnAside.{few_takes_aside, few_takes_aside_from_arrival}
use Rattle.lk_progress.proofs.laws.takes_before_are_few.Goals as goal

pub returns : goal.returns
returns c = record {
  waiting = few_takes_before;
  unwatched = fewer_unwatched;
  arrival = few_takes_from_arrival;
  aside = few_takes_aside;
  aside_arrival = few_takes_aside_from_arrival;
}
