use Rattle.lk_reach.proofs.Folded.{makes_stands, over_stands, stands_back}
use Rattle.lk_reach.proofs.laws.stand_ins_tell.Goals as goal

pub returns : goal.returns
returns c = record {
  rows = λ plan setup t s begun one other stands row. (
    makes_stands plan setup begun t s one other stands row,
    makes_stands plan setup begun s t other one (stands_back plan setup begun t s one stands) row,
  );
  over = λ plan setup t s begun one other stands. (
    over_stands plan setup begun t s one other stands,
    over_stands plan setup begun s t other one (stands_back plan setup begun t s one stands),
  );
}
