use Rattle.lk_reach.proofs.Names.{slice_get_within}
use Rattle.lk_reach.proofs.Formed.{fold_alike}
use Rattle.lk_reach.proofs.space.Space.known_fold.Goals as goal

pub returns : goal.returns
returns c =
    let v = c.args.self.now in
    let e = c.in_ok-number.ensures in
    let k = c.in_ok-number.number in
    record {
      there = slice_get_within v.folds k e.fold.item e.fold.is;
      other = e.other;
      alike = λ s t has keeps kind. fold_alike v k c.args.fold.now s t c.formed.ensures e.fold keeps has kind;
    }
