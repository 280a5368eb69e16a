use Rattle.lk_reach.proofs.Formed.{fold_alike}
use Rattle.lk_reach.proofs.space.Space.note_folded.Goals as goal

pub returns : goal.returns
returns c =
    let w = c.number_fold.new.self in
    let e = c.in_ok-number.ensures in
    let k = c.in_ok-number.number in
    record {
      there = e.there;
      other = e.other;
      alike = λ s t has keeps kind. fold_alike w k c.args.fold.now s t c.formed.ensures e.found keeps has kind;
      grows = e.grows;
      parts = e.parts;
      shareds = e.shareds;
      one = e.one;
      folds = e.count;
    }
