use Rattle.lk_reach.proofs.Names.{slice_get_within}
use Rattle.lk_reach.proofs.Formed.{number_alike}
use Rattle.lk_reach.proofs.space.Space.like.Goals as goal

pub returns : goal.returns
returns c =
    let v = c.args.self.now in
    let e = c.in_ok-number.ensures in
    let k = c.in_ok-number.number in
    record {
      there = slice_get_within v.keys k e.item e.is;
      alike = λ s t has keeps kind. number_alike v k c.args.key.now s t c.formed.ensures e keeps has kind;
    }
