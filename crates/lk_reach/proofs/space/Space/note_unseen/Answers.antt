use Rattle.lk_reach.proofs.Names.{slice_get_within}
use Rattle.lk_reach.proofs.Formed.{number_alike}
use Rattle.lk_reach.proofs.space.Space.note_unseen.Goals as goal

pub returns : goal.returns
returns c =
    let w = c.number_unseen.new.self in
    let key = c.args.key.now in
    let e = c.in_ok-number.ensures in
    let k = c.in_ok-number.number in
    record {
      there = slice_get_within w.keys k e.found.item e.found.is;
      alike = λ s t has keeps kind. number_alike w k key s t c.formed.ensures e.found keeps has kind;
      grows = e.grows;
      one = e.one;
    }
