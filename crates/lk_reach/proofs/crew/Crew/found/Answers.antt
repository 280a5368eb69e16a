use Rattle.lk_reach.proofs.crew.Crew.found.Goals as goal

pub returns : goal.returns
returns g c = record {
  at = c.args.self.now.at;
  helper = c.in_ok-helper.helper.now;
  is = c.in_ok-helper.ensures;
  place = c.args.self.now.next;
  found = c.in_ok-finding.ensures;
}
