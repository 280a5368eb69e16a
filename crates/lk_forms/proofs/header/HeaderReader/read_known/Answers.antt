use Rattle.lk_forms.specs.Words.{words}
use Rattle.lk_forms.proofs.Roomy.{roomy-header_line}
use Rattle.lk_forms.proofs.header.HeaderReader.read_known.Goals as goal

pub invariant_of-self-2 : goal.invariant_of-self-2
invariant_of-self-2 c = record {
  roomy = roomy-header_line c.args.keyword c.args.self.now.setup (words c.args.args.now) c.header_line.new.setup c.in_ok-header_line.ensures c.args.self.now.roomy;
}
