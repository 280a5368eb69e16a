use Rattle.lk_port.proofs.Names.{domain_of}
use Rattle.lk_domain.proofs.Seating.{of_in}
use Rattle.lk_port.proofs.Shares.{running}
use Rattle.lk_port.proofs.port.Port.runs.Goals as goal

pub returns : goal.returns
returns c =
    let me = c.args.self.now in
    record { runs = c.requires; of = of_in me.cpu (domain_of me.share) me.of.seat (me.of.fit c.requires); stands = running _ _ me.share c.requires c.stands.ensures }
