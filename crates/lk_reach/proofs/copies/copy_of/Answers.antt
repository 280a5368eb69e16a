use Rattle.std.proofs.Common.{sym, subst}
use Rattle.lk_reach.proofs.Names.{IsLawfulSetup}
use Rattle.lk_reach.proofs.apart.Copied.{same_setup, tight_lawful}
use Rattle.lk_reach.proofs.copies.copy_of.Goals as goal

pub returns : goal.returns
returns c =
    let z = c.args.setup.now in
    let same = same_setup z c.in_ok-sockets.sockets c.in_ok-locks.locks c.in_ok-progs.progs c.in_ok-irqs.irqs
    c.in_ok-sockets.ensures c.in_ok-locks.ensures c.in_ok-progs.ensures c.in_ok-irqs.ensures in
    record {
      copy = same;
      lawful = subst IsLawfulSetup (sym same) (tight_lawful z c.requires.lawful);
    }
