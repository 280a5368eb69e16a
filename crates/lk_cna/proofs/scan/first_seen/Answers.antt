use Rattle.std.proofs.Common.{sym}
use Rattle.lk_rows.specs.TopRow.{sight_at}
use Rattle.lk_cna.proofs.scan.first_seen.Goals as goal

pub returns-in-Some : goal.returns-in-Some
returns-in-Some c = rw c.in-Some.is (c.somebody.ensures (sight_at c.args.machine.now c.args.cpu c.args.frame) (cc) (sym c.is_local.ensures))

pub returns-in-None : goal.returns-in-None
returns-in-None c = rw c.in-None.is (c.nobody.ensures (sight_at c.args.machine.now c.args.cpu c.args.frame))
