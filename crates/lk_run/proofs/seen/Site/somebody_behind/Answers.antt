use Rattle.std.proofs.Common.{Some, ap, nat_lt, sym}
use Rattle.lk_run.proofs.Names.{Linked, sight_by, sight_of, terms_of}
use Rattle.lk_run.proofs.seen.Site.somebody_behind.Goals as goal

pub returns : goal.returns
returns c =
    let x = c.args.self.now in
    let z = sight_by (sight_of (terms_of x.domain.now.plan) x.cpu (Some c.args.runs)) (Linked (Some c.args.next) c.args.mark) in
    c.somebody.ensures z (ap (nat_lt c.args.runs) (sym c.threshold.ensures)) (sym c.is_local.ensures)
