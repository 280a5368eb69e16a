use Rattle.std.proofs.Common.{Some, sym}
use Rattle.lk_run.proofs.Names.{Linked, sight_by, sight_of, terms_of}
use Rattle.lk_run.proofs.seen.Site.somebody_more.Goals as goal

pub returns : goal.returns
returns c r =
    let x = c.args.self.now in
    let z = sight_by (sight_of (terms_of x.domain.now.plan) x.cpu r) (Linked (Some c.args.next) c.args.mark) in
    c.somebody.ensures z (sym c.is_local.ensures)
