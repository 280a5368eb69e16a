use Rattle.std.proofs.Common.{Some, ap, sym, ◌∙◌}
use Rattle.lk_run.proofs.Names.{first_by, Linked, sight_by, sight_of, terms_of}
use Rattle.lk_run.proofs.seen.Site.first_seen.Goals as goal

pub returns-in-None : goal.returns-in-None
returns-in-None c =
    let x = c.args.self.now in
    let z = sight_by (sight_of (terms_of x.domain.now.plan) x.cpu (Some c.args.runs)) (Linked c.args.next c.args.mark) in
    c.nobody.ensures z ∙ ap (first_by z c.args.second) (sym c.in-None.is)
