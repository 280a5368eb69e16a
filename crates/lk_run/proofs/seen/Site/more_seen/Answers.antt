use Rattle.std.proofs.Common.{ap, sym, ◌∙◌}
use Rattle.lk_run.proofs.Names.{more_by, Linked, sight_by, sight_of, terms_of}
use Rattle.lk_run.proofs.seen.Site.more_seen.Goals as goal

pub returns-in-None : goal.returns-in-None
returns-in-None c r =
    let x = c.args.self.now in
    let z = sight_by (sight_of (terms_of x.domain.now.plan) x.cpu r) (Linked c.args.next c.args.mark) in
    c.nobody.ensures z ∙ ap (more_by z c.args.second) (sym c.in-None.is)

pub returns-in-Some : goal.returns-in-Some
returns-in-Some c r =
    let x = c.args.self.now in
    let z = sight_by (sight_of (terms_of x.domain.now.plan) x.cpu r) (Linked c.args.next c.args.mark) in
    c.somebody_more.ensures r ∙ ap (more_by z c.args.second) (sym c.in-Some.is)
